-- A history that grows by one action is the replay of the state that the action makes.
use Rattle.std.proofs.Common.{◌≡◌, ℕ, List, [], ◌∷◌, ◌++◌, None, ap, sym, ◌∙◌, refl, subst}
use Rattle.operator_book.proofs.Common.{map-append, ConstsFields, RowFields, Action, OperatorState, opened_state, Operator, operator, actions_of, AreTold, IsReplay}
use Rattle.operator_model.specs.declared.action.Entry.{Entry}
use Rattle.operator_model.specs.declared.output.Output.{Output}
use Rattle.operator_model.specs.Replay.{BookView, operator_of_book, book_after_action}
use Rattle.operator_model.specs.declared.action.SliceRow.{SliceRow}
use Rattle.operator_model.specs.declared.action.Action.TheVariants as actions
use Rattle.operator_model.specs.Machine.{reslice_result, unfit_from, own_step, own_run, IsAllowed}

-- the run of one action more, from any state
after_push : (op : Operator) (actions : List Action) (action : Action)
    → (own_run op (actions ++ action ∷ [])).state ≡ (own_step (operator op.consts op.row (own_run op actions).state) action).state
after_push op [] action = refl
after_push op (first ∷ actions) action = after_push (operator op.consts op.row (own_step op first).state) actions action

told_push : (op : Operator) (history : List Entry) (entry : Entry) → AreTold op history
    → IsAllowed (operator op.consts op.row (own_run op (actions_of history)).state) entry.action
    → entry.outputs ≡ (own_step (operator op.consts op.row (own_run op (actions_of history)).state) entry.action).outputs → AreTold op (history ++ entry ∷ [])
told_push op [] entry told allowed outputs = (allowed, outputs, tt)
told_push op (first ∷ history) entry told allowed outputs =
    (told.0, told.1, told_push (operator op.consts op.row (own_step op first.action).state) history entry told.2 allowed outputs)

pub replay_push : (consts : ConstsFields) (row : RowFields) (history : List Entry) (state after : OperatorState) (entry : Entry) → IsReplay consts row history state
    → IsAllowed (operator consts row state) entry.action → after ≡ (own_step (operator consts row state) entry.action).state → entry.outputs ≡ (own_step (operator consts row state) entry.action).outputs
    → IsReplay consts row (history ++ entry ∷ []) after
replay_push consts row history state after entry replay allowed is outputs = record {
  state_is = is ∙ (ap (λ (s : OperatorState). (own_step (operator consts row s) entry.action).state) replay.state_is
      ∙ (sym (after_push (operator consts row (opened_state consts row)) (actions_of history) entry.action)
      ∙ ap (λ (actions : List Action). (own_run (operator consts row (opened_state consts row)) actions).state) (sym (map-append (λ (e : Entry). e.action) history (entry ∷ [])))));
  told = told_push (operator consts row (opened_state consts row)) history entry replay.told
      (subst (λ (s : OperatorState). IsAllowed (operator consts row s) entry.action) replay.state_is allowed)
      (outputs ∙ ap (λ (s : OperatorState). (own_step (operator consts row s) entry.action).outputs) replay.state_is);
}

-- a book next to one more entry, whose state and outputs are the machine's, is the book after the action
pub recorded_is : (b : BookView) (action : Action) (after : OperatorState) (outputs : List Output)
    → after ≡ (own_step (operator_of_book b) action).state → outputs ≡ (own_step (operator_of_book b) action).outputs
    → ◌≡◌ {A = BookView} record { row = b.row; consts = b.consts; state = after; history = b.history ++ record { action = action; outputs = outputs } ∷ [] } (book_after_action b action)
recorded_is b action after outputs state_is outputs_is = rw (state_is, outputs_is) refl

pub resliced_is : (op : Operator) (from : ℕ) (slice : SliceRow)
    → own_step op (actions.Reslice from slice) ≡ reslice_result op.state from slice
unfolding own_step
resliced_is op from slice = refl

pub reslice_allowed : (op : Operator) (from : ℕ) (slice : SliceRow)
    → unfit_from op from slice ≡ None → IsAllowed op (actions.Reslice from slice)
reslice_allowed op from slice fit = record { mine = refl; not_spent = refl; fit = fit }
