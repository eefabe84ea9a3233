-- An operator's own run grows by one action, or not at all.
use Rattle.std.proofs.Common.{◌≡◌, ℕ, List, [], ◌∷◌, ◌++◌, Option, Some, None, append_assoc, append-nil, refl, sym, ap, ◌∙◌, subst}
use Rattle.run_model.proofs.Common.{filter_map, map-append, filter_map-append, ConstsFields, RowFields, Action, Entry, Output, OperatorState, operator, own_step, own_run, IsAllowed, actions_of, AreTold, IsReplayFrom, Step, action_of, own_steps, Start, isolated_run_from}

-- ---- one action more

module _ (consts : ConstsFields) (row : RowFields) where
  pub state_push : (state : OperatorState) (actions : List Action) (action : Action)
      → (own_run (operator consts row state) (actions ++ action ∷ [])).state ≡ (own_step (operator consts row (own_run (operator consts row state) actions).state) action).state
  state_push state [] action = refl
  state_push state (first ∷ actions) action = state_push (own_step (operator consts row state) first).state actions action

  pub outputs_push : (state : OperatorState) (actions : List Action) (action : Action)
      → (own_run (operator consts row state) (actions ++ action ∷ [])).outputs ≡ (own_run (operator consts row state) actions).outputs ++ (own_step (operator consts row (own_run (operator consts row state) actions).state) action).outputs
  outputs_push state [] action = append-nil (own_step (operator consts row state) action).outputs
  outputs_push state (first ∷ actions) action =
      let next : OperatorState = (own_step (operator consts row state) first).state in
      ap (λ (outputs : List Output). (own_step (operator consts row state) first).outputs ++ outputs) (outputs_push next actions action)
      ∙ sym (append_assoc (own_step (operator consts row state) first).outputs (own_run (operator consts row next) actions).outputs (own_step (operator consts row (own_run (operator consts row next) actions).state) action).outputs)

  told_push : (state : OperatorState) (history : List Entry) (entry : Entry) → AreTold (operator consts row state) history
      → IsAllowed (operator consts row (own_run (operator consts row state) (actions_of history)).state) entry.action
      → entry.outputs ≡ (own_step (operator consts row (own_run (operator consts row state) (actions_of history)).state) entry.action).outputs → AreTold (operator consts row state) (history ++ entry ∷ [])
  told_push state [] entry told allowed outputs = (allowed, outputs, tt)
  told_push state (first ∷ history) entry told allowed outputs =
      (told.0, told.1, told_push (own_step (operator consts row state) first.action).state history entry told.2 allowed outputs)

  pub replay_push : (first : OperatorState) (history : List Entry) (state after : OperatorState) (entry : Entry) → IsReplayFrom consts row first history state
      → IsAllowed (operator consts row state) entry.action → after ≡ (own_step (operator consts row state) entry.action).state → entry.outputs ≡ (own_step (operator consts row state) entry.action).outputs
      → IsReplayFrom consts row first (history ++ entry ∷ []) after
  replay_push first history state after entry replay allowed is outputs = record {
    state_is = is ∙ (ap (λ (s : OperatorState). (own_step (operator consts row s) entry.action).state) replay.state_is
        ∙ (sym (state_push first (actions_of history) entry.action)
        ∙ ap (λ (actions : List Action). (own_run (operator consts row first) actions).state) (sym (map-append (λ (e : Entry). e.action) history (entry ∷ [])))));
    told = told_push first history entry replay.told
        (subst (λ (s : OperatorState). IsAllowed (operator consts row s) entry.action) replay.state_is allowed)
        (outputs ∙ ap (λ (s : OperatorState). (own_step (operator consts row s) entry.action).outputs) replay.state_is);
  }

-- ---- one step more

passes : {X Y : Type 0} (f : X → Option Y) (x : X) (y : Y) → f x ≡ Some y → filter_map f (x ∷ []) ≡ y ∷ []
passes f x y e = rw e refl

fails : {X Y : Type 0} (f : X → Option Y) (x : X) → f x ≡ None → filter_map f (x ∷ []) ≡ []
fails f x e = rw e refl

module _ (row : RowFields) (i : ℕ) (steps : List Step) (step : Step) where
  -- the step is this action of the operator
  pub own_more : (action : Action) → action_of row i step ≡ Some action → own_steps row i (steps ++ step ∷ []) ≡ own_steps row i steps ++ action ∷ []
  own_more action e = filter_map-append (action_of row i) steps (step ∷ []) ∙ ap (λ (actions : List Action). own_steps row i steps ++ actions) (passes (action_of row i) step action e)

  -- the step is none of the operator's
  pub own_same : action_of row i step ≡ None → own_steps row i (steps ++ step ∷ []) ≡ own_steps row i steps
  own_same e =
      filter_map-append (action_of row i) steps (step ∷ [])
      ∙ (ap (λ (actions : List Action). own_steps row i steps ++ actions) (fails (action_of row i) step e) ∙ append-nil (own_steps row i steps))

module _ (consts : ConstsFields) (start : Start) (row : RowFields) (i : ℕ) (steps : List Step) (step : Step) where
  pub alone_same : action_of row i step ≡ None → isolated_run_from consts start row i (steps ++ step ∷ []) ≡ isolated_run_from consts start row i steps
  alone_same e = ap (own_run (operator consts row (start.state row))) (own_same row i steps step e)

  pub alone_state : (action : Action) → action_of row i step ≡ Some action
      → (isolated_run_from consts start row i (steps ++ step ∷ [])).state ≡ (own_step (operator consts row (isolated_run_from consts start row i steps).state) action).state
  alone_state action e =
      ap (λ (actions : List Action). (own_run (operator consts row (start.state row)) actions).state) (own_more row i steps step action e)
      ∙ state_push consts row (start.state row) (own_steps row i steps) action

  pub alone_outputs : (action : Action) → action_of row i step ≡ Some action
      → (isolated_run_from consts start row i (steps ++ step ∷ [])).outputs ≡ (isolated_run_from consts start row i steps).outputs ++ (own_step (operator consts row (isolated_run_from consts start row i steps).state) action).outputs
  alone_outputs action e =
      ap (λ (actions : List Action). (own_run (operator consts row (start.state row)) actions).outputs) (own_more row i steps step action e)
      ∙ outputs_push consts row (start.state row) (own_steps row i steps) action
