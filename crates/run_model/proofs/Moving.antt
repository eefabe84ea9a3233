-- What each kind of step makes of the operators' books.
use Rattle.std.proofs.Common.{◌≡◌, ℕ, List, [], length, Option, Some, None, ◌⊎◌, inl, inr, refl, sym, ap, ◌∙◌, subst, arith}
use Rattle.run_model.proofs.Common.{slice_get, slice_set, cases_eq, length-set, slice_get_within, ConstsFields, RowFields, PlantFields, SliceRow, Action, OperatorState, operator, BookView, book_after_action, Step, Out, action_of, resliced_by, answers_of, CoreView, Acts, Collects, Reslices}
use Rattle.operator_model.specs.declared.action.Action.TheVariants as actions
use Rattle.operator_model.specs.Machine.{own_step}
use Rattle.run_model.specs.declared.step.Step.TheVariants as steps
use Rattle.run_model.proofs.Entries.{get_same, get_other, some_at, same_at}
use Rattle.run_model.proofs.OwnActions.{IsActionAt}
use Rattle.run_model.proofs.Books.{Moves}
use Rattle.run_model.proofs.Answers.{answers_here, answers_else, no_answers}

-- each operator's book moves by its own action of the step, if it has one
abbrev pub EachMoves : PlantFields → Step → CoreView → CoreView → List Out → Type 0
EachMoves plant step old new now = (i : ℕ) (row : RowFields) (book made : BookView) → slice_get plant.rows i ≡ Some row → slice_get old.books i ≡ Some book → slice_get new.books i ≡ Some made
    → Moves (action_of row i step) book made (answers_of i now)

-- ---- an action of one operator

module _ (plant : PlantFields) (step : Step) (k : ℕ) (action : Action) (old new : CoreView) (now : List Out) (at : IsActionAt plant step k action) (acts : Acts k action old new now) where
  moves_here : (i : ℕ) (book made : BookView) → i ≡ k → slice_get old.books i ≡ Some book → slice_get new.books i ≡ Some made → Moves (Some action) book made (answers_of i now)
  moves_here i book made same e f =
      let book_is : acts.book ≡ book = same_at old.books k acts.book book acts.book_is (ap (slice_get old.books) (sym same) ∙ e) in
      let there : slice_get new.books i ≡ Some (book_after_action acts.book action) =
      ap (λ (c : CoreView). slice_get c.books i) acts.new_is
      ∙ (ap (slice_get (slice_set old.books k (book_after_action acts.book action))) same ∙ get_same old.books k (book_after_action acts.book action) (slice_get_within old.books k acts.book acts.book_is)) in
      subst (λ (b : BookView). Moves (Some action) b made (answers_of i now)) book_is (
        acts.allowed,
        same_at new.books i made (book_after_action acts.book action) f there,
        ap (answers_of i) acts.now_is ∙ answers_here i k (own_step (operator acts.book.consts acts.book.row acts.book.state) action).outputs same,
      )

  moves_else : (i : ℕ) (book made : BookView) → (i ≡ k → ⊥) → slice_get old.books i ≡ Some book → slice_get new.books i ≡ Some made → Moves None book made (answers_of i now)
  moves_else i book made other e f =
      let there : slice_get new.books i ≡ Some book = ap (λ (c : CoreView). slice_get c.books i) acts.new_is ∙ (get_other old.books k i (book_after_action acts.book action) other ∙ e) in
      (same_at new.books i made book f there, ap (answers_of i) acts.now_is ∙ answers_else i k (own_step (operator acts.book.consts acts.book.row acts.book.state) action).outputs other)

  pub acts_moves : EachMoves plant step old new now
  acts_moves i row book made here e f = by (cases_eq i k)
    where
      by : (i ≡ k) ⊎ (i ≡ k → ⊥) → Moves (action_of row i step) book made (answers_of i now)
      by (inl same) = subst (λ (o : Option Action). Moves o book made (answers_of i now)) (sym (at.here i row here same)) (moves_here i book made same e f)
      by (inr other) = subst (λ (o : Option Action). Moves o book made (answers_of i now)) (sym (at.else i row here other)) (moves_else i book made other e f)

  pub acts_length : length new.books ≡ length old.books
  acts_length = ap (λ (c : CoreView). length c.books) acts.new_is ∙ length-set old.books k (book_after_action acts.book action)

-- ---- a collection

pub collects_moves : (plant : PlantFields) (k : ℕ) (old new : CoreView) (now : List Out) → Collects k old new now → EachMoves plant (steps.Collect k) old new now
collects_moves plant k old new now collects i row book made here e f =
    (same_at new.books i made book f (ap (λ (c : CoreView). slice_get c.books i) collects.new_is ∙ e), ap (answers_of i) collects.now_is ∙ no_answers i collects.made)

-- ---- a re-slicing

pub silent : (consts : ConstsFields) (row : RowFields) (state : OperatorState) (from : ℕ) (offered : SliceRow) → (own_step (operator consts row state) (actions.Reslice from offered)).outputs ≡ []
unfolding own_step
silent consts row state from offered = refl

pub reslices_moves : (plant : PlantFields) (from : ℕ) (rows : List SliceRow) (old new : CoreView) (now : List Out) → Reslices from rows old new now → EachMoves plant (steps.Reslice from rows) old new now
reslices_moves plant from rows old new now reslices i row book made here e f =
    let offered = some_at rows i (omega (arith, reslices.one_each, slice_get_within old.books i book e)) in
    subst (λ (o : Option Action). Moves o book made (answers_of i now)) (sym (ap (resliced_by from) offered.1)) (
      record { mine = refl; not_spent = refl; fit = reslices.fit i offered.0 book offered.1 e },
      same_at new.books i made (book_after_action book (actions.Reslice from offered.0)) f (reslices.acted_is i offered.0 book offered.1 e),
      ap (answers_of i) reslices.now_is ∙ sym (silent book.consts book.row book.state from offered.0),
    )
