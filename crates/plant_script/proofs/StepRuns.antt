-- The steps of a script's lines, one after the other.
use Rattle.std.proofs.Common.{◌≡◌, inl, ℕ, zero, suc, ◌<◌, ◌≤◌, length, arith, List, [], ◌∷◌, ◌++◌, take, Option, Some, None, IsSome, refl, sym, ap, subst, ◌∙◌, append-nil}
use Rattle.plant_script.proofs.Common.{slice_get, map-append, slice_get_past, slice_get_within, RowFields, PlantFields, Step, Out, CoreView, IsStateAfter, CoreFault, step_fault, LineStep, steps_without_numbers, actions_text, first_left, none_left, take_next, drop_next, Answer, last_line, IsEndStatus, IsScriptRun, history_at, IsEnded, IsRefused, HasRun, book_text, status_code}
use Rattle.plant_script.proofs.HalfDone.{IsHalfDone}

-- ---- what stands at a place of a list

slice_get_none : {A : Type 0} (xs : List A) (k : ℕ) → slice_get xs k ≡ None → length xs ≤ k
slice_get_none [] k h = omega arith
slice_get_none (x ∷ xs) zero h = absurd cc
slice_get_none (x ∷ xs) (suc k) h = let past = slice_get_none xs k h in omega arith

slice_get_there : {A : Type 0} (xs : List A) (k : ℕ) → k < length xs → (x : A) × (slice_get xs k ≡ Some x)
slice_get_there [] k lt = absurd (omega arith)
slice_get_there (x ∷ xs) zero lt = (x, refl)
slice_get_there (x ∷ xs) (suc k) lt = slice_get_there xs k (omega arith)

-- ---- no step yet

pub none_run : (lines : List LineStep) (core : CoreView) → IsStateAfter core.plant [] [] core → IsHalfDone core.plant lines (λ told. []) core [] lines
none_run lines core opened = record {
  at = zero;
  done = record { outs = []; reached = opened; text_is = refl };
  left_are = refl;
}

-- ---- one step more

module _ (plant : PlantFields) (lines : List LineStep) (say : List Out → List ℕ) (old new : CoreView) (text : List ℕ) (line : LineStep) (rest : List LineStep) (now : List Out)
    (half : IsHalfDone plant lines say old text (line ∷ rest))
    (reached : (before : List Step) (told : List Out) → IsStateAfter old.plant before told old → IsStateAfter old.plant (before ++ line.step ∷ []) (told ++ now) new) where
  before : List Step
  before = steps_without_numbers (take half.at lines)

  steps_more : before ++ line.step ∷ [] ≡ steps_without_numbers (take (suc half.at) lines)
  unfolding before
  steps_more =
      sym (map-append (λ (l : LineStep). l.step) (take half.at lines) (line ∷ []))
      ∙ ap steps_without_numbers (sym (take_next lines half.at line rest half.left_are))

  pub reached_more : IsStateAfter plant (steps_without_numbers (take (suc half.at) lines)) (half.done.outs ++ now) new
  unfolding before steps_more
  reached_more =
      let same = half.done.reached.plant_is in
      let then_new = reached before half.done.outs (subst (λ (p : PlantFields). IsStateAfter p before half.done.outs old) (sym same) half.done.reached) in
      subst (λ (s : List Step). IsStateAfter plant s (half.done.outs ++ now) new) steps_more
      (subst (λ (p : PlantFields). IsStateAfter p (before ++ line.step ∷ []) (half.done.outs ++ now) new) same then_new)

  -- what is said of the step's outputs is written too
  pub half_more : (later : List ℕ) → later ≡ say (half.done.outs ++ now) → IsHalfDone plant lines say new later rest
  half_more later is = record {
    at = suc half.at;
    done = record { outs = half.done.outs ++ now; reached = reached_more; text_is = is };
    left_are = drop_next lines half.at line rest half.left_are;
  }

-- nothing is said
pub unheard_more : (plant : PlantFields) (lines : List LineStep) (old new : CoreView) (line : LineStep) (rest : List LineStep) (now : List Out)
    → IsHalfDone plant lines (λ told. []) old [] (line ∷ rest)
    → ((before : List Step) (told : List Out) → IsStateAfter old.plant before told old → IsStateAfter old.plant (before ++ line.step ∷ []) (told ++ now) new)
    → IsHalfDone plant lines (λ told. []) new [] rest
unheard_more plant lines old new line rest now half reached = half_more plant lines (λ told. []) old new [] line rest now half reached [] refl

-- ---- the end

pub all_done : (plant : PlantFields) (lines : List LineStep) (say : List Out → List ℕ) (core : CoreView) (text : List ℕ) (left : List LineStep)
    → IsHalfDone plant lines say core text left → left ≡ [] → HasRun plant lines say None core text
all_done plant lines say core text left half none = record {
  at = half.at;
  done = half.done;
  ends = rw (none_left lines half.at (half.left_are ∙ none)) refl;
}

pub line_refused : (plant : PlantFields) (lines : List LineStep) (say : List Out → List ℕ) (old core : CoreView) (text : List ℕ) (line : LineStep) (rest : List LineStep) (fault : CoreFault)
    → IsHalfDone plant lines say old text (line ∷ rest) → core ≡ old → step_fault old line.step ≡ Some fault → HasRun plant lines say (Some line.number) core text
line_refused plant lines say old core text line rest fault half same refused =
    let told : IsSome (step_fault old line.step) = rw refused refl in
    subst (λ (c : CoreView). HasRun plant lines say (Some line.number) c text) (sym same)
    (record { at = half.at; done = half.done; ends = rw (first_left lines half.at line rest half.left_are) (refl, told) })

-- ---- what is written

-- where a run ends, and the line that is written there
pub end_of : (core : CoreView) (line : Option LineStep) (refused : Option ℕ) (text : List ℕ) (answer : Answer) → IsRefused core line refused → IsEnded text refused answer
    → IsEndStatus core line (status_code answer.status) × (answer.text.items ≡ text ++ last_line line)
end_of core None refused text answer none ended =
    let said : IsEnded text None answer = subst (λ (r : Option ℕ). IsEnded text r answer) none ended in
    (said.0, said.1 ∙ sym (append-nil text))
end_of core (Some line) refused text answer told ended =
    let said : IsEnded text (Some line.number) answer = subst (λ (r : Option ℕ). IsEnded text r answer) told.0 ended in
    ((said.0, told.1), said.1)

-- what an operator did is its own of the steps
history_is : (plant : PlantFields) (steps : List Step) (outs : List Out) (core : CoreView) (op : ℕ) (row : Option RowFields) → IsStateAfter plant steps outs core → slice_get plant.rows op ≡ row
    → book_text (slice_get core.books op) ≡ history_at row op steps
history_is plant steps outs core op None reached here =
    let past : length plant.rows ≤ op = slice_get_none plant.rows op here in
    let one : length core.books ≡ length plant.rows = reached.one_book in
    ap book_text (slice_get_past core.books op (omega arith))
history_is plant steps outs core op (Some row) reached here =
    let inside : op < length plant.rows = slice_get_within plant.rows op row here in
    let one : length core.books ≡ length plant.rows = reached.one_book in
    let book = slice_get_there core.books op (omega arith) in
    ap book_text book.1 ∙ ap actions_text (reached.books op row book.0 here book.1).actions_are

pub history_written : (plant : PlantFields) (lines : List LineStep) (op : ℕ) (refused : Option ℕ) (core : CoreView) (answer : Answer)
    → HasRun plant lines (λ told. []) refused core [] → IsEnded (book_text (slice_get core.books op)) refused answer
    → IsScriptRun plant lines (λ done told. history_at (slice_get plant.rows op) op done) (status_code answer.status) answer.text.items
history_written plant lines op refused core answer run ended =
    let end = end_of core (slice_get lines run.at) refused (book_text (slice_get core.books op)) answer run.ends ended in
    record {
      at = run.at;
      outs = run.done.outs;
      core = core;
      reached = run.done.reached;
      last = last_line (slice_get lines run.at);
      ends = inl (end.0, refl);
      text_is = end.1 ∙ ap (λ (t : List ℕ). t ++ last_line (slice_get lines run.at)) (history_is plant (steps_without_numbers (take run.at lines)) run.done.outs core op (slice_get plant.rows op) run.done.reached refl);
    }
