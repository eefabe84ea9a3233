-- What a task's run answers.
use Rattle.std.proofs.Common.{◌≡◌, ℕ, suc, ◌+◌, inl, inr, Bool, List, [], ◌∷◌, Option, Some, Result, Ok, subst, arith, refl}
use Rattle.plant_script.proofs.Common.{slice_get, position_from, cases_Bool, RowFields, PlantFields, LineStep, history_text, History, InputOutcome, IsScriptRun, history_at, RunsTo, Comes, Order, order_of, Word, WordsFault, GivesOrder, AnswersSteps, status_code}
use Rattle.plant_script.specs.declared.input_outcome.InputOutcome.TheVariants as outcomes

same_some : {A : Type 0} (x y : A) → ◌≡◌ {A = Option A} (Some x) (Some y) → x ≡ y
same_some x y h = cc

-- where the first that passes is found, an element stands
found_from : {A : Type 0} (test : A → Bool) (n : ℕ) (xs : List A) (i : ℕ) → position_from test n xs ≡ Some i → (k : ℕ) × (i ≡ n + k) × (x : A) × (slice_get xs k ≡ Some x)
found_from test n [] i h = cc
found_from test n (x ∷ xs) i h = elim (cases_Bool (test x)) [
  | inl passes ↦
      let is : n ≡ i = same_some n i (rw passes at h) in
      (0, omega (arith, is), x, refl)
  | inr other ↦
      let rest = found_from test (n + 1) xs i (rw other at h) in
      (suc rest.0, omega (arith, rest.1), rest.2, rest.3)
]

pub found_at : {A : Type 0} (test : A → Bool) (xs : List A) (i : ℕ) → position_from test 0 xs ≡ Some i → (x : A) × (slice_get xs i ≡ Some x)
found_at test xs i h =
    let found = found_from test 0 xs i h in
    let is : found.0 ≡ i = omega (arith, found.1) in
    (found.2, subst (λ (k : ℕ). slice_get xs k ≡ Some found.2) is found.3)

-- what is answered of an operator, whose row may be known or not
abbrev TellsOf : PlantFields → ℕ → Result (List LineStep) ℕ → ℕ → List ℕ → Option RowFields → Type 0
TellsOf plant op lines status text row = AnswersSteps (λ ran. IsScriptRun plant ran (λ done told. history_at row op done)) lines status text

-- a run that is told of an operator tells its own steps
pub comes_of_operator : (plant : PlantFields) (op : ℕ) (row : RowFields) (script : List ℕ) (lines : Result (List LineStep) ℕ) (what : InputOutcome) → slice_get plant.rows op ≡ Some row
    → Comes what script (AnswersSteps (RunsTo plant (History op) script) lines)
    → Comes what script (λ status text. (row : RowFields) × (slice_get plant.rows op ≡ Some row)
    × AnswersSteps (λ ran. IsScriptRun plant ran (λ done told. history_text row op done)) lines status text)
comes_of_operator plant op row script lines (outcomes.Answer answer) here h = (row, here, subst (TellsOf plant op lines (status_code answer.status) answer.text.items) here h)
comes_of_operator plant op row script lines (outcomes.Task task) here h = λ status text run. (row, here, subst (TellsOf plant op lines status text) here (h status text run))
comes_of_operator plant op row script lines (outcomes.Threads threaded steps) here h = λ status text run. (row, here, subst (TellsOf plant op lines status text) here (h status text run))

-- the word that was read is the order
pub same_order : (order : Order) (read : Result Word WordsFault) (word : Word) → GivesOrder order read → read ≡ Ok word → order_of word ≡ order
same_order order read word gives is = subst (GivesOrder order) is gives
