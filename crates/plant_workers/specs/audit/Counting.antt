-- Counts of steps, one for each of the first operators (implementation-specific).
use Rattle.std.specs.Prelude.{◌≡◌, ℕ, ◌<◌, Bool, List, length, count_by, slice_index}
use Rattle.run_model.specs.declared.step.Step.{Step}

-- of each of the first operators this is how many of the steps are of this kind
abbrev pub AreCountsOf : (ℕ → Step → Bool) → List Step → List ℕ → Type 0
AreCountsOf is_kind steps counts = (i : ℕ) → i < length counts → slice_index counts i ≡ count_by (is_kind i) steps
