-- what one pass over the used numbers gives.
use Rattle.std.specs.Prelude.{◌≡◌, ℕ, ◌+◌, ◌<◌, Bool, false, List, length, slice_index_or}
use Rattle.admission.specs.Free.{is_used}

-- the mark at each place says whether the number at that place, counted from `base` on, is used
pub record IsWindow (used : List ℕ) (base : ℕ) (taken : List Bool) : Type 0 where
  pub long : length taken ≡ 128
  pub marks : (place : ℕ) → place < 128 → slice_index_or taken place false ≡ is_used used (base + place)
