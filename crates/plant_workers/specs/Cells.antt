-- Where the operators' cells are (implementation-specific).
use Rattle.std.specs.Prelude.{◌≡◌, ℕ, List, slice_get, Some}

-- each place is that of its operator
abbrev pub AreInOrder : List ℕ → Type 0
AreInOrder places = (index place : ℕ) → slice_get places index ≡ Some place → place ≡ index
