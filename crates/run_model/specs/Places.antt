-- What holds at the place of each operator (implementation-specific). An operator's place is that of its row in the plant, and
-- lists of books, of waiting frames and of parts have what belongs to it at the same place.
use Rattle.std.specs.Prelude.{◌≡◌, ℕ, List, slice_get, Some}
use Rattle.plant.specs.declared.operator_row.RowFields.{RowFields}
use Rattle.plant.specs.declared.plant.PlantFields.{PlantFields}

-- this holds of each operator's place and row
abbrev pub AtEachOperator : PlantFields → (ℕ → RowFields → Type 0) → Type 0
AtEachOperator plant holds = (i : ℕ) (row : RowFields) → slice_get plant.rows i ≡ Some row → holds i row

-- this holds of each place that both lists have, and of what they have there
abbrev pub AtEachPlace : {A B : Type 0} → List A → List B → (ℕ → A → B → Type 0) → Type 0
AtEachPlace {A = A} {B = B} xs ys holds = (i : ℕ) (x : A) (y : B) → slice_get xs i ≡ Some x → slice_get ys i ≡ Some y → holds i x y
