-- Cells in the order of their operators.
use Rattle.std.proofs.Common.{◌≡◌, ℕ, zero, suc, List, [], ◌∷◌, ◌++◌, length, map, Some, ◌⊎◌, inl, inr, refl, sym, subst, ◌∙◌, ap, arith}
use Rattle.std.specs.List.{slice_get}
use Rattle.std.proofs.lemmas.List.{length-map}
use Rattle.std.proofs.lemmas.List.{map-append}
use Rattle.plant_workers.specs.Cells.{AreInOrder}

same_some : {X : Type 0} (x y : X) → Some x ≡ Some y → x ≡ y
same_some x y h = cc

front_or_last : {X : Type 0} (xs : List X) (x : X) (place : ℕ) (y : X) → slice_get (xs ++ x ∷ []) place ≡ Some y
    → (slice_get xs place ≡ Some y) ⊎ ((place ≡ length xs) × (x ≡ y))
front_or_last [] x zero y h = inr (refl, same_some x y h)
front_or_last [] x (suc place) y h = absurd cc
front_or_last (z ∷ xs) x zero y h = inl h
front_or_last (z ∷ xs) x (suc place) y h = elim (front_or_last xs x place y h) [
  | inl front ↦ inl front
  | inr last ↦ inr (ap suc last.0, last.1)
]

pub none_in_order : AreInOrder []
none_in_order index place h = absurd cc

one_more : (places : List ℕ) (place : ℕ) → AreInOrder places → place ≡ length places → AreInOrder (places ++ place ∷ [])
one_more places place are is index other h = elim (front_or_last places place index other h) [
  | inl front ↦ are index other front
  | inr last ↦ sym last.1 ∙ is ∙ sym last.0
]

pub cell_more : {C : Type 0} (place_of : C → ℕ) (cells : List C) (cell : C) → AreInOrder (map place_of cells) → place_of cell ≡ length cells
    → AreInOrder (map place_of (cells ++ cell ∷ []))
cell_more place_of cells cell are is =
    let many : place_of cell ≡ length (map place_of cells) = omega (arith, is, length-map cells place_of) in
    subst AreInOrder (sym (map-append place_of cells (cell ∷ []))) (one_more (map place_of cells) (place_of cell) are many)
