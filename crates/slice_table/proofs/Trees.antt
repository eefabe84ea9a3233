-- The values of an array beside the items that they stand for.
use Rattle.std.proofs.Common.{◌≡◌, ℕ, ◌≤◌, ◌==◌, ◌&&◌, nat_le, le-leb, true, false, List, [], ◌∷◌, length, Ok, refl, ap, suc, arith}
use Rattle.slice_table.proofs.Common.{items_view, Value, Key, items_len, checked_value}

pub items_len_view : (values : List Value) → items_len (items_view values) ≡ length values
items_len_view [] = refl
items_len_view (v ∷ values) = ap suc (items_len_view values)

-- an array of few values, but not of none
pub few_values : (key : Key) (values : List Value) (most : ℕ) → false ≡ (length values == 0) → length values ≤ most
    → checked_value key (nat_le 1 (items_len (items_view values)) && nat_le (items_len (items_view values)) most) (items_view values) ≡ Ok (items_view values)
few_values key [] most some few = cc
few_values key (v ∷ values) most some few =
    let fits : nat_le (items_len (items_view (v ∷ values))) most ≡ true = rw items_len_view (le-leb _ _ few) in
    let one : nat_le 1 (items_len (items_view (v ∷ values))) ≡ true = le-leb 1 (items_len (items_view (v ∷ values))) (omega arith) in
    rw (one, fits) refl
