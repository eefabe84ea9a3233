-- The least operator that refuses its row, place by place.
use Rattle.std.proofs.Common.{◌≡◌, ℕ, ◌+◌, ◌≤◌, Bool, true, false, List, [], ◌∷◌, length, get_or, drop, Option, Some, None, refl, sym, ap, ap₂, ◌∙◌}
use Rattle.plant_core.proofs.LiveLemmas.Common.{slice_get, if◌then◌else◌, drop_more, drop_all, same_Some, slice_get_within, slice_get-get_or, SliceRow, Unfit, unfit_from, BookView, operator_of_book, is_unfit, least_unfit}

-- the list from a place on
from_here : {X : Type 0} (xs : List X) (n : ℕ) (x : X) → slice_get xs n ≡ Some x → drop n xs ≡ x ∷ drop (n + 1) xs
from_here xs n x there =
    let within = slice_get_within xs n x there in
    drop_more xs n x within ∙ ap (λ y. y ∷ drop (n + 1) xs) (same_Some (get_or xs n x) x (sym (slice_get-get_or xs n x within) ∙ there))

module _ (unfit : Unfit) (from : ℕ) (books : List BookView) (rows : List SliceRow) where
  abbrev least_from : ℕ → Option ℕ
  least_from op = least_unfit unfit from op (drop op books) (drop op rows)

  module _ (op : ℕ) (book : BookView) (row : SliceRow) (b : slice_get books op ≡ Some book) (r : slice_get rows op ≡ Some row) where
    here : least_from op ≡ (if is_unfit unfit (unfit_from (operator_of_book book) from row) then Some op else least_from (op + 1))
    here = ap₂ (λ (bs : List BookView) (rs : List SliceRow). least_unfit unfit from op bs rs) (from_here books op book b) (from_here rows op row r)

    pub is_here : true ≡ is_unfit unfit (unfit_from (operator_of_book book) from row) → Some op ≡ least_from op
    is_here is = sym (here ∙ ap (λ (c : Bool). if c then Some op else least_from (op + 1)) (sym is))

    pub is_later : false ≡ is_unfit unfit (unfit_from (operator_of_book book) from row) → least_from (op + 1) ≡ least_from op
    is_later is = sym (here ∙ ap (λ (c : Bool). if c then Some op else least_from (op + 1)) (sym is))

  no_rows : (n : ℕ) (bs : List BookView) → least_unfit unfit from n bs [] ≡ None
  no_rows n [] = refl
  no_rows n (b ∷ bs) = refl

  pub is_nowhere : (op : ℕ) → length rows ≤ op → None ≡ least_from op
  is_nowhere op past = sym (ap (λ (rs : List SliceRow). least_unfit unfit from op (drop op books) rs) (drop_all op rows past) ∙ no_rows op (drop op books))
