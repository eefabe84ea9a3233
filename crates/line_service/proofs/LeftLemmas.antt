-- What is left of a list of which the first k are done.
use Rattle.std.proofs.Common.{◌≡◌, ℕ, zero, suc, ◌+◌, List, [], ◌∷◌, ◌++◌, length, take, drop, Some, None, refl, ap, arith}
use Rattle.std.specs.Prelude.{slice_get}

pub first_left : {A : Type 0} (xs : List A) (k : ℕ) (x : A) (rest : List A) → drop k xs ≡ x ∷ rest → slice_get xs k ≡ Some x
first_left [] zero x rest h = cc
first_left [] (suc k) x rest h = cc
first_left (y ∷ xs) zero x rest h = cc
first_left (y ∷ xs) (suc k) x rest h = first_left xs k x rest h

pub none_left : {A : Type 0} (xs : List A) (k : ℕ) → drop k xs ≡ [] → slice_get xs k ≡ None
none_left [] zero h = refl
none_left [] (suc k) h = refl
none_left (y ∷ xs) zero h = cc
none_left (y ∷ xs) (suc k) h = none_left xs k h

pub take_next : {A : Type 0} (xs : List A) (k : ℕ) (x : A) (rest : List A) → drop k xs ≡ x ∷ rest → take (suc k) xs ≡ take k xs ++ x ∷ []
take_next [] zero x rest h = cc
take_next [] (suc k) x rest h = cc
take_next (y ∷ xs) zero x rest h = cc
take_next (y ∷ xs) (suc k) x rest h = ap (λ (l : List _). y ∷ l) (take_next xs k x rest h)

pub drop_next : {A : Type 0} (xs : List A) (k : ℕ) (x : A) (rest : List A) → drop k xs ≡ x ∷ rest → drop (suc k) xs ≡ rest
drop_next [] zero x rest h = cc
drop_next [] (suc k) x rest h = cc
drop_next (y ∷ xs) zero x rest h = cc
drop_next (y ∷ xs) (suc k) x rest h = drop_next xs k x rest h

-- a count that goes with what is left goes with it when the first is gone
pub count_next : {A : Type 0} (left : List A) (x : A) (rest : List A) (n m : ℕ) → left ≡ x ∷ rest → m + 1 ≡ n → n ≡ length left → m ≡ length rest
count_next left x rest n m is gone count =
    omega (arith, ap length is, gone, count)
