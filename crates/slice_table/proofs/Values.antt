-- Tests and the facts that they decide.
use Rattle.std.proofs.Common.{◌≡◌, ◌≢◌, ℕ, zero, suc, ◌<◌, ◌≤◌, nat_le, ◌==◌, Bool, true, false, not, List, [], ◌∷◌, length, get_or, Option, Some, None, is_none, refl, sym, ◌∙◌, arith}
use Rattle.slice_table.proofs.Common.{bytes_eq, list_all, list_any, is_ascii_alphanumeric, false≢true, false_from_ne_true, and_parts, list_any_at, bytes_eq-Decides}

-- where none passes, this one does not
pub none_passes : {A : Type 0} (p : A → Bool) (xs : List A) (k : ℕ) (d : A) → list_any p xs ≡ false → k < length xs → p (get_or xs k d) ≡ false
none_passes p xs k d h lt = false_from_ne_true (p (get_or xs k d)) (λ e. false≢true (sym h ∙ list_any_at p xs k d lt e))

-- bytes that are told apart differ
pub told_apart : (a b : List ℕ) → bytes_eq a b ≡ false → a ≢ b
told_apart a b h e = false≢true (sym h ∙ (bytes_eq-Decides a b).1 e)

pub is_none_none : {A : Type 0} (o : Option A) → is_none o ≡ true → o ≡ None
is_none_none None h = refl
is_none_none (Some x) h = absurd (false≢true h)

-- no letter and no digit is 0
not_zero : (b : ℕ) → is_ascii_alphanumeric b ≡ true → not (b == 0) ≡ true
not_zero zero h = absurd (false≢true h)
not_zero (suc n) h = grind arith

pub letters_not_zero : (name : List ℕ) → list_all is_ascii_alphanumeric name ≡ true → list_all (λ b. not (b == 0)) name ≡ true
letters_not_zero [] h = refl
letters_not_zero (b ∷ name) h =
    let parts = and_parts (is_ascii_alphanumeric b) (list_all is_ascii_alphanumeric name) h in
    rw (not_zero b parts.0) (letters_not_zero name parts.1)

pub at_most : (a b : ℕ) → nat_le a b ≡ true → a ≤ b
at_most a b h = grind arith
