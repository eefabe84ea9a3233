-- Addresses, and those that an operator lists.
use Rattle.std.proofs.Common.{◌≡◌, ℕ, ◌+◌, Bool, true, false, ◌||◌, List, [], ◌∷◌, ◌++◌, is_some, inl, inr, refl, ap}
use Rattle.plant.proofs.Common.{position_from, cases_Bool, list_any-append, Modem, RowFields, same_modem, is_listed, all_modems}
use Rattle.std.proofs.lemmas.Slice.Eq.{bytes_eq-Decides}

pub same_is_equal : (a b : Modem) → same_modem a b ≡ true → a ≡ b
same_is_equal a b h = ap (λ (bytes : List ℕ). record { 0 = bytes }) ((bytes_eq-Decides a.0 b.0).0 h)

pub modem_itself : (a : Modem) → same_modem a a ≡ true
modem_itself a = (bytes_eq-Decides a.0 a.0).1 refl

pub or_false : (b : Bool) → (b || false) ≡ b
or_false true = refl
or_false false = refl

pub listed_append : (m : Modem) (xs ys : List Modem) → is_listed m (xs ++ ys) ≡ (is_listed m xs || is_listed m ys)
listed_append m xs ys = list_any-append (λ x. same_modem x m) xs ys

pub some_holder : (m : Modem) (n : ℕ) (rows : List RowFields) → is_some (position_from (λ row. is_listed m row.modems) n rows) ≡ is_listed m (all_modems rows)
some_holder m n [] = refl
some_holder m n (row ∷ rows) = elim (cases_Bool (is_listed m row.modems)) [
  | inl listed ↦ rw (listed_append m row.modems (all_modems rows), listed) refl
  | inr other ↦ rw (listed_append m row.modems (all_modems rows), other) (some_holder m (n + 1) rows)
]

-- the map of some rows has their addresses
