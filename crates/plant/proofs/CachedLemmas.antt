-- Cached pairs stay right.
use Rattle.std.proofs.Common.{◌≡◌, ℕ, Bool, true, List, [], ◌∷◌, Result, Ok, Err, Some, OnOk, OnErr, refl, sym, ap, subst, ◌∙◌, inl, inr, arith}
use Rattle.std.specs.List.{slice_get, Contains}
use Rattle.std.specs.Map.{lookup}
use Rattle.dsx_messages.specs.declared.modem.Modem.{Modem}
use Rattle.plant.specs.declared.operator_row.RowFields.{RowFields}
use Rattle.plant.specs.Row.{same_modem}
use Rattle.plant.specs.Roster.{holder}
use Rattle.lru.specs.LruCache.{LruCache, lru_cache, promoted, put_entries}
use Rattle.lru.proofs.CallerLemmas.{Contains-promoted, Contains-lookup, Contains-put_entries}
use Rattle.plant.specs.Cached.{AreHolders}
use Rattle.plant.proofs.Addresses.{same_is_equal}

pub promoted_right : (rows : List RowFields) (test : Modem → Bool) (pairs : List (Modem × ℕ)) → AreHolders rows pairs → AreHolders rows (promoted test pairs)
promoted_right rows test pairs right modem op held = right modem op (Contains-promoted test pairs (modem, op) held)

pub lookup_right : (rows : List RowFields) (modem : Modem) (pairs : List (Modem × ℕ)) (op : ℕ) → AreHolders rows pairs
    → lookup (same_modem modem) pairs ≡ Some op → holder rows modem ≡ Some op
lookup_right rows modem pairs op right found =
    let there = Contains-lookup (same_modem modem) pairs op found in
    subst (λ (m : Modem). holder rows m ≡ Some op) (sym (same_is_equal modem there.0 there.2)) (right there.0 op there.1)

pub put_right : (rows : List RowFields) (cache : LruCache Modem ℕ) (modem : Modem) (op : ℕ) → AreHolders rows cache.entries → holder rows modem ≡ Some op
    → AreHolders rows (put_entries same_modem cache modem op)
put_right rows cache modem op right is other k held = elim (Contains-put_entries same_modem cache modem op (other, k) held) [
  | inl was ↦ right other k was
  | inr put ↦ let at : holder rows modem ≡ Some k = is ∙ ap (λ (n : ℕ). Some n) (sym put.0) in elim put.1 [
    | inl key ↦ subst (λ (m : Modem). holder rows m ≡ Some k) (sym key) at
    | inr same ↦ subst (λ (m : Modem). holder rows m ≡ Some k) (same_is_equal modem other same.2) at
  ]
]

-- whether or not the pair found memory
pub after_put_right : {X Y : Type 0} (rows : List RowFields) (result : Result X Y) (old new : LruCache Modem ℕ) (modem : Modem) (op : ℕ)
    → AreHolders rows old.entries → holder rows modem ≡ Some op
    → OnOk result (new ≡ lru_cache (put_entries same_modem old modem op) old.cap) → OnErr result (new ≡ old) → AreHolders rows new.entries
after_put_right rows (Ok x) old new modem op right is ok err =
    subst (λ (c : LruCache Modem ℕ). AreHolders rows c.entries) (sym ok) (put_right rows old modem op right is)
after_put_right rows (Err y) old new modem op right is ok err =
    subst (λ (c : LruCache Modem ℕ). AreHolders rows c.entries) (sym err) right

same_some : {X : Type 0} (x y : X) → Some x ≡ Some y → x ≡ y
same_some x y h = cc

first_there : {X : Type 0} (xs : List X) (x : X) → slice_get xs 0 ≡ Some x → Contains xs x
first_there [] x is = cc
first_there {X} (y ∷ xs) x is = subst (λ (z : X). Contains (z ∷ xs) x) (sym (same_some y x is)) (0, omega arith, refl)

-- the pair that was used last
pub first_right : (rows : List RowFields) (modem known : Modem) (pairs : List (Modem × ℕ)) (op : ℕ) → AreHolders rows pairs
    → slice_get pairs 0 ≡ Some (known, op) → same_modem known modem ≡ true → holder rows modem ≡ Some op
first_right rows modem known pairs op right first same =
    subst (λ (m : Modem). holder rows m ≡ Some op) (same_is_equal known modem same) (right known op (first_there pairs (known, op) first))
