-- Which of several is the first.
use Rattle.std.proofs.Common.{◌≡◌, ◌≢◌, ℕ, zero, suc, ◌<◌, ◌≤◌, ◌⊎◌, ◌↔◌, inl, inr, Bool, true, false, List, [], ◌∷◌, ◌++◌, append-nil, append_assoc, get_or, AllPairs, find, option_map, Option, Some, None, refl, sym, subst, ap, ◌∙◌, arith}
use Rattle.std.specs.Prelude.{slice_get}
use Rattle.slice_table.proofs.Common.{option_or, cases_Bool, all_pairs_push, Modem, RowFields, is_listed, same_modem, Apart}
use Rattle.slice_table.specs.Checks.{meets, first_pair, first_meeting, first_named, first_again}
use Rattle.slice_table.specs.First.{IsLeastPair, IsFirstWhere, StandsAgain}
use Rattle.plant.proofs.Holders.{same_some, true_false, first_least}
use Rattle.slice_table.proofs.Values.{none_passes}
use Rattle.slice_table.proofs.PlantReading.{told_modems, none_step}
use Rattle.slice_table.proofs.SaidPlant.{is_new}

-- ---- the first that passes

pub find_first : {A : Type 0} (test : A → Bool) (xs : List A) (a : A) → find test xs ≡ Some a → IsFirstWhere test xs a
find_first test [] a h = cc
find_first test (x ∷ xs) a h = elim (cases_Bool (test x)) [
  | inl passes ↦
      let is : x ≡ a = same_some x a (rw passes at h) in
      subst (IsFirstWhere test (x ∷ xs)) is (record { place = 0; here = refl; passes = passes; least = λ i c e p. omega arith })
  | inr other ↦
      let rest = find_first test xs a (rw other at h) in
      record { place = suc rest.place; here = rest.here; passes = rest.passes; least = first_least test x xs other rest.place rest.least }
]

nowhere : {A : Type 0} (test : A → Bool) (xs : List A) (i : ℕ) (c : A) → find test xs ≡ None → slice_get xs i ≡ Some c → test c ≡ true → ⊥
nowhere test [] i c h e p = let f : ◌≡◌ {A = Option _} None (Some c) = e in cc
nowhere test (x ∷ xs) zero c h e p = true_false (test c) p (subst (λ y. test y ≡ false) (same_some x c e) (none_step test x xs h).0)
nowhere test (x ∷ xs) (suc i) c h e p = nowhere test xs i c (none_step test x xs h).1 e p

-- ---- the first pair

here_least : {A : Type 0} (test : A → A → Bool) (x : A) (xs : List A) (y : A) (s : IsFirstWhere (test x) xs y)
    → (i j : ℕ) (c d : A) → i < j → slice_get (x ∷ xs) i ≡ Some c → slice_get (x ∷ xs) j ≡ Some d → test c d ≡ true → (0 < i) ⊎ ((0 ≡ i) × (suc s.place ≤ j))
here_least test x xs y s (suc i) j c d lt e f p = inl (omega arith)
here_least test x xs y s zero zero c d lt e f p = absurd (omega (arith, lt))
here_least test x xs y s zero (suc j) c d lt e f p =
    let h = s.least j d f (subst (λ z. test z d ≡ true) (sym (same_some x c e)) p) in
    inr (refl, omega (arith, h))

behind_least : {A : Type 0} (test : A → A → Bool) (x : A) (xs : List A) (a b : A) → find (test x) xs ≡ None → (s : IsLeastPair test xs a b)
    → (i j : ℕ) (c d : A) → i < j → slice_get (x ∷ xs) i ≡ Some c → slice_get (x ∷ xs) j ≡ Some d → test c d ≡ true → (suc s.first < i) ⊎ ((suc s.first ≡ i) × (suc s.second ≤ j))
behind_least test x xs a b none s zero zero c d lt e f p = absurd (omega (arith, lt))
behind_least test x xs a b none s zero (suc j) c d lt e f p = absurd (nowhere (test x) xs j d none f (subst (λ z. test z d ≡ true) (sym (same_some x c e)) p))
behind_least test x xs a b none s (suc i) zero c d lt e f p = absurd (omega (arith, lt))
behind_least test x xs a b none s (suc i) (suc j) c d lt e f p = elim (s.least i j c d (omega (arith, lt)) e f p) [
  | inl below ↦ inl (omega (arith, below))
  | inr same ↦ inr (ap suc same.0, omega (arith, same.1))
]

-- the first element with the first behind it, where there is one
pair_here : {A : Type 0} (test : A → A → Bool) (x : A) (xs : List A) (y : A) → IsFirstWhere (test x) xs y → IsLeastPair test (x ∷ xs) x y
pair_here test x xs y s = record {
  first = 0;
  second = suc s.place;
  ordered = omega arith;
  here = refl;
  there = s.here;
  joined = s.passes;
  least = here_least test x xs y s;
}

-- else the first pair of those behind it
pair_behind : {A : Type 0} (test : A → A → Bool) (x : A) (xs : List A) (a b : A) → find (test x) xs ≡ None → IsLeastPair test xs a b → IsLeastPair test (x ∷ xs) a b
pair_behind test x xs a b none s = record {
  first = suc s.first;
  second = suc s.second;
  ordered = let h = s.ordered in omega (arith, h);
  here = s.here;
  there = s.there;
  joined = s.joined;
  least = behind_least test x xs a b none s;
}

pair_by : {A : Type 0} (test : A → A → Bool) (x : A) (xs : List A) (a b : A) → (first_pair test xs ≡ Some (a, b) → IsLeastPair test xs a b) → (o : Option A)
    → find (test x) xs ≡ o → option_or (option_map (λ y. (x, y)) o) (first_pair test xs) ≡ Some (a, b) → IsLeastPair test (x ∷ xs) a b
pair_by test x xs a b rest None none h = pair_behind test x xs a b none (rest h)
pair_by test x xs a b rest (Some y) found h =
    let is : (x, y) ≡ (a, b) = same_some (x, y) (a, b) h in
    subst (λ (p : _ × _). IsLeastPair test (x ∷ xs) p.0 p.1) is (pair_here test x xs y (find_first (test x) xs y found))

pub first_pair_least : {A : Type 0} (test : A → A → Bool) (xs : List A) (a b : A) → first_pair test xs ≡ Some (a, b) → IsLeastPair test xs a b
first_pair_least test [] a b h = cc
first_pair_least test (x ∷ xs) a b h = pair_by test x xs a b (first_pair_least test xs a b) (find (test x) xs) refl h

-- ---- the first address that stood before

again_from : (before ms : List Modem) (m : Modem) → AllPairs (λ a b. a ≢ b) before → first_again before ms ≡ Some m → StandsAgain (before ++ ms) m
again_from before [] m apart h = cc
again_from before (x ∷ ms) m apart h = elim (cases_Bool (is_listed x before)) [
  | inl known ↦
      let is : x ≡ m = same_some x m (rw known at h) in
      subst (StandsAgain (before ++ x ∷ ms)) is (record { before = before; behind = ms; is = refl; stood = known; distinct = apart })
  | inr new ↦
      let more : AllPairs (λ a b. a ≢ b) (before ++ x ∷ []) = all_pairs_push (λ a b. a ≢ b) before x apart (λ k d lt.
      told_modems (get_or before k d) x (none_passes (λ y. same_modem y x) before k d new lt)) in
      subst (λ (all : List Modem). StandsAgain all m) (append_assoc before (x ∷ []) ms) (again_from (before ++ x ∷ []) ms m more (rw new at h))
]

again_at : (front before behind : List Modem) (m : Modem) → AllPairs (λ a b. a ≢ b) (front ++ before) → is_listed m (front ++ before) ≡ true
    → first_again front (before ++ m ∷ behind) ≡ Some m
again_at front [] behind m apart stood = let e : is_listed m front ≡ true = rw (append-nil front) at stood in rw e refl
again_at front (x ∷ before) behind m apart stood =
    rw (is_new front before x apart)
    (again_at (front ++ x ∷ []) before behind m (subst (AllPairs (λ a b. a ≢ b)) (sym (append_assoc front (x ∷ []) before)) apart)
    (subst (λ (all : List Modem). is_listed m all ≡ true) (sym (append_assoc front (x ∷ []) before)) stood))

pub again_is : (modems : List Modem) (m : Modem) → (first_again [] modems ≡ Some m) ↔ StandsAgain modems m
again_is modems m = (
  again_from [] modems m (λ i j d lt more. absurd (omega (arith, more))),
  λ s. ap (first_again []) s.is ∙ again_at [] s.before s.behind m s.distinct s.stood,
)

-- ---- their names

map_some : {A B : Type 0} (f : A → B) (o : Option A) (y : B) → option_map f o ≡ Some y → (x : A) × (o ≡ Some x) × (f x ≡ y)
map_some f None y h = cc
map_some f (Some x) y h = (x, refl, same_some (f x) y h)

pub meeting_least : (apart : Apart) (rows : List RowFields) (a b : List ℕ) → first_meeting apart rows ≡ Some (a, b)
    → (p : RowFields) × (q : RowFields) × IsLeastPair (meets apart) rows p q × (p.name ≡ a) × (q.name ≡ b)
unfolding first_meeting
meeting_least apart rows a b h =
    let pair = map_some (λ pair. (pair.0.name, pair.1.name)) (first_pair (meets apart) rows) (a, b) h in
    (pair.0.0, pair.0.1, first_pair_least (meets apart) rows pair.0.0 pair.0.1 pair.1, ap (λ (n : List ℕ × List ℕ). n.0) pair.2, ap (λ (n : List ℕ × List ℕ). n.1) pair.2)

pub named_first : (test : RowFields → Bool) (rows : List RowFields) (name : List ℕ) → first_named test rows ≡ Some name
    → (row : RowFields) × IsFirstWhere test rows row × (row.name ≡ name)
named_first test rows name h =
    let found = map_some (λ row. row.name) (find test rows) name h in
    (found.0, find_first test rows found.0 found.1, found.2)
