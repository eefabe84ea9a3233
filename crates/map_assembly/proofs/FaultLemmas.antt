-- The first fault of elements is the one at which judging them ends.
use Rattle.std.proofs.Common.{◌≡◌, ℕ, ◌+◌, ◌<◌, ◌≤◌, List, [], ◌∷◌, ◌++◌, length, Bool, true, false, Result, Ok, Err, ltb, refl, ap, ◌∙◌, subst, arith}
use Rattle.map_assembly.proofs.Common.{AllByRecursion, ltb-true, ltb-false, le-ltb, lt-ltb, MapElement, MapFault, Short, Count, Backward, NoNull, AfterNull, NoMemory, is_null, is_pending, AreAscending, least_behind, GoesBackward, IsNoGrant, FollowsNull, ElementsFault, count_before_null, judged_behind}

-- ---- a fault that is found is there

-- the fault of the elements from the place `at` on
abbrev FaultFrom : ℕ → ℕ → List MapElement → MapFault → Type 0
FaultFrom at least es (Backward k) = (j : ℕ) × (k ≡ at + j) × GoesBackward least es j
FaultFrom at least es NoNull = AreAscending least es
FaultFrom at least es (AfterNull k) = (j : ℕ) × (k ≡ at + j) × FollowsNull least es j
FaultFrom at least es f = ⊥

abbrev FaultBehind : ℕ → ℕ → List MapElement → MapFault → Type 0
FaultBehind at end es (AfterNull k) = (j : ℕ) × (k ≡ at + j) × IsNoGrant end es j
FaultBehind at end es f = ⊥

never : (f : MapFault) (n : ℕ) (r : Result ℕ MapFault) → r ≡ Err f → r ≡ Ok n → ⊥
never f n r p q = cc

same_fault : (f g : MapFault) (r : Result ℕ MapFault) → r ≡ Err f → r ≡ Err g → f ≡ g
same_fault f g r p q = cc

more_behind : (at end : ℕ) (e : MapElement) (es : List MapElement) (f : MapFault) → is_pending end e ≡ true → FaultBehind (at + 1) end es f → FaultBehind at end (e ∷ es) f
more_behind at end e es Short p h = h
more_behind at end e es Count p h = h
more_behind at end e es (Backward k) p h = h
more_behind at end e es NoNull p h = h
more_behind at end e es (AfterNull k) p h = (
  h.0 + 1,
  omega (arith, h.1),
  record {
    before = e ∷ h.2.before;
    element = h.2.element;
    after = h.2.after;
    split = ap (λ (xs : List MapElement). e ∷ xs) h.2.split;
    place = omega (arith, h.2.place);
    grants = (p, h.2.grants);
    no_grant = h.2.no_grant;
  },
)
more_behind at end e es NoMemory p h = h

fault_behind : (spans end at : ℕ) (es : List MapElement) (f : MapFault) → judged_behind spans end at es ≡ Err f → FaultBehind at end es f
fault_behind spans end at [] f h = absurd (never f spans (judged_behind spans end at []) h refl)
fault_behind spans end at (e ∷ es) f h = by (is_pending end e) refl (λ k. fault_behind spans end (at + 1) es f k)
  where
    by : (t : Bool) → is_pending end e ≡ t → (judged_behind spans end (at + 1) es ≡ Err f → FaultBehind (at + 1) end es f) → FaultBehind at end (e ∷ es) f
    by true p more = more_behind at end e es f p (more (rw p at h))
    by false p more =
        subst (λ (g : MapFault). FaultBehind at end (e ∷ es) g) (same_fault (AfterNull at) f (judged_behind spans end at (e ∷ es)) (rw p) h)
        (0, omega arith, record { before = []; element = e; after = es; split = refl; place = refl; grants = tt; no_grant = p })

more_from : (at least : ℕ) (e : MapElement) (es : List MapElement) (f : MapFault) → least ≤ e.offset → is_null e ≡ false → FaultFrom (at + 1) (e.offset + 1) es f → FaultFrom at least (e ∷ es) f
more_from at least e es Short p q h = h
more_from at least e es Count p q h = h
more_from at least e es (Backward k) p q h = (
  h.0 + 1,
  omega (arith, h.1),
  record {
    before = e ∷ h.2.before;
    element = h.2.element;
    after = h.2.after;
    split = ap (λ (xs : List MapElement). e ∷ xs) h.2.split;
    place = omega (arith, h.2.place);
    ascending = (p, q, h.2.ascending);
    backward = h.2.backward;
  },
)
more_from at least e es NoNull p q h = (p, q, h)
more_from at least e es (AfterNull k) p q h = (
  h.0 + 1,
  omega (arith, h.1),
  record {
    before = e ∷ h.2.before;
    null = h.2.null;
    behind = h.2.behind;
    place = h.2.place;
    split = ap (λ (xs : List MapElement). e ∷ xs) h.2.split;
    ascending = (p, q, h.2.ascending);
    ascends = h.2.ascends;
    is_the_null = h.2.is_the_null;
    no_grant = h.2.no_grant;
    behind_them = omega (arith, h.2.behind_them);
  },
)
more_from at least e es NoMemory p q h = h

at_null : (at least : ℕ) (e : MapElement) (es : List MapElement) (f : MapFault) → least ≤ e.offset → is_null e ≡ true → FaultBehind (at + 1) e.offset es f → FaultFrom at least (e ∷ es) f
at_null at least e es Short p q h = h
at_null at least e es Count p q h = h
at_null at least e es (Backward k) p q h = absurd h
at_null at least e es NoNull p q h = absurd h
at_null at least e es (AfterNull k) p q h = (
  h.0 + 1,
  omega (arith, h.1),
  record {
    before = [];
    null = e;
    behind = es;
    place = h.0;
    split = refl;
    ascending = tt;
    ascends = p;
    is_the_null = q;
    no_grant = h.2;
    behind_them = omega arith;
  },
)
at_null at least e es NoMemory p q h = h

fault_from : (at least : ℕ) (es : List MapElement) (f : MapFault) → count_before_null at least es ≡ Err f → FaultFrom at least es f
fault_from at least [] f h = subst (λ (g : MapFault). FaultFrom at least [] g) (same_fault NoNull f (count_before_null at least []) refl h) tt
fault_from at least (e ∷ es) f h = by (ltb e.offset least) (is_null e) refl refl (λ k. fault_from (at + 1) (e.offset + 1) es f k)
  where
    by : (t u : Bool) → ltb e.offset least ≡ t → is_null e ≡ u → (count_before_null (at + 1) (e.offset + 1) es ≡ Err f → FaultFrom (at + 1) (e.offset + 1) es f) → FaultFrom at least (e ∷ es) f
    by true u p q more =
        subst (λ (g : MapFault). FaultFrom at least (e ∷ es) g) (same_fault (Backward at) f (count_before_null at least (e ∷ es)) (rw p) h)
        (0, omega arith, record { before = []; element = e; after = es; split = refl; place = refl; ascending = tt; backward = ltb-true e.offset least p })
    by false true p q more = at_null at least e es f (ltb-false e.offset least p) q (fault_behind at e.offset (at + 1) es f (rw (p, q) at h))
    by false false p q more = more_from at least e es f (ltb-false e.offset least p) q (more (rw (p, q) at h))

pub judged_fault : (es : List MapElement) (f : MapFault) → count_before_null 0 0 es ≡ Err f → ElementsFault es f
judged_fault es f h = by f (fault_from 0 0 es f h)
  where
    by : (f : MapFault) → FaultFrom 0 0 es f → ElementsFault es f
    by Short k = k
    by Count k = k
    by (Backward n) k = let e : k.0 ≡ n = omega (arith, k.1) in subst (λ (j : ℕ). GoesBackward 0 es j) e k.2
    by NoNull k = k
    by (AfterNull n) k = let e : k.0 ≡ n = omega (arith, k.1) in subst (λ (j : ℕ). FollowsNull 0 es j) e k.2
    by NoMemory k = k

-- ---- a fault that is there is found

backward_found : (at least : ℕ) (before : List MapElement) (e : MapElement) (after : List MapElement) → AreAscending least before → e.offset < least_behind least before
    → count_before_null at least (before ++ e ∷ after) ≡ Err (Backward (at + length before))
backward_found at least [] e after asc lt = rw (lt-ltb e.offset least lt) (ap (λ (n : ℕ). Err (Backward n)) (omega arith))
backward_found at least (x ∷ before) e after asc lt =
    rw (le-ltb x.offset least asc.0, asc.1) (backward_found (at + 1) (x.offset + 1) before e after asc.2 lt ∙ ap (λ (n : ℕ). Err (Backward n)) (omega arith))

ascending_found : (at least : ℕ) (es : List MapElement) → AreAscending least es → count_before_null at least es ≡ Err NoNull
ascending_found at least [] asc = refl
ascending_found at least (x ∷ es) asc = rw (le-ltb x.offset least asc.0, asc.1) (ascending_found (at + 1) (x.offset + 1) es asc.2)

no_grant_found : (spans end at : ℕ) (before : List MapElement) (e : MapElement) (after : List MapElement) → AllByRecursion (λ x. is_pending end x ≡ true) before → is_pending end e ≡ false
    → judged_behind spans end at (before ++ e ∷ after) ≡ Err (AfterNull (at + length before))
no_grant_found spans end at [] e after grants not_one = rw not_one (ap (λ (n : ℕ). Err (AfterNull n)) (omega arith))
no_grant_found spans end at (x ∷ before) e after grants not_one =
    rw grants.0 (no_grant_found spans end (at + 1) before e after grants.1 not_one ∙ ap (λ (n : ℕ). Err (AfterNull n)) (omega arith))

follows_found : (at least : ℕ) (before : List MapElement) (null : MapElement) (behind : List MapElement) (j : ℕ) → AreAscending least before → least_behind least before ≤ null.offset → is_null null ≡ true → IsNoGrant null.offset behind j
    → count_before_null at least (before ++ null ∷ behind) ≡ Err (AfterNull (at + (length before + 1 + j)))
follows_found at least [] null behind j asc le is wrong =
    rw (le-ltb null.offset least le, is)
    (ap (judged_behind at null.offset (at + 1)) wrong.split ∙ (no_grant_found at null.offset (at + 1) wrong.before wrong.element wrong.after wrong.grants wrong.no_grant
    ∙ ap (λ (n : ℕ). Err (AfterNull n)) (omega (arith, wrong.place))))
follows_found at least (x ∷ before) null behind j asc le is wrong =
    rw (le-ltb x.offset least asc.0, asc.1)
    (follows_found (at + 1) (x.offset + 1) before null behind j asc.2 le is wrong ∙ ap (λ (n : ℕ). Err (AfterNull n)) (omega arith))

pub fault_judged : (es : List MapElement) (f : MapFault) → ElementsFault es f → count_before_null 0 0 es ≡ Err f
fault_judged es Short h = absurd h
fault_judged es Count h = absurd h
fault_judged es (Backward n) h = ap (count_before_null 0 0) h.split ∙ (backward_found 0 0 h.before h.element h.after h.ascending h.backward ∙ ap (λ (k : ℕ). Err (Backward k)) (omega (arith, h.place)))
fault_judged es NoNull h = ascending_found 0 0 es h
fault_judged es (AfterNull n) h = ap (count_before_null 0 0) h.split ∙ (follows_found 0 0 h.before h.null h.behind h.place h.ascending h.ascends h.is_the_null h.no_grant ∙ ap (λ (k : ℕ). Err (AfterNull k)) (omega (arith, h.behind_them)))
fault_judged es NoMemory h = absurd h
