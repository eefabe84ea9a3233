-- What stands under a subtype after one more TLV.
use Rattle.std.proofs.Common.{◌≡◌, ◌≢◌, ◌≤◌, ℕ, Bool, true, false, cond, List, [], ◌∷◌, ◌++◌, length, map, filter, slice_get, Option, Some, None, is_some, refl, sym, ap, subst, ◌∙◌, eqb, eq-eqb, arith, nat_lt, ◌||◌}
use Rattle.tlv24.proofs.Common.{map-append, append-nil, nat_tests, Tlv, TlvFault, WrongLength, Twice, Range, tlv}
use Rattle.std.proofs.lemmas.List.Elements.{filter-append}
use Rattle.tlv24.specs.Flow.{values_of, value_of, lengths_of, fault_with, fault_of, in_range, is_terminated}

pub values_of-append : (subtype : ℕ) (xs ys : List Tlv) → values_of subtype (xs ++ ys) ≡ values_of subtype xs ++ values_of subtype ys
values_of-append subtype xs ys =
    ap (map (λ (t : Tlv). t.value)) (filter-append (λ (t : Tlv). eqb t.kind subtype) xs ys)
    ∙ map-append (λ (t : Tlv). t.value) (filter (λ (t : Tlv). eqb t.kind subtype) xs) (filter (λ (t : Tlv). eqb t.kind subtype) ys)

single : Bool → List ℕ → List (List ℕ)
single true value = value ∷ []
single false value = []

values_of-single : (subtype kind : ℕ) (value : List ℕ) (b : Bool) → eqb kind subtype ≡ b → values_of subtype (tlv kind value ∷ []) ≡ single b value
unfolding single
values_of-single subtype kind value true e = rw e refl
values_of-single subtype kind value false e = rw e refl

nothing_at : (values : List (List ℕ)) → slice_get values 0 ≡ None → values ≡ []
nothing_at [] e = refl
nothing_at (value ∷ values) e = absurd cc

pub differs : (a b : ℕ) → a ≢ b → eqb a b ≡ false
differs a b h = grind arith

pub values_other : (before : List Tlv) (subtype kind : ℕ) (value : List ℕ) → kind ≢ subtype → values_of subtype (before ++ tlv kind value ∷ []) ≡ values_of subtype before
unfolding single
values_other before subtype kind value other =
    values_of-append subtype before (tlv kind value ∷ [])
    ∙ ap (λ (x : List (List ℕ)). values_of subtype before ++ x) (values_of-single subtype kind value false (differs kind subtype other))
    ∙ append-nil (values_of subtype before)

pub other_lem : (before : List Tlv) (subtype kind : ℕ) (value : List ℕ) → kind ≢ subtype → value_of subtype (before ++ tlv kind value ∷ []) ≡ value_of subtype before
other_lem before subtype kind value other = ap (λ (x : List (List ℕ)). slice_get x 0) (values_other before subtype kind value other)

pub values_same : (before : List Tlv) (subtype : ℕ) (value : List ℕ) → value_of subtype before ≡ None → values_of subtype (before ++ tlv subtype value ∷ []) ≡ value ∷ []
unfolding single
values_same before subtype value none =
    values_of-append subtype before (tlv subtype value ∷ [])
    ∙ ap (λ (x : List (List ℕ)). x ++ values_of subtype (tlv subtype value ∷ [])) (nothing_at (values_of subtype before) none)
    ∙ values_of-single subtype subtype value true (eq-eqb subtype subtype refl)

-- a TLV of a known subtype that is not at fault is the first of its subtype, of its length and in its range
pub record IsFine (before : List Tlv) (t : Tlv) (lengths : ℕ × ℕ) : Type 0 where
  pub length_test : (nat_lt (length t.value) lengths.0 || nat_lt lengths.1 (length t.value)) ≡ false
  pub new : value_of t.kind before ≡ None
  pub takes : in_range t.kind t.value ≡ true

no_fault : (long seen fits : Bool) (o : Option (List ℕ)) (a b c : TlvFault) → is_some o ≡ seen → cond long (Some a) (cond seen (Some b) (cond fits None (Some c))) ≡ None
    → (long ≡ false) × (o ≡ None) × (fits ≡ true)
no_fault true seen fits o a b c s e = absurd cc
no_fault false true fits o a b c s e = absurd cc
no_fault false false true None a b c s e = (refl, refl, refl)
no_fault false false true (Some v) a b c s e = absurd cc
no_fault false false false o a b c s e = absurd cc

pub fine : (before : List Tlv) (t : Tlv) (lengths : ℕ × ℕ) → fault_with (Some lengths) before t ≡ None → IsFine before t lengths
fine before t lengths e =
    let f = no_fault (nat_lt (length t.value) lengths.0 || nat_lt lengths.1 (length t.value)) (is_some (value_of t.kind before)) (in_range t.kind t.value) (value_of t.kind before) (WrongLength t.kind) (Twice t.kind) (Range t.kind) refl e in
    record { length_test = f.0; new = f.1; takes = f.2 }

pub fault_of-known : (before : List Tlv) (t : Tlv) (lengths : ℕ × ℕ) → lengths_of t.kind ≡ Some lengths → fault_of before t ≡ fault_with (Some lengths) before t
unfolding fault_of
fault_of-known before t lengths e = ap (λ (o : Option (ℕ × ℕ)). fault_with o before t) e

known_or_not : (o : Option (ℕ × ℕ)) → is_some o ≡ true → (lengths : ℕ × ℕ) × (o ≡ Some lengths)
known_or_not None e = absurd cc
known_or_not (Some lengths) e = (lengths, refl)

pub one_lem : (before : List Tlv) (subtype kind : ℕ) (value : List ℕ) → kind ≡ subtype → is_some (lengths_of subtype) ≡ true → fault_of before (tlv kind value) ≡ None
    → value_of subtype (before ++ tlv kind value ∷ []) ≡ Some value
one_lem before subtype kind value same known e =
    let l = known_or_not (lengths_of subtype) known in
    let here : fault_of before (tlv subtype value) ≡ None = subst (λ (k : ℕ). fault_of before (tlv k value) ≡ None) same e in
    let f = fine before (tlv subtype value) l.0 (sym (fault_of-known before (tlv subtype value) l.0 l.1) ∙ here) in
    subst (λ (k : ℕ). value_of subtype (before ++ tlv k value ∷ []) ≡ Some value) (sym same) (ap (λ (x : List (List ℕ)). slice_get x 0) (values_same before subtype value f.new))

pub lengths_low : (n low high : ℕ) → (nat_lt n low || nat_lt high n) ≡ false → low ≤ n
lengths_low n low high e = grind (arith, nat_tests, e)

pub lengths_high : (n low high : ℕ) → (nat_lt n low || nat_lt high n) ≡ false → n ≤ high
lengths_high n low high e = grind (arith, nat_tests, e)

-- a class name that is not at fault has 2 to 16 bytes, the last its only 0
pub record IsNameAtRight (value : List ℕ) : Type 0 where
  pub long_enough : 2 ≤ length value
  pub short_enough : length value ≤ 16
  pub ends : is_terminated value ≡ true

pub named : (before : List Tlv) (kind : ℕ) (value : List ℕ) → kind ≡ 4 → fault_of before (tlv kind value) ≡ None → IsNameAtRight value
named before kind value same e =
    let here : fault_of before (tlv 4 value) ≡ None = subst (λ (k : ℕ). fault_of before (tlv k value) ≡ None) same e in
    let f = fine before (tlv 4 value) (2, 16) (sym (fault_of-known before (tlv 4 value) (2, 16) refl) ∙ here) in
    record { long_enough = lengths_low (length value) 2 16 f.length_test; short_enough = lengths_high (length value) 2 16 f.length_test; ends = f.takes }
