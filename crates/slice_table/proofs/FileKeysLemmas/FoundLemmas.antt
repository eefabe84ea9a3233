-- What a reading of keys, one after the other, finds.
use Rattle.std.proofs.Common.{◌≡◌, Bool, true, false, ℕ, suc, ◌+◌, add-zero, List, [], ◌∷◌, ◌++◌, inl, inr, Option, Some, None, Ok, Err, refl, sym, ap, ◌∙◌, subst, arith}
use Rattle.slice_table.proofs.FileKeysLemmas.Common.{AllByRecursion, Data, Items, no_items, item, Members, get_item, ◌>>=◌, PlantFault, Missing, BadValue, Key, PlantResult, each, required_value, expected_value, checked_value, IsFirst, value_of_key, in_turn, IsValueOfKey, MustStand, IsMissing, IsWrong, IsAtFault, IsToldAs}
use Rattle.slice_table.proofs.FileKeysLemmas.ListLemmas.{some_same, none-append, first-here, first-behind, first-before}

-- ---- what a reading blames

abbrev pub blame : Key → Option Data → PlantFault
blame key None = Missing key
blame key (Some d) = BadValue key

abbrev pub Blames : {A : Type 0} → Key → Option Data → PlantResult A → Type 0
Blames key o r = (fault : PlantFault) → r ≡ Err fault → fault ≡ blame key o

pub blames_required : (key : Key) (o : Option Data) → Blames key o (required_value key o)
blames_required key None fault h = cc
blames_required key (Some d) fault h = cc

pub blames_bind : {A B : Type 0} (key : Key) (o : Option Data) (r : PlantResult A) (f : A → PlantResult B) → Blames key o r
    → ((x : A) → r ≡ Ok x → Blames key o (f x)) → Blames key o (r >>= f)
blames_bind key o (Ok x) f one other fault h = other x refl fault h
blames_bind key o (Err e) f one other fault h = let same : e ≡ fault = cc in one fault (ap (λ (g : PlantFault). Err g) same)

told_wrong : (key : Key) (o : Option Data) (d : Data) (fault : PlantFault) → o ≡ Some d → fault ≡ BadValue key → fault ≡ blame key o
told_wrong key o d fault at is = is ∙ sym (ap (blame key) at)

pub blames_expected : {A : Type 0} (key : Key) (o : Option Data) (d : Data) (p : Option A) → o ≡ Some d → Blames key o (expected_value key p)
blames_expected key o d None at fault h = told_wrong key o d fault at (cc)
blames_expected key o d (Some x) at fault h = cc

pub blames_checked : {A : Type 0} (key : Key) (o : Option Data) (d : Data) (test : Bool) (x : A) → o ≡ Some d → Blames key o (checked_value key test x)
blames_checked key o d true x at fault h = cc
blames_checked key o d false x at fault h = told_wrong key o d fault at (cc)

-- ---- what is found of keys

abbrev pub refused : (B : Type 0) → PlantFault → PlantResult B
refused B fault = Err fault

module _ (document : Members) where
  abbrev pub Found : {A : Type 0} → List Key → PlantResult A → Type 0
  Found keys (Ok x) = AllByRecursion (λ key. ¬ IsAtFault document key) keys
  Found keys (Err fault) = (key : Key) × IsFirst (IsAtFault document) keys key × IsToldAs document key fault

  pub found_behind : {A : Type 0} (keys more : List Key) (r : PlantResult A) → AllByRecursion (λ key. ¬ IsAtFault document key) keys → Found more r
      → Found (keys ++ more) r
  found_behind keys more (Ok x) none rest = none-append (IsAtFault document) keys more none rest
  found_behind keys more (Err fault) none rest = (rest.0, first-behind (IsAtFault document) keys more rest.0 none rest.1, rest.2)

  pub found_bind : {A B : Type 0} (keys more : List Key) (r : PlantResult A) (f : A → PlantResult B) → Found keys r
      → ((x : A) → r ≡ Ok x → Found more (f x)) → Found (keys ++ more) (r >>= f)
  found_bind keys more (Ok x) f none rest = found_behind keys more (f x) none (rest x refl)
  found_bind keys more (Err fault) f found rest = (found.0, first-before (IsAtFault document) keys more found.0 found.1, found.2)

  pub found_before : {A : Type 0} (B : Type 0) (keys more : List Key) (fault : PlantFault) (r : PlantResult A) → r ≡ Err fault → Found keys r
      → Found (keys ++ more) (refused B fault)
  found_before B keys more fault (Ok x) is found = cc
  found_before B keys more fault (Err other) is found =
      let same : other ≡ fault = cc in
      (found.0, first-before (IsAtFault document) keys more found.0 found.1, subst (IsToldAs document found.0) same found.2)

  -- a last step that cannot fail
  pub found_last : {A B : Type 0} (keys : List Key) (r : PlantResult A) (f : A → B) → Found keys r → Found keys (r >>= λ x. Ok (f x))
  found_last keys (Ok x) f none = none
  found_last keys (Err fault) f found = found

  -- ---- one key

  abbrev pub Judged : {A : Type 0} → Key → Option Data → PlantResult A → Type 0
  Judged key None (Ok x) = ¬ MustStand document key
  Judged key None (Err fault) = MustStand document key × (fault ≡ Missing key)
  Judged key (Some d) (Ok x) = IsValueOfKey document key d
  Judged key (Some d) (Err fault) = (¬ IsValueOfKey document key d) × (fault ≡ BadValue key)

  not_both : (o : Option Data) (d : Data) → o ≡ None → o ≡ Some d → ⊥
  not_both o d none some = let e : ◌≡◌ {A = Option Data} None (Some d) = sym none ∙ some in cc

  pub found_key : {A : Type 0} (key : Key) (o : Option Data) (r : PlantResult A) → value_of_key document key ≡ o → Judged key o r → Found (key ∷ []) r
  found_key key None (Ok x) at judged =
      ((λ fault. elim fault [ inl missing ↦ judged missing.1 | inr wrong ↦ not_both (value_of_key document key) wrong.0 at wrong.1 ]), tt)
  found_key key None (Err fault) at judged =
      let missing : IsMissing document key = (at, judged.0) in
      (key, first-here (IsAtFault document) key [] (inl missing), inl (missing, judged.1))
  found_key key (Some d) (Ok x) at may = (
    (λ fault. elim fault [
      | inl missing ↦ not_both (value_of_key document key) d missing.0 at
      | inr wrong ↦ wrong.2 (subst (IsValueOfKey document key) (some_same d wrong.0 (sym at ∙ wrong.1)) may)
    ]),
    tt,
  )
  found_key key (Some d) (Err fault) at judged =
      let wrong : IsWrong document key = (d, at, judged.0) in
      (key, first-here (IsAtFault document) key [] (inr wrong), inr (wrong, judged.1))

  -- a key that has to be there
  pub judged_required : {A : Type 0} (key : Key) (o : Option Data) (r : PlantResult A) → MustStand document key → Blames key o r
      → ((x : A) → r ≡ Ok x → (d : Data) × (o ≡ Some d) × IsValueOfKey document key d)
      → ((d : Data) → o ≡ Some d → IsValueOfKey document key d → (x : A) × (r ≡ Ok x)) → Judged key o r
  judged_required key None (Ok x) must blames said again = let y = said x refl in let e : ◌≡◌ {A = Option Data} None (Some y.0) = y.1 in cc
  judged_required key None (Err fault) must blames said again = (must, blames fault refl)
  judged_required key (Some d) (Ok x) must blames said again = let y = said x refl in subst (IsValueOfKey document key) (sym (some_same d y.0 y.1)) y.2
  judged_required {A} key (Some d) (Err fault) must blames said again =
      ((λ may. let x = again d refl may in let e : ◌≡◌ {A = PlantResult A} (Err fault) (Ok x.0) = x.1 in cc), blames fault refl)

  -- ---- the items of an array, one after the other

  module _ {A : Type 0} (read : List A → Data → PlantResult A) (keys : ℕ → List Key) (Inv : ℕ → List A → Type 0) (all : Items)
      (step : (n : ℕ) (done : List A) (d : Data) → Inv n done → get_item n all ≡ Some d → Found (keys n) (read done d))
      (keep : (n : ℕ) (done : List A) (d : Data) (x : A) → Inv n done → get_item n all ≡ Some d → read done d ≡ Ok x → Inv (suc n) (done ++ x ∷ [])) where
    pub found_each : (n : ℕ) (done : List A) (ds : Items) → ((k : ℕ) → get_item k ds ≡ get_item (n + k) all) → Inv n done
        → Found (in_turn keys n ds) (each read done ds)
    found_each n done no_items same inv = tt
    found_each n done (item d ds) same inv =
        let here : get_item n all ≡ Some d = subst (λ (m : ℕ). get_item m all ≡ Some d) (add-zero n) (sym (same 0)) in
        found_bind (keys n) (in_turn keys (suc n) ds) (read done d) (λ x. each read (done ++ x ∷ []) ds) (step n done d inv here)
        (λ x is. found_each (suc n) (done ++ x ∷ []) ds
        (λ k. subst (λ (m : ℕ). get_item k ds ≡ get_item m all) (let e : n + suc k ≡ suc n + k = omega arith in e) (same (suc k)))
        (keep n done d x inv here is))
