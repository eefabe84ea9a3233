-- Lists of TLVs: their bytes tell them, and what is read from the front.
use Rattle.std.proofs.Common.{◌≡◌, ℕ, zero, suc, ◌<◌, ◌≤◌, Bool, true, false, cond, leb, List, [], ◌∷◌, ◌++◌, length, take, drop, Option, Some, None, refl, sym, ap, subst, ◌∙◌, append_assoc, length-drop, arith}
use Rattle.tlv24.proofs.Common.{AllByRecursion, append-nil, take_at, drop_at, Tlv}
use Rattle.std.proofs.lemmas.Grind.{flat_map-append}
use Rattle.tlv24.specs.Tlv.{tlv, FitsLengthByte, spelled_one, spelled, IsTlvList, IsFront, Begins, NoTlvBegins, First, Front, first_tlv, front_within, front_of}

-- ---- the bytes tell the list

pub spelled-append : (xs ys : List Tlv) → spelled (xs ++ ys) ≡ spelled xs ++ spelled ys
spelled-append xs ys = flat_map-append spelled_one xs ys

pub short-append : (xs ys : List Tlv) → AllByRecursion FitsLengthByte xs → AllByRecursion FitsLengthByte ys → AllByRecursion FitsLengthByte (xs ++ ys)
short-append [] ys p q = q
short-append (t ∷ xs) ys p q = (p.0, short-append xs ys p.1 q)

-- two lists of TLVs, the first with a rest: the second goes on with what is in the rest
pub record GoesOn (before : List Tlv) (rest : List ℕ) (tlvs : List Tlv) : Type 0 where
  pub more : List Tlv
  pub short : AllByRecursion FitsLengthByte more
  pub whole : tlvs ≡ before ++ more
  pub spelling : rest ≡ spelled more

-- equal lengths and equal wholes: equal parts
pub parts_front : (a b x y : List ℕ) → length a ≡ length b → a ++ x ≡ b ++ y → a ≡ b
parts_front a b x y len e = sym (take_at a x (length a) refl) ∙ ap (take (length a)) e ∙ take_at b y (length a) (sym len)

pub parts_back : (a b x y : List ℕ) → length a ≡ length b → a ++ x ≡ b ++ y → x ≡ y
parts_back a b x y len e = sym (drop_at a x (length a) refl) ∙ ap (drop (length a)) e ∙ drop_at b y (length a) (sym len)

-- one TLV at the front of equal bytes
pub record SameFirst (t u : Tlv) (x y : List ℕ) : Type 0 where
  pub tlv_is : t ≡ u
  pub rest_is : x ≡ y

pub same_first : (t u : Tlv) (x y : List ℕ) → spelled_one t ++ x ≡ spelled_one u ++ y → SameFirst t u x y
same_first t u x y e =
    let kinds : t.kind ≡ u.kind = cc in
    let lens : length t.value ≡ length u.value = cc in
    let tails : t.value ++ x ≡ u.value ++ y = cc in
    record {
      tlv_is = ap (λ (k : ℕ). tlv k t.value) kinds ∙ ap (λ (v : List ℕ). tlv u.kind v) (parts_front t.value u.value x y lens tails);
      rest_is = parts_back t.value u.value x y lens tails;
    }

pub goes_on : (before : List Tlv) (rest : List ℕ) (tlvs : List Tlv) → AllByRecursion FitsLengthByte tlvs → spelled before ++ rest ≡ spelled tlvs → GoesOn before rest tlvs
goes_on [] rest tlvs short e = record { more = tlvs; short = short; whole = refl; spelling = e }
goes_on (t ∷ before) rest [] short e = absurd cc
goes_on (t ∷ before) rest (u ∷ tlvs) short e =
    let s = same_first t u (spelled before ++ rest) (spelled tlvs) (sym (append_assoc (spelled_one t) (spelled before) rest) ∙ e) in
    let g = goes_on before rest tlvs short.1 s.rest_is in
    record { more = g.more; short = g.short; whole = ap (λ (v : Tlv). v ∷ tlvs) (sym s.tlv_is) ∙ ap (λ (vs : List Tlv). t ∷ vs) g.whole; spelling = g.spelling }

nothing_spelled : (tlvs : List Tlv) → [] ≡ spelled tlvs → tlvs ≡ []
nothing_spelled [] e = refl
nothing_spelled (t ∷ tlvs) e = absurd cc

pub one_list : (bytes : List ℕ) (xs ys : List Tlv) → IsTlvList bytes xs → IsTlvList bytes ys → xs ≡ ys
one_list bytes xs ys p q =
    let g = goes_on xs [] ys q.short (append-nil (spelled xs) ∙ sym p.spelling ∙ q.spelling) in
    sym (g.whole ∙ ap (λ (m : List Tlv). xs ++ m) (nothing_spelled g.more g.spelling) ∙ append-nil xs)

-- bytes that begin with a TLV and are a list begin the list with it
pub record StartsWith (t : Tlv) (after : List ℕ) (tlvs : List Tlv) : Type 0 where
  pub others : List Tlv
  pub short : AllByRecursion FitsLengthByte others
  pub whole : tlvs ≡ t ∷ others
  pub spelling : after ≡ spelled others

pub starts_with : (rest : List ℕ) (t : Tlv) (after : List ℕ) (tlvs : List Tlv) → AllByRecursion FitsLengthByte tlvs → rest ≡ spelled tlvs → Begins rest t after → StartsWith t after tlvs
starts_with rest t after [] short e b = let clash : spelled_one t ++ after ≡ [] = sym b.spelling ∙ e in absurd cc
starts_with rest t after (u ∷ tlvs) short e b =
    let s = same_first t u after (spelled tlvs) (sym b.spelling ∙ e) in
    record { others = tlvs; short = short.1; whole = ap (λ (v : Tlv). v ∷ tlvs) (sym s.tlv_is); spelling = s.rest_is }

pub not_stuck : (rest : List ℕ) (tlvs : List Tlv) → AllByRecursion FitsLengthByte tlvs → rest ≡ spelled tlvs → 0 < length rest → NoTlvBegins rest → ⊥
not_stuck rest [] short e some none = let empty : length rest ≡ 0 = ap length e in omega arith
not_stuck rest (t ∷ tlvs) short e some none = none t (spelled tlvs) (record { short = short.0; spelling = e })

-- ---- one more TLV

pub IsFront-more : (bytes : List ℕ) (before : List Tlv) (rest : List ℕ) (t : Tlv) (after : List ℕ) → IsFront bytes before rest → Begins rest t after → IsFront bytes (before ++ t ∷ []) after
IsFront-more bytes before rest t after f b = record {
  short = short-append before (t ∷ []) f.short (b.short, tt);
  spelling = f.spelling ∙ ap (λ (x : List ℕ). spelled before ++ x) b.spelling
      ∙ sym (append_assoc (spelled before) (spelled_one t) after)
      ∙ ap (λ (x : List ℕ). x ++ after) (sym (spelled-append before (t ∷ []) ∙ ap (λ (x : List ℕ). spelled before ++ x) (append-nil (spelled_one t))));
}

-- ---- the front as a function

pub shrinks : (bytes : List ℕ) (first : First) → first_tlv bytes ≡ Some first → length first.rest < length bytes
shrinks [] first e = absurd cc
shrinks (kind ∷ []) first e = absurd cc
shrinks (kind ∷ count ∷ more) first e = shrinks_by kind count more (leb count (length more)) first e
  where
    shrinks_by : (kind count : ℕ) (more : List ℕ) (b : Bool) (first : First) → cond b (Some (record { tlv = tlv kind (take count more); rest = drop count more })) None ≡ Some first → length first.rest < length (kind ∷ count ∷ more)
    shrinks_by kind count more true first e =
        let same : drop count more ≡ first.rest = ap (λ (o : Option First). elim o [ None ↦ [] | Some f ↦ f.rest ]) e in
        omega (arith, ap length same, length-drop count more)
    shrinks_by kind count more false first e = absurd cc

-- what a step from the front says
front_step : ℕ → List ℕ → Option First → Front
front_step most bytes o = elim o [
  | None ↦ record { tlvs = []; rest = bytes }
  | Some first ↦ record { tlvs = first.tlv ∷ (front_within most first.rest).tlvs; rest = (front_within most first.rest).rest }
]

within_step : (most : ℕ) (bytes : List ℕ) → front_within (suc most) bytes ≡ front_step most bytes (first_tlv bytes)
unfolding front_step
within_step most bytes = refl

is_nothing : (bytes : List ℕ) → length bytes ≤ 0 → bytes ≡ []
is_nothing [] h = refl
is_nothing (b ∷ bytes) h = absurd (omega arith)

enough : (n m : ℕ) (bytes : List ℕ) → length bytes ≤ n → length bytes ≤ m → front_within n bytes ≡ front_within m bytes
unfolding front_step
enough zero zero bytes p q = refl
enough zero (suc m) bytes p q = let e = is_nothing bytes p in subst (λ (b : List ℕ). front_within 0 b ≡ front_within (suc m) b) (sym e) refl
enough (suc n) zero bytes p q = let e = is_nothing bytes q in subst (λ (b : List ℕ). front_within (suc n) b ≡ front_within 0 b) (sym e) refl
enough (suc n) (suc m) bytes p q =
    within_step n bytes ∙ same_step n m bytes (first_tlv bytes) refl p q (λ rest a b. enough n m rest a b) ∙ sym (within_step m bytes)
  where
    same_step : (n m : ℕ) (bytes : List ℕ) (o : Option First) → first_tlv bytes ≡ o → length bytes ≤ suc n → length bytes ≤ suc m → ((rest : List ℕ) → length rest ≤ n → length rest ≤ m → front_within n rest ≡ front_within m rest) → front_step n bytes o ≡ front_step m bytes o
    same_step n m bytes None e p q again = refl
    same_step n m bytes (Some first) e p q again =
        let less : length first.rest < length bytes = shrinks bytes first e in
        ap (λ (f : Front). record { tlvs = first.tlv ∷ f.tlvs; rest = f.rest }) (again first.rest (omega arith) (omega arith))

pub front_of-none : (bytes : List ℕ) → first_tlv bytes ≡ None → front_of bytes ≡ record { tlvs = []; rest = bytes }
unfolding front_of front_step
front_of-none bytes e =
    enough (length bytes) (suc (length bytes)) bytes (omega arith) (omega arith)
    ∙ within_step (length bytes) bytes ∙ ap (front_step (length bytes) bytes) e

pub front_of-some : (bytes : List ℕ) (first : First) → first_tlv bytes ≡ Some first → front_of bytes ≡ record { tlvs = first.tlv ∷ (front_of first.rest).tlvs; rest = (front_of first.rest).rest }
unfolding front_of front_step
front_of-some bytes first e =
    let less : length first.rest < length bytes = shrinks bytes first e in
    enough (length bytes) (suc (length bytes)) bytes (omega arith) (omega arith)
    ∙ within_step (length bytes) bytes ∙ ap (front_step (length bytes) bytes) e
    ∙ ap (λ (f : Front). record { tlvs = first.tlv ∷ f.tlvs; rest = f.rest }) (enough (length bytes) (length first.rest) first.rest (omega arith) (omega arith))

-- ---- splitting

pub IsFront-end : (bytes : List ℕ) (before : List Tlv) (rest : List ℕ) (tlvs : List Tlv) → IsFront bytes before rest → length rest ≡ 0 → IsTlvList bytes tlvs → before ≡ tlvs
IsFront-end bytes before rest tlvs f none list =
    let empty = is_nothing rest (omega arith) in
    one_list bytes before tlvs (record { short = f.short; spelling = f.spelling ∙ ap (λ (x : List ℕ). spelled before ++ x) empty ∙ append-nil (spelled before) }) list

pub IsFront-stuck : (bytes : List ℕ) (before : List Tlv) (rest : List ℕ) (tlvs : List Tlv) → IsFront bytes before rest → 0 < length rest → NoTlvBegins rest → IsTlvList bytes tlvs → ⊥
IsFront-stuck bytes before rest tlvs f some none list =
    let g = goes_on before rest tlvs list.short (sym f.spelling ∙ list.spelling) in
    not_stuck rest g.more g.short g.spelling some none
