-- What each operator's part of a frame has.
use Rattle.std.proofs.Common.{◌≡◌, ℕ, zero, suc, ◌+◌, ◌≤◌, List, [], ◌∷◌, length, map, Bool, true, false, not, ◌&&◌, ◌⊎◌, inl, inr, refl, sym, subst, arith, eqb, leb, Some}
use Rattle.map_assembly.proofs.Common.{AllByRecursion, filter, slice_get, list_all, recursion_from_All, same_Some, and_parts, and_from, or_cases, eqb-true, leb-true, le-leb, both_ways, false_from_ne_true, Numbers, Minislots, slices_overlap, Span, ElementsFields, IsTiled, ranges_overlap, Channel, Quota, MapSpan, map_span, in_slice_order, is_within, is_mine, is_slice, is_fitting, IsPartOf, ArePartsOf, IsQuota, IsInFrame, AreSlices, IsChannel}
use Rattle.map_assembly.proofs.OrderLemmas.{PairsByRecursion, pairs_from_AllPairs, pairs-map, all-map, IsPlaced, sorted_in_order}
use Rattle.map_assembly.proofs.TilingLemmas.{InOrder}

-- ---- what fitting says

pub record FitsIn (quota : Quota) (slice : Minislots) (part : ElementsFields) : Type 0 where
  pub slice_is : part.slice ≡ slice
  pub spans : AllByRecursion (λ span. is_mine quota.sids span.sid ≡ true) part.spans
  pub pending : AllByRecursion (λ sid. is_mine quota.sids sid ≡ true) part.pending
  pub few : length part.spans + length part.pending ≤ quota.elements + 1

same_slice : (a b : Minislots) → is_slice a b ≡ true → a ≡ b
same_slice a b h =
    let p : (eqb a.start b.start ≡ true) × (eqb a.length b.length ≡ true) = and_parts (eqb a.start b.start) (eqb a.length b.length) h in
    λ i. record { start = eqb-true a.start b.start p.0 i; length = eqb-true a.length b.length p.1 i }

all-list_all : {X : Type 0} (t : X → Bool) (xs : List X) → list_all t xs ≡ true → AllByRecursion (λ x. t x ≡ true) xs
all-list_all t [] h = tt
all-list_all t (x ∷ xs) h = let p : (t x ≡ true) × (list_all t xs ≡ true) = and_parts (t x) (list_all t xs) h in (p.0, all-list_all t xs p.1)

pub fits_in : (quota : Quota) (slice : Minislots) (part : ElementsFields) → is_fitting quota slice part ≡ true → FitsIn quota slice part
fits_in quota slice part h =
    let a : Bool = is_slice part.slice slice in
    let b : Bool = list_all (λ (span : Span). is_mine quota.sids span.sid) part.spans in
    let c : Bool = list_all (λ (sid : ℕ). is_mine quota.sids sid) part.pending in
    let d : Bool = leb (length part.spans + length part.pending) (quota.elements + 1) in
    let p : (a && b && c ≡ true) × (d ≡ true) = and_parts (a && b && c) d h in
    let q : (a && b ≡ true) × (c ≡ true) = and_parts (a && b) c p.0 in
    let r : (a ≡ true) × (b ≡ true) = and_parts a b q.0 in
    record {
      slice_is = same_slice part.slice slice r.0;
      spans = all-list_all (λ (span : Span). is_mine quota.sids span.sid) part.spans r.1;
      pending = all-list_all (λ (sid : ℕ). is_mine quota.sids sid) part.pending q.1;
      few = leb-true (length part.spans + length part.pending) (quota.elements + 1) p.1;
    }

-- ---- their slices

pub slices_of_parts : (quotas : List Quota) (slices : List Minislots) (parts : List ElementsFields) → ArePartsOf quotas slices parts → map (λ p. p.slice) parts ≡ slices
slices_of_parts [] [] [] h = refl
slices_of_parts [] [] (p ∷ parts) h = absurd h
slices_of_parts [] (m ∷ slices) parts h = absurd h
slices_of_parts (s ∷ quotas) [] parts h = absurd h
slices_of_parts (s ∷ quotas) (m ∷ slices) [] h = absurd h
slices_of_parts (s ∷ quotas) (m ∷ slices) (p ∷ parts) h =
    λ i. (fits_in s m p h.0.fits).slice_is i ∷ slices_of_parts quotas slices parts h.1 i

pub tiled_parts : (quotas : List Quota) (slices : List Minislots) (parts : List ElementsFields) → ArePartsOf quotas slices parts → AllByRecursion IsTiled parts
tiled_parts [] [] [] h = tt
tiled_parts [] [] (p ∷ parts) h = absurd h
tiled_parts [] (m ∷ slices) parts h = absurd h
tiled_parts (s ∷ quotas) [] parts h = absurd h
tiled_parts (s ∷ quotas) (m ∷ slices) [] h = absurd h
tiled_parts (s ∷ quotas) (m ∷ slices) (p ∷ parts) h = (h.0.tiled, tiled_parts quotas slices parts h.1)

placed_parts : (channel : Channel) (parts : List ElementsFields) → AllByRecursion IsTiled parts → AllByRecursion (λ p. IsInFrame channel p.slice) parts → AllByRecursion (IsPlaced channel.head channel.frame_minislots) parts
placed_parts channel [] t h = tt
placed_parts channel (p ∷ parts) t h = (record { tiled = t.0; some = h.0.some; behind = h.0.behind_head; before = h.0.within_frame }, placed_parts channel parts t.1 h.1)

pub parts_in_order : (channel : Channel) (count : ℕ) (quotas : List Quota) (slices : List Minislots) (parts : List ElementsFields) → IsChannel channel → AreSlices channel count slices → ArePartsOf quotas slices parts
    → InOrder channel.head channel.frame_minislots (in_slice_order parts)
parts_in_order channel count quotas slices parts is valid h =
    let e : map (λ (p : ElementsFields). p.slice) parts ≡ slices = slices_of_parts quotas slices parts h in
    let each : AllByRecursion (IsInFrame channel) (map (λ (p : ElementsFields). p.slice) parts) =
    subst (λ (ms : List Minislots). AllByRecursion (IsInFrame channel) ms) (sym e) (recursion_from_All (IsInFrame channel) slices valid.each) in
    let pairs : PairsByRecursion (λ (a b : Minislots). slices_overlap a b ≡ false) (map (λ (p : ElementsFields). p.slice) parts) =
    subst (λ (ms : List Minislots). PairsByRecursion (λ (a b : Minislots). slices_overlap a b ≡ false) ms) (sym e) (pairs_from_AllPairs (λ (a b : Minislots). slices_overlap a b ≡ false) slices valid.apart) in
    sorted_in_order channel.head channel.frame_minislots parts is.head
    (placed_parts channel parts (tiled_parts quotas slices parts h) (all-map (IsInFrame channel) (λ (p : ElementsFields). p.slice) parts each))
    (pairs-map (λ (a b : Minislots). slices_overlap a b ≡ false) (λ (p : ElementsFields). p.slice) parts pairs)

-- ---- their SIDs

-- a SID that is another's or nobody's is not of the range
pub not_within : (a b : Numbers) (sid : ℕ) → 1 ≤ a.first → ranges_overlap a b ≡ false → is_mine b sid ≡ true → is_within a sid ≡ false
not_within a b sid low meet mine = false_from_ne_true (is_within a sid) (λ w. at (and_parts (leb a.first sid) (leb sid a.last) w) (or_cases (eqb sid 0) (is_within b sid) mine))
  where
    at : (leb a.first sid ≡ true) × (leb sid a.last ≡ true) → (eqb sid 0 ≡ true) ⊎ (is_within b sid ≡ true) → ⊥
    at w (inl zero_is) = omega (arith, leb-true a.first sid w.0, eqb-true sid 0 zero_is)
    at w (inr other) =
        let o : (leb b.first sid ≡ true) × (leb sid b.last ≡ true) = and_parts (leb b.first sid) (leb sid b.last) other in
        both_ways (ranges_overlap a b) meet
        (and_from (leb a.first b.last) (leb b.first a.last)
        (le-leb a.first b.last (omega (arith, leb-true a.first sid w.0, leb-true sid b.last o.1)))
        (le-leb b.first a.last (omega (arith, leb-true b.first sid o.0, leb-true sid a.last w.1))))

-- a SID that is the range's own or nobody's is of the range where it is somebody's
pub within_is_some : (a : Numbers) (sid : ℕ) → 1 ≤ a.first → is_mine a sid ≡ true → is_within a sid ≡ not (eqb sid 0)
within_is_some a sid low mine = by (eqb sid 0) (is_within a sid) refl refl (or_cases (eqb sid 0) (is_within a sid) mine)
  where
    by : (b w : Bool) → eqb sid 0 ≡ b → is_within a sid ≡ w → (eqb sid 0 ≡ true) ⊎ (is_within a sid ≡ true) → w ≡ not b
    by true true p q o =
        let in' : (leb a.first sid ≡ true) × (leb sid a.last ≡ true) = and_parts (leb a.first sid) (leb sid a.last) q in
        absurd (omega (arith, eqb-true sid 0 p, leb-true a.first sid in'.0))
    by true false p q o = refl
    by false true p q o = refl
    by false false p q (inl e) = absurd (both_ways (eqb sid 0) p e)
    by false false p q (inr e) = absurd (both_ways (is_within a sid) q e)

pub ranges_overlap-turned : (a b : Numbers) → ranges_overlap a b ≡ false → ranges_overlap b a ≡ false
ranges_overlap-turned a b h = false_from_ne_true (ranges_overlap b a) (λ w.
    let p : (leb b.first a.last ≡ true) × (leb a.first b.last ≡ true) = and_parts (leb b.first a.last) (leb a.first b.last) w in
    both_ways (ranges_overlap a b) h (and_from (leb a.first b.last) (leb b.first a.last) p.1 p.0))

pub all_at : {X : Type 0} (P : X → Type 0) (xs : List X) (k : ℕ) (x : X) → AllByRecursion P xs → slice_get xs k ≡ Some x → P x
all_at P [] k x h e = absurd (cc)
all_at P (y ∷ ys) zero x h e = subst P (same_Some y x e) h.0
all_at P (y ∷ ys) (suc k) x h e = all_at P ys k x h.1 e

-- ---- what only one operator's part has

-- what of these spans has a SID of the range
abbrev pub own_spans : Numbers → ElementsFields → List MapSpan
own_spans range part = filter (λ s. is_within range s.sid) (map map_span part.spans)

abbrev pub own_pending : Numbers → ElementsFields → List ℕ
own_pending range part = filter (λ sid. is_within range sid) part.pending

-- a part without a SID of the range
pub record IsStranger (range : Numbers) (part : ElementsFields) : Type 0 where
  pub spans : AllByRecursion (λ s. is_within range s.sid ≡ false) part.spans
  pub pending : AllByRecursion (λ sid. is_within range sid ≡ false) part.pending

spans_not_within : (a b : Numbers) (spans : List Span) → 1 ≤ a.first → ranges_overlap a b ≡ false → AllByRecursion (λ s. is_mine b s.sid ≡ true) spans → AllByRecursion (λ s. is_within a s.sid ≡ false) spans
spans_not_within a b [] low meet h = tt
spans_not_within a b (s ∷ spans) low meet h = (not_within a b s.sid low meet h.0, spans_not_within a b spans low meet h.1)

sids_not_within : (a b : Numbers) (sids : List ℕ) → 1 ≤ a.first → ranges_overlap a b ≡ false → AllByRecursion (λ s. is_mine b s ≡ true) sids → AllByRecursion (λ s. is_within a s ≡ false) sids
sids_not_within a b [] low meet h = tt
sids_not_within a b (s ∷ sids) low meet h = (not_within a b s low meet h.0, sids_not_within a b sids low meet h.1)

stranger : (a : Numbers) (quota : Quota) (slice : Minislots) (part : ElementsFields) → 1 ≤ a.first → ranges_overlap a quota.sids ≡ false → IsPartOf quota slice part → IsStranger a part
stranger a quota slice part low meet h = record {
  spans = spans_not_within a quota.sids part.spans low meet (fits_in quota slice part h.fits).spans;
  pending = sids_not_within a quota.sids part.pending low meet (fits_in quota slice part h.fits).pending;
}

strangers : (a : Quota) (quotas : List Quota) (slices : List Minislots) (parts : List ElementsFields) → 1 ≤ a.sids.first → AllByRecursion (λ b. ranges_overlap a.sids b.sids ≡ false) quotas → ArePartsOf quotas slices parts
    → AllByRecursion (IsStranger a.sids) parts
strangers a [] [] [] low apart h = tt
strangers a [] [] (p ∷ parts) low apart h = absurd h
strangers a [] (m ∷ slices) parts low apart h = absurd h
strangers a (s ∷ quotas) [] parts low apart h = absurd h
strangers a (s ∷ quotas) (m ∷ slices) [] low apart h = absurd h
strangers a (s ∷ quotas) (m ∷ slices) (p ∷ parts) low apart h = (stranger a.sids s m p low apart.0 h.0, strangers a quotas slices parts low apart.1 h.1)

-- the part at this place is the operator's, and all others are strangers'
abbrev pub StandsAlone : Numbers → Quota → Minislots → ℕ → ElementsFields → List ElementsFields → Type 0
StandsAlone range quota slice k part [] = ⊥
StandsAlone range quota slice zero part (p ∷ parts) = (p ≡ part) × IsPartOf quota slice p × AllByRecursion (IsStranger range) parts
StandsAlone range quota slice (suc k) part (p ∷ parts) = IsStranger range p × StandsAlone range quota slice k part parts

pub stands_alone : (k : ℕ) (quota : Quota) (slice : Minislots) (part : ElementsFields) (quotas : List Quota) (slices : List Minislots) (parts : List ElementsFields)
    → AllByRecursion IsQuota quotas → PairsByRecursion (λ (a b : Quota). ranges_overlap a.sids b.sids ≡ false) quotas → ArePartsOf quotas slices parts
    → slice_get quotas k ≡ Some quota → slice_get slices k ≡ Some slice → slice_get parts k ≡ Some part → StandsAlone quota.sids quota slice k part parts
stands_alone k quota slice part [] [] [] each apart h e f g = absurd (cc)
stands_alone k quota slice part [] [] (p ∷ parts) each apart h e f g = absurd h
stands_alone k quota slice part [] (m ∷ slices) parts each apart h e f g = absurd h
stands_alone k quota slice part (s ∷ quotas) [] parts each apart h e f g = absurd h
stands_alone k quota slice part (s ∷ quotas) (m ∷ slices) [] each apart h e f g = absurd h
stands_alone zero quota slice part (s ∷ quotas) (m ∷ slices) (p ∷ parts) each apart h e f g =
    let es : s ≡ quota = same_Some s quota e in
    let em : m ≡ slice = same_Some m slice f in (
      same_Some p part g,
      subst (λ (x : Quota). IsPartOf x slice p) es (subst (λ (x : Minislots). IsPartOf s x p) em h.0),
      subst (λ (x : Quota). AllByRecursion (IsStranger x.sids) parts) es (strangers s quotas slices parts each.0.low apart.0 h.1),
    )
stands_alone (suc k) quota slice part (s ∷ quotas) (m ∷ slices) (p ∷ parts) each apart h e f g = (
  stranger quota.sids s m p (all_at IsQuota quotas k quota each.1 e).low (ranges_overlap-turned s.sids quota.sids (all_at (λ (b : Quota). ranges_overlap s.sids b.sids ≡ false) quotas k quota apart.0 e)) h.0,
  stands_alone k quota slice part quotas slices parts each.1 apart.1 h.1 e f g,
)
