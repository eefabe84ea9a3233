-- A MAP's bytes say what the MAP of the frame says, and that gives no minislot twice.
use Rattle.std.proofs.Common.{◌≡◌, ℕ, zero, suc, ◌+◌, ◌*◌, ◌^◌, ◌<◌, ◌≤◌, List, [], ◌∷◌, ◌++◌, length, map, true, false, cond, ◌⊎◌, inl, inr, refl, sym, ap, ◌∙◌, subst, arith, eqb, leb, Some, length-append}
use Rattle.map_assembly.proofs.Common.{length-map, AllByRecursion, sum_by, count_by, slice_get, sum_by-cons, recursion_from_All, All-from_recursion, mod_below, cases_lt, cases_eq, lt-ltb, le-ltb, eq-eqb, ne_eqb, or_cases, eqb-true, leb-true, and_parts, and_right, Minislots, Span, ElementsFields, ranges_overlap, MapElement, Channel, Quota, MapHeader, MapSpan, is_null, FitsElement, spelled_elements, elements_in, element_of_span, null_at, is_pending, ElementsSay, MapReads, idle_span, head_span, map_span, spans_with_idle, map_spans, map_pending, map_header, frame_start, in_slice_order, map_of, pending_element, elements_of_map, map_elements_of, spelled_map, is_within, is_mine, ArePartsOf, touches, IsOwn, GivesNoMinislotTwice, part_of, own_part, IsQuota, AreQuotas, AreSlices, IsChannel}
use Rattle.slice_scheduler.specs.Iuc.{iuc_number}
use Rattle.slice_scheduler.specs.declared.span.Iuc.{Iuc}
use Rattle.slice_scheduler.specs.declared.span.Iuc.TheVariants.{Request, Short, Long}
use Rattle.map_assembly.proofs.OrderLemmas.{pairs_from_AllPairs, sorted-all, sum_by-sorted}
use Rattle.map_assembly.proofs.TilingLemmas.{InOrder, MapTiles, tiles-map, tiles-joined, tiles-once, tiles-le}
use Rattle.map_assembly.proofs.PartLemmas.{fits_in, slices_of_parts, parts_in_order, StandsAlone, stands_alone, all_at}
use Rattle.map_assembly.proofs.OwnLemmas.{all-spans, part_alone, own_alone, touches_one_slice}
use Rattle.map_assembly.proofs.BackLemmas.{elements-back, header-back, counted-back, body-back}

-- ---- the elements of a MAP say its spans and its grants pending

-- a span whose SID has 14 bits, and that is no Null
record IsSpelled (s : MapSpan) : Type 0 where
  pub sid : s.sid < 2 ^ 14
  pub iuc : s.iuc < 7

no_null_of : (spans : List MapSpan) → AllByRecursion IsSpelled spans → AllByRecursion (λ s. is_null (element_of_span s) ≡ false) spans
no_null_of [] h = tt
no_null_of (s ∷ spans) h = (and_right (eqb s.sid 0) (eqb s.iuc 7) (ne_eqb s.iuc 7 (λ e. omega (arith, h.0.iuc, e))), no_null_of spans h.1)

pending_of : (end : ℕ) (sids : List ℕ) → AllByRecursion (λ e. is_pending end e ≡ true) (map (pending_element end) sids)
pending_of end [] = tt
pending_of end (s ∷ sids) = (eq-eqb end end refl, pending_of end sids)

sids_of : (end : ℕ) (sids : List ℕ) → sids ≡ map (λ (e : MapElement). e.sid) (map (pending_element end) sids)
sids_of end [] = refl
sids_of end (s ∷ sids) = ap (λ (xs : List ℕ). s ∷ xs) (sids_of end sids)

elements_say : (a end : ℕ) (spans : List MapSpan) (sids : List ℕ) → MapTiles a end spans → AllByRecursion IsSpelled spans → ElementsSay (elements_of_map end spans sids) spans sids
elements_say a end spans sids tiles spelled = record {
  end = end;
  behind = map (pending_element end) sids;
  split = refl;
  joined = tiles-joined a end spans tiles;
  no_null = no_null_of spans spelled;
  grants = pending_of end sids;
  pending = sids_of end sids;
}

-- ---- each element has its bits

spans_fit : (a end : ℕ) (spans : List MapSpan) → end ≤ 4096 → MapTiles a end spans → AllByRecursion IsSpelled spans → AllByRecursion FitsElement (map element_of_span spans)
spans_fit a end [] le tiles h = tt
spans_fit a end (s ∷ spans) le tiles h = (
  record { sid = h.0.sid; iuc = omega (arith, h.0.iuc); offset = omega (arith, tiles.0, tiles-le (a + s.len) end spans tiles.2) },
  spans_fit (a + s.len) end spans le tiles.2 h.1,
)

sids_fit : (end : ℕ) (sids : List ℕ) → end ≤ 4096 → AllByRecursion (λ n. n < 2 ^ 14) sids → AllByRecursion FitsElement (map (pending_element end) sids)
sids_fit end [] le h = tt
sids_fit end (s ∷ sids) le h = (record { sid = h.0; iuc = omega arith; offset = omega arith }, sids_fit end sids le h.1)

all-append : {X : Type 0} (P : X → Type 0) (xs ys : List X) → AllByRecursion P xs → AllByRecursion P ys → AllByRecursion P (xs ++ ys)
all-append P [] ys p q = q
all-append P (x ∷ xs) ys p q = (p.0, all-append P xs ys p.1 q)

elements_fit : (a end : ℕ) (spans : List MapSpan) (sids : List ℕ) → end ≤ 4096 → MapTiles a end spans → AllByRecursion IsSpelled spans → AllByRecursion (λ n. n < 2 ^ 14) sids → AllByRecursion FitsElement (elements_of_map end spans sids)
elements_fit a end spans sids le tiles spelled small =
    all-append FitsElement (map element_of_span spans) (null_at end ∷ map (pending_element end) sids) (spans_fit a end spans le tiles spelled)
    (record { sid = omega arith; iuc = omega arith; offset = omega arith }, sids_fit end sids le small)

-- ---- what the parts give

small_sid : (quota : Quota) (sid : ℕ) → IsQuota quota → is_mine quota.sids sid ≡ true → sid < 2 ^ 14
small_sid quota sid is mine = by (or_cases (eqb sid 0) (is_within quota.sids sid) mine)
  where
    by : (eqb sid 0 ≡ true) ⊎ (is_within quota.sids sid ≡ true) → sid < 2 ^ 14
    by (inl e) = omega (arith, eqb-true sid 0 e)
    by (inr w) = omega (arith, leb-true sid quota.sids.last (and_parts (leb quota.sids.first sid) (leb sid quota.sids.last) w).1, is.high)

small_iuc : (iuc : Iuc) → iuc_number iuc < 7
small_iuc Request = omega arith
small_iuc Short = omega arith
small_iuc Long = omega arith

spelled_spans : (quota : Quota) (spans : List Span) → IsQuota quota → AllByRecursion (λ s. is_mine quota.sids s.sid ≡ true) spans → AllByRecursion IsSpelled (map map_span spans)
spelled_spans quota [] is h = tt
spelled_spans quota (s ∷ spans) is h = (record { sid = small_sid quota s.sid is h.0; iuc = small_iuc s.iuc }, spelled_spans quota spans is h.1)

small_sids : (quota : Quota) (sids : List ℕ) → IsQuota quota → AllByRecursion (λ s. is_mine quota.sids s ≡ true) sids → AllByRecursion (λ n. n < 2 ^ 14) sids
small_sids quota [] is h = tt
small_sids quota (s ∷ sids) is h = (small_sid quota s is h.0, small_sids quota sids is h.1)

-- a part whose SIDs have 14 bits
record IsSmall (p : ElementsFields) : Type 0 where
  pub spans : AllByRecursion IsSpelled (map map_span p.spans)
  pub pending : AllByRecursion (λ n. n < 2 ^ 14) p.pending

small_parts : (quotas : List Quota) (slices : List Minislots) (parts : List ElementsFields) → AllByRecursion IsQuota quotas → ArePartsOf quotas slices parts → AllByRecursion IsSmall parts
small_parts [] [] [] each h = tt
small_parts [] [] (p ∷ parts) each h = absurd h
small_parts [] (m ∷ slices) parts each h = absurd h
small_parts (s ∷ quotas) [] parts each h = absurd h
small_parts (s ∷ quotas) (m ∷ slices) [] each h = absurd h
small_parts (s ∷ quotas) (m ∷ slices) (p ∷ parts) each h =
    (record { spans = spelled_spans s p.spans each.0 (fits_in s m p h.0.fits).spans; pending = small_sids s p.pending each.0 (fits_in s m p h.0.fits).pending }, small_parts quotas slices parts each.1 h.1)

small-spans : (parts : List ElementsFields) → AllByRecursion IsSmall parts → AllByRecursion (λ p. AllByRecursion IsSpelled (map map_span p.spans)) parts
small-spans [] h = tt
small-spans (p ∷ parts) h = (h.0.spans, small-spans parts h.1)

small-pending : (parts : List ElementsFields) → AllByRecursion IsSmall parts → AllByRecursion (λ n. n < 2 ^ 14) (map_pending parts)
small-pending [] h = tt
small-pending (p ∷ parts) h = all-append (λ (n : ℕ). n < 2 ^ 14) p.pending (map_pending parts) h.0.pending (small-pending parts h.1)

spelled_map_spans : (channel : Channel) (parts : List ElementsFields) → AllByRecursion IsSmall parts → AllByRecursion IsSpelled (map_spans channel parts)
spelled_map_spans channel parts h =
    all-spans IsSpelled channel parts (λ head _. record { sid = omega arith; iuc = omega arith }) (λ from to _. record { sid = omega arith; iuc = omega arith }) (small-spans parts h)

-- ---- how many elements there are

abbrev size_of : ElementsFields → ℕ
size_of p = 1 + (length p.spans + length p.pending)

length-idle : (from to : ℕ) → length (idle_span from to) ≤ 1
length-idle from to = by (cases_lt from to)
  where
    by : (from < to) ⊎ (to ≤ from) → length (idle_span from to) ≤ 1
    by (inl lt) = rw (lt-ltb from to lt) (omega arith)
    by (inr le) = rw (le-ltb from to le) (omega arith)

length-head : (head : ℕ) → length (head_span head) ≤ 1
length-head head = by (cases_eq head 0)
  where
    by : (head ≡ 0) ⊎ (head ≡ 0 → ⊥) → length (head_span head) ≤ 1
    by (inl e) = rw (eq-eqb head 0 e) (omega arith)
    by (inr ne) = rw (ne_eqb head 0 ne) (omega arith)

length-filled : (from end : ℕ) (parts : List ElementsFields) → length (spans_with_idle from end parts) + length (map_pending parts) ≤ 1 + sum_by size_of parts
length-filled from end [] = omega (arith, length-idle from end)
length-filled from end (p ∷ parts) =
    omega (
      arith,
      length-idle from p.slice.start,
      length-append (idle_span from p.slice.start) (map map_span p.spans ++ spans_with_idle (p.slice.start + p.slice.length) end parts),
      length-append (map map_span p.spans) (spans_with_idle (p.slice.start + p.slice.length) end parts),
      length-map p.spans map_span,
      length-append p.pending (map_pending parts),
      sum_by-cons size_of p parts,
      length-filled (p.slice.start + p.slice.length) end parts,
    )

sizes : (quotas : List Quota) (slices : List Minislots) (parts : List ElementsFields) → ArePartsOf quotas slices parts → sum_by size_of parts ≤ sum_by (λ (s : Quota). s.elements) quotas + 2 * length quotas
sizes [] [] [] h = omega arith
sizes [] [] (p ∷ parts) h = absurd h
sizes [] (m ∷ slices) parts h = absurd h
sizes (s ∷ quotas) [] parts h = absurd h
sizes (s ∷ quotas) (m ∷ slices) [] h = absurd h
sizes (s ∷ quotas) (m ∷ slices) (p ∷ parts) h =
    omega (arith, sum_by-cons size_of p parts, sum_by-cons (λ (x : Quota). x.elements) s quotas, (fits_in s m p h.0.fits).few, sizes quotas slices parts h.1)

few_elements : (channel : Channel) (quotas : List Quota) (slices : List Minislots) (parts : List ElementsFields) → AreQuotas quotas → ArePartsOf quotas slices parts
    → length (map_spans channel (in_slice_order parts)) + 1 + length (map_pending (in_slice_order parts)) ≤ 240
few_elements channel quotas slices parts are h =
    omega (
      arith,
      length-append (head_span channel.head) (spans_with_idle channel.head channel.frame_minislots (in_slice_order parts)),
      length-head channel.head,
      length-filled channel.head channel.frame_minislots (in_slice_order parts),
      sum_by-sorted size_of (λ (p : ElementsFields). p.slice.start) parts,
      sizes quotas slices parts h,
      are.few,
    )

length-elements : (end : ℕ) (spans : List MapSpan) (sids : List ℕ) → length (elements_of_map end spans sids) ≡ length spans + 1 + length sids
length-elements end spans sids =
    omega (arith, length-append (map element_of_span spans) (null_at end ∷ map (pending_element end) sids), length-map spans element_of_span, length-map sids (pending_element end))

-- ---- the whole

-- the parts of a frame of a plant
pub record AreFrame (channel : Channel) (quotas : List Quota) (slices : List Minislots) (parts : List ElementsFields) : Type 0 where
  pub channel_is : IsChannel channel
  pub quotas_are : AreQuotas quotas
  pub slices_are : AreSlices channel (length quotas) slices
  pub parts_are : ArePartsOf quotas slices parts

frame_in_order : (channel : Channel) (quotas : List Quota) (slices : List Minislots) (parts : List ElementsFields) → AreFrame channel quotas slices parts → InOrder channel.head channel.frame_minislots (in_slice_order parts)
frame_in_order channel quotas slices parts h = parts_in_order channel (length quotas) quotas slices parts h.channel_is h.slices_are h.parts_are

frame_small : (channel : Channel) (quotas : List Quota) (slices : List Minislots) (parts : List ElementsFields) → AreFrame channel quotas slices parts → AllByRecursion IsSmall (in_slice_order parts)
frame_small channel quotas slices parts h =
    sorted-all IsSmall (λ (p : ElementsFields). p.slice.start) parts (small_parts quotas slices parts (recursion_from_All IsQuota quotas h.quotas_are.each) h.parts_are)

frame_tiles : (channel : Channel) (quotas : List Quota) (slices : List Minislots) (parts : List ElementsFields) → AreFrame channel quotas slices parts → MapTiles 0 channel.frame_minislots (map_spans channel (in_slice_order parts))
frame_tiles channel quotas slices parts h = tiles-map channel.head channel.frame_minislots (in_slice_order parts) (frame_in_order channel quotas slices parts h)

pub frame_count : (channel : Channel) (quotas : List Quota) (slices : List Minislots) (parts : List ElementsFields) → AreFrame channel quotas slices parts → length (map_elements_of channel parts) ≤ 240
frame_count channel quotas slices parts h =
    omega (arith, length-elements channel.frame_minislots (map_spans channel (in_slice_order parts)) (map_pending (in_slice_order parts)), few_elements channel quotas slices parts h.quotas_are h.parts_are)

pub frame_fits : (channel : Channel) (quotas : List Quota) (slices : List Minislots) (parts : List ElementsFields) → AreFrame channel quotas slices parts → AllByRecursion FitsElement (map_elements_of channel parts)
frame_fits channel quotas slices parts h =
    elements_fit 0 channel.frame_minislots (map_spans channel (in_slice_order parts)) (map_pending (in_slice_order parts)) h.channel_is.frame (frame_tiles channel quotas slices parts h)
    (spelled_map_spans channel (in_slice_order parts) (frame_small channel quotas slices parts h)) (small-pending (in_slice_order parts) (frame_small channel quotas slices parts h))

pub frame_reads : (channel : Channel) (frame : ℕ) (quotas : List Quota) (slices : List Minislots) (parts : List ElementsFields) → AreFrame channel quotas slices parts
    → MapReads (spelled_map (map_header channel frame (length (map_elements_of channel parts))) (map_elements_of channel parts)) (map_of channel frame parts)
frame_reads channel frame quotas slices parts h =
    let es : List MapElement = map_elements_of channel parts in
    let header : MapHeader = map_header channel frame (length es) in
    let start : frame_start channel frame < 2 ^ 32 = mod_below (frame * channel.frame_minislots) (2 ^ 32) (omega arith) in
    record {
      counted = counted-back header es refl;
      header =
          ap (map_header channel frame) (sym (length-elements channel.frame_minislots (map_spans channel (in_slice_order parts)) (map_pending (in_slice_order parts))))
          ∙ sym (header-back header (spelled_elements es) start start);
      elements =
          subst (λ (xs : List MapElement). ElementsSay xs (map_spans channel (in_slice_order parts)) (map_pending (in_slice_order parts)))
          (sym (ap elements_in (body-back header es) ∙ elements-back es (frame_fits channel quotas slices parts h)))
          (elements_say 0 channel.frame_minislots (map_spans channel (in_slice_order parts)) (map_pending (in_slice_order parts)) (frame_tiles channel quotas slices parts h)
          (spelled_map_spans channel (in_slice_order parts) (frame_small channel quotas slices parts h)));
    }

-- ---- no minislot twice

sum_by-map : {X Y : Type 0} (f : Y → ℕ) (g : X → Y) (xs : List X) → sum_by f (map g xs) ≡ sum_by (λ x. f (g x)) xs
sum_by-map f g [] = refl
sum_by-map {X} f g (x ∷ xs) = omega (arith, sum_by-cons f (g x) (map g xs), sum_by-cons (λ (z : X). f (g z)) x xs, sum_by-map f g xs)

touches-slices : (quotas : List Quota) (slices : List Minislots) (parts : List ElementsFields) (s : MapSpan) → ArePartsOf quotas slices parts
    → count_by (λ slice. touches slice s) slices ≡ sum_by (λ p. cond (touches p.slice s) 1 0) (in_slice_order parts)
touches-slices quotas slices parts s h =
    ap (λ (ms : List Minislots). count_by (λ (slice : Minislots). touches slice s) ms) (sym (slices_of_parts quotas slices parts h))
    ∙ (sum_by-map (λ (slice : Minislots). cond (touches slice s) 1 0) (λ (p : ElementsFields). p.slice) parts
    ∙ sym (sum_by-sorted (λ (p : ElementsFields). cond (touches p.slice s) 1 0) (λ (p : ElementsFields). p.slice.start) parts))

few_slices : (quotas : List Quota) (slices : List Minislots) (parts : List ElementsFields) (spans : List MapSpan) → ArePartsOf quotas slices parts
    → AllByRecursion (λ s. sum_by (λ p. cond (touches p.slice s) 1 0) (in_slice_order parts) ≤ 1) spans → AllByRecursion (λ s. count_by (λ slice. touches slice s) slices ≤ 1) spans
few_slices quotas slices parts [] h few = tt
few_slices quotas slices parts (s ∷ spans) h few = (subst (λ (n : ℕ). n ≤ 1) (sym (touches-slices quotas slices parts s h)) few.0, few_slices quotas slices parts spans h few.1)

part_there : (quotas : List Quota) (slices : List Minislots) (parts : List ElementsFields) (k : ℕ) (quota : Quota) → ArePartsOf quotas slices parts → slice_get quotas k ≡ Some quota → (p : ElementsFields) × (slice_get parts k ≡ Some p)
part_there [] [] [] k quota h e = absurd (cc)
part_there [] [] (p ∷ parts) k quota h e = absurd h
part_there [] (m ∷ slices) parts k quota h e = absurd h
part_there (s ∷ quotas) [] parts k quota h e = absurd h
part_there (s ∷ quotas) (m ∷ slices) [] k quota h e = absurd h
part_there (s ∷ quotas) (m ∷ slices) (p ∷ parts) zero quota h e = (p, refl)
part_there (s ∷ quotas) (m ∷ slices) (p ∷ parts) (suc k) quota h e = part_there quotas slices parts k quota h.1 e

frame_alone : (channel : Channel) (quotas : List Quota) (slices : List Minislots) (parts : List ElementsFields) (k : ℕ) (quota : Quota) (slice : Minislots) (part : ElementsFields) → AreFrame channel quotas slices parts
    → slice_get quotas k ≡ Some quota → slice_get slices k ≡ Some slice → slice_get parts k ≡ Some part → StandsAlone quota.sids quota slice k part parts
frame_alone channel quotas slices parts k quota slice part h e f g =
    stands_alone k quota slice part quotas slices parts (recursion_from_All IsQuota quotas h.quotas_are.each)
    (pairs_from_AllPairs (λ (a b : Quota). ranges_overlap a.sids b.sids ≡ false) quotas h.quotas_are.apart) h.parts_are e f g

pub frame_tiled : (channel : Channel) (quotas : List Quota) (slices : List Minislots) (parts : List ElementsFields) → AreFrame channel quotas slices parts
    → GivesNoMinislotTwice channel.frame_minislots quotas slices (map_spans channel (in_slice_order parts))
frame_tiled channel quotas slices parts h = record {
  once = λ m lt. tiles-once m 0 channel.frame_minislots (map_spans channel (in_slice_order parts)) (frame_tiles channel quotas slices parts h) (omega arith) lt;
  own = λ k quota slice e f.
      let there : (p : ElementsFields) × (slice_get parts k ≡ Some p) = part_there quotas slices parts k quota h.parts_are e in
      All-from_recursion (IsOwn quota.sids slice) (map_spans channel (in_slice_order parts))
      (own_alone channel quota slice k there.0 parts (all_at IsQuota quotas k quota (recursion_from_All IsQuota quotas h.quotas_are.each) e) (frame_alone channel quotas slices parts k quota slice there.0 h e f there.1));
  apart = All-from_recursion (λ (s : MapSpan). count_by (λ (slice : Minislots). touches slice s) slices ≤ 1) (map_spans channel (in_slice_order parts))
      (few_slices quotas slices parts (map_spans channel (in_slice_order parts)) h.parts_are (touches_one_slice channel (in_slice_order parts) (frame_in_order channel quotas slices parts h)));
}

slice_there : (quotas : List Quota) (slices : List Minislots) (parts : List ElementsFields) (k : ℕ) (quota : Quota) → ArePartsOf quotas slices parts → slice_get quotas k ≡ Some quota → (m : Minislots) × (slice_get slices k ≡ Some m)
slice_there [] [] [] k quota h e = absurd (cc)
slice_there [] [] (p ∷ parts) k quota h e = absurd h
slice_there [] (m ∷ slices) parts k quota h e = absurd h
slice_there (s ∷ quotas) [] parts k quota h e = absurd h
slice_there (s ∷ quotas) (m ∷ slices) [] k quota h e = absurd h
slice_there (s ∷ quotas) (m ∷ slices) (p ∷ parts) zero quota h e = (m, refl)
slice_there (s ∷ quotas) (m ∷ slices) (p ∷ parts) (suc k) quota h e = slice_there quotas slices parts k quota h.1 e

pub frame_part : (channel : Channel) (frame : ℕ) (quotas : List Quota) (slices : List Minislots) (parts : List ElementsFields) (k : ℕ) (quota : Quota) (part : ElementsFields) → AreFrame channel quotas slices parts
    → slice_get quotas k ≡ Some quota → slice_get parts k ≡ Some part → part_of quota.sids (map_of channel frame parts) ≡ own_part part
frame_part channel frame quotas slices parts k quota part h e g =
    let there : (m : Minislots) × (slice_get slices k ≡ Some m) = slice_there quotas slices parts k quota h.parts_are e in
    part_alone channel frame quota there.0 k part parts (all_at IsQuota quotas k quota (recursion_from_All IsQuota quotas h.quotas_are.each) e)
    (frame_alone channel quotas slices parts k quota there.0 part h e there.1 g)
