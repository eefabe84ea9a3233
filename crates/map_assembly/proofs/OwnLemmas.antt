-- Each operator's part of a MAP is what it put, and lies in its slice.
use Rattle.std.proofs.Common.{◌≡◌, ℕ, zero, suc, ◌-◌, ◌+◌, ◌<◌, ◌≤◌, List, [], ◌∷◌, ◌++◌, map, Bool, true, false, not, cond, ◌⊎◌, inl, inr, refl, ap, ◌∙◌, subst, arith, eqb, ltb, leb}
use Rattle.map_assembly.proofs.Common.{AllByRecursion, sum_by, flat_map, filter, sum_by-cons, filter-append, cases_lt, cases_eq, lt-ltb, le-ltb, lt-leb, eq-eqb, ne_eqb, and_left, and_right, both_ways, Numbers, Minislots, Span, ElementsFields, Tiles, Channel, Quota, MapSpan, idle_span, head_span, map_span, spans_with_idle, map_spans, map_pending, in_slice_order, map_of, is_within, is_mine, IsPartOf, LiesIn, IsOwn, touches, MapPart, part_of, own_part, IsQuota}
use Rattle.map_assembly.proofs.OrderLemmas.{AloneAt, flat_map_alone, sorted-all}
use Rattle.map_assembly.proofs.TilingLemmas.{InOrder}
use Rattle.map_assembly.proofs.PartLemmas.{FitsIn, fits_in, within_is_some, own_spans, own_pending, IsStranger, StandsAlone}

-- ---- the idle spans and the head are nobody's

idle_is_nobodys : (range : Numbers) → 1 ≤ range.first → is_within range 0 ≡ false
idle_is_nobodys range low = and_left (leb range.first 0) (leb 0 range.last) (lt-leb range.first 0 low)

head_is_nobodys : (range : Numbers) → range.last ≤ 8191 → is_within range 16383 ≡ false
head_is_nobodys range high = and_right (leb range.first 16383) (leb 16383 range.last) (lt-leb 16383 range.last (omega arith))

filter-idle : (range : Numbers) (from to : ℕ) → 1 ≤ range.first → filter (λ s. is_within range s.sid) (idle_span from to) ≡ []
filter-idle range from to low = by (cases_lt from to)
  where
    by : (from < to) ⊎ (to ≤ from) → filter (λ s. is_within range s.sid) (idle_span from to) ≡ []
    by (inl lt) = rw (lt-ltb from to lt, idle_is_nobodys range low)
    by (inr le) = rw (le-ltb from to le)

filter-head : (range : Numbers) (head : ℕ) → range.last ≤ 8191 → filter (λ s. is_within range s.sid) (head_span head) ≡ []
filter-head range head high = by (cases_eq head 0)
  where
    by : (head ≡ 0) ⊎ (head ≡ 0 → ⊥) → filter (λ s. is_within range s.sid) (head_span head) ≡ []
    by (inl e) = rw (eq-eqb head 0 e)
    by (inr ne) = rw (ne_eqb head 0 ne, head_is_nobodys range high)

filter-filled : (range : Numbers) (from end : ℕ) (parts : List ElementsFields) → 1 ≤ range.first → filter (λ s. is_within range s.sid) (spans_with_idle from end parts) ≡ flat_map (own_spans range) parts
filter-filled range from end [] low = filter-idle range from end low
filter-filled range from end (p ∷ parts) low =
    filter-append (λ (s : MapSpan). is_within range s.sid) (idle_span from p.slice.start) (map map_span p.spans ++ spans_with_idle (p.slice.start + p.slice.length) end parts)
    ∙ (ap (λ (xs : List MapSpan). xs ++ filter (λ (s : MapSpan). is_within range s.sid) (map map_span p.spans ++ spans_with_idle (p.slice.start + p.slice.length) end parts)) (filter-idle range from p.slice.start low)
    ∙ (filter-append (λ (s : MapSpan). is_within range s.sid) (map map_span p.spans) (spans_with_idle (p.slice.start + p.slice.length) end parts)
    ∙ ap (λ (xs : List MapSpan). own_spans range p ++ xs) (filter-filled range (p.slice.start + p.slice.length) end parts low)))

filter-pending : (range : Numbers) (parts : List ElementsFields) → filter (λ sid. is_within range sid) (map_pending parts) ≡ flat_map (own_pending range) parts
filter-pending range [] = refl
filter-pending range (p ∷ parts) =
    filter-append (λ (sid : ℕ). is_within range sid) p.pending (map_pending parts)
    ∙ ap (λ (xs : List ℕ). own_pending range p ++ xs) (filter-pending range parts)

-- ---- what an operator's own part keeps, and a stranger's

kept_spans : (range : Numbers) (spans : List Span) → 1 ≤ range.first → AllByRecursion (λ s. is_mine range s.sid ≡ true) spans
    → filter (λ s. is_within range s.sid) (map map_span spans) ≡ map map_span (filter (λ s. not (eqb s.sid 0)) spans)
kept_spans range [] low h = refl
kept_spans range (s ∷ spans) low h = rw (within_is_some range s.sid low h.0) (by (not (eqb s.sid 0)) (kept_spans range spans low h.1))
  where
    by : (b : Bool) → filter (λ (x : MapSpan). is_within range x.sid) (map map_span spans) ≡ map map_span (filter (λ (x : Span). not (eqb x.sid 0)) spans)
        → cond b (map_span s ∷ filter (λ (x : MapSpan). is_within range x.sid) (map map_span spans)) (filter (λ (x : MapSpan). is_within range x.sid) (map map_span spans))
        ≡ map map_span (cond b (s ∷ filter (λ (x : Span). not (eqb x.sid 0)) spans) (filter (λ (x : Span). not (eqb x.sid 0)) spans))
    by true e = ap (λ (xs : List MapSpan). map_span s ∷ xs) e
    by false e = e

kept_sids : (range : Numbers) (sids : List ℕ) → 1 ≤ range.first → AllByRecursion (λ s. is_mine range s ≡ true) sids
    → filter (λ s. is_within range s) sids ≡ filter (λ s. not (eqb s 0)) sids
kept_sids range [] low h = refl
kept_sids range (s ∷ sids) low h = rw (within_is_some range s low h.0) (ap (λ (xs : List ℕ). cond (not (eqb s 0)) (s ∷ xs) xs) (kept_sids range sids low h.1))

no_spans : (range : Numbers) (spans : List Span) → AllByRecursion (λ s. is_within range s.sid ≡ false) spans → filter (λ s. is_within range s.sid) (map map_span spans) ≡ []
no_spans range [] h = refl
no_spans range (s ∷ spans) h = rw h.0 (no_spans range spans h.1)

no_sids : (range : Numbers) (sids : List ℕ) → AllByRecursion (λ s. is_within range s ≡ false) sids → filter (λ s. is_within range s) sids ≡ []
no_sids range [] h = refl
no_sids range (s ∷ sids) h = rw h.0 (no_sids range sids h.1)

none_spans : (range : Numbers) (parts : List ElementsFields) → AllByRecursion (IsStranger range) parts → AllByRecursion (λ p. own_spans range p ≡ []) parts
none_spans range [] h = tt
none_spans range (p ∷ parts) h = (no_spans range p.spans h.0.spans, none_spans range parts h.1)

none_pending : (range : Numbers) (parts : List ElementsFields) → AllByRecursion (IsStranger range) parts → AllByRecursion (λ p. own_pending range p ≡ []) parts
none_pending range [] h = tt
none_pending range (p ∷ parts) h = (no_sids range p.pending h.0.pending, none_pending range parts h.1)

alone_spans : (range : Numbers) (quota : Quota) (slice : Minislots) (k : ℕ) (part : ElementsFields) (parts : List ElementsFields) → StandsAlone range quota slice k part parts → AloneAt (own_spans range) k part parts
alone_spans range quota slice k part [] h = absurd h
alone_spans range quota slice zero part (p ∷ parts) h = (h.0, none_spans range parts h.2)
alone_spans range quota slice (suc k) part (p ∷ parts) h = (no_spans range p.spans h.0.spans, alone_spans range quota slice k part parts h.1)

alone_pending : (range : Numbers) (quota : Quota) (slice : Minislots) (k : ℕ) (part : ElementsFields) (parts : List ElementsFields) → StandsAlone range quota slice k part parts → AloneAt (own_pending range) k part parts
alone_pending range quota slice k part [] h = absurd h
alone_pending range quota slice zero part (p ∷ parts) h = (h.0, none_pending range parts h.2)
alone_pending range quota slice (suc k) part (p ∷ parts) h = (no_sids range p.pending h.0.pending, alone_pending range quota slice k part parts h.1)

-- the part at the operator's place is its own
is_part : (range : Numbers) (quota : Quota) (slice : Minislots) (k : ℕ) (part : ElementsFields) (parts : List ElementsFields) → StandsAlone range quota slice k part parts → IsPartOf quota slice part
is_part range quota slice k part [] h = absurd h
is_part range quota slice zero part (p ∷ parts) h = subst (λ (q : ElementsFields). IsPartOf quota slice q) h.0 h.1
is_part range quota slice (suc k) part (p ∷ parts) h = is_part range quota slice k part parts h.1

same_part : (a b : MapPart) → a.spans ≡ b.spans → a.pending ≡ b.pending → a ≡ b
same_part a b p q = λ i. record { spans = p i; pending = q i }

pub part_alone : (channel : Channel) (frame : ℕ) (quota : Quota) (slice : Minislots) (k : ℕ) (part : ElementsFields) (parts : List ElementsFields) → IsQuota quota → StandsAlone quota.sids quota slice k part parts
    → part_of quota.sids (map_of channel frame parts) ≡ own_part part
part_alone channel frame quota slice k part parts is h =
    let key : ElementsFields → ℕ = λ (p : ElementsFields). p.slice.start in
    let fits : FitsIn quota slice part = fits_in quota slice part (is_part quota.sids quota slice k part parts h).fits in
    same_part (part_of quota.sids (map_of channel frame parts)) (own_part part)
    (filter-append (λ (s : MapSpan). is_within quota.sids s.sid) (head_span channel.head) (spans_with_idle channel.head channel.frame_minislots (in_slice_order parts))
    ∙ (ap (λ (xs : List MapSpan). xs ++ filter (λ (s : MapSpan). is_within quota.sids s.sid) (spans_with_idle channel.head channel.frame_minislots (in_slice_order parts))) (filter-head quota.sids channel.head is.high)
    ∙ (filter-filled quota.sids channel.head channel.frame_minislots (in_slice_order parts) is.low
    ∙ (flat_map_alone (own_spans quota.sids) key k part parts (alone_spans quota.sids quota slice k part parts h)
    ∙ kept_spans quota.sids part.spans is.low fits.spans))))
    (filter-pending quota.sids (in_slice_order parts)
    ∙ (flat_map_alone (own_pending quota.sids) key k part parts (alone_pending quota.sids quota slice k part parts h)
    ∙ kept_sids quota.sids part.pending is.low fits.pending))

-- ---- each span of an operator lies in its slice

all-append : {X : Type 0} (P : X → Type 0) (xs ys : List X) → AllByRecursion P xs → AllByRecursion P ys → AllByRecursion P (xs ++ ys)
all-append P [] ys p q = q
all-append P (x ∷ xs) ys p q = (p.0, all-append P xs ys p.1 q)

all-idle : (P : MapSpan → Type 0) (from to : ℕ) → (from < to → P (record { sid = 0; iuc = 6; start = from; len = to - from })) → AllByRecursion P (idle_span from to)
all-idle P from to h = by (cases_lt from to)
  where
    by : (from < to) ⊎ (to ≤ from) → AllByRecursion P (idle_span from to)
    by (inl lt) = rw (lt-ltb from to lt) (h lt, tt)
    by (inr le) = rw (le-ltb from to le) tt

all-head : (P : MapSpan → Type 0) (head : ℕ) → (0 < head → P (record { sid = 16383; iuc = 1; start = 0; len = head })) → AllByRecursion P (head_span head)
all-head P head h = by (cases_eq head 0)
  where
    by : (head ≡ 0) ⊎ (head ≡ 0 → ⊥) → AllByRecursion P (head_span head)
    by (inl e) = rw (eq-eqb head 0 e) tt
    by (inr ne) = rw (ne_eqb head 0 ne) (h (omega arith), tt)

pub all-filled : (P : MapSpan → Type 0) (from end : ℕ) (parts : List ElementsFields) → ((from to : ℕ) → from < to → P (record { sid = 0; iuc = 6; start = from; len = to - from }))
    → AllByRecursion (λ p. AllByRecursion P (map map_span p.spans)) parts → AllByRecursion P (spans_with_idle from end parts)
all-filled P from end [] idle h = all-idle P from end (idle from end)
all-filled P from end (p ∷ parts) idle h =
    all-append P (idle_span from p.slice.start) (map map_span p.spans ++ spans_with_idle (p.slice.start + p.slice.length) end parts) (all-idle P from p.slice.start (idle from p.slice.start))
    (all-append P (map map_span p.spans) (spans_with_idle (p.slice.start + p.slice.length) end parts) h.0 (all-filled P (p.slice.start + p.slice.length) end parts idle h.1))

pub all-spans : (P : MapSpan → Type 0) (channel : Channel) (parts : List ElementsFields) → ((head : ℕ) → 0 < head → P (record { sid = 16383; iuc = 1; start = 0; len = head }))
    → ((from to : ℕ) → from < to → P (record { sid = 0; iuc = 6; start = from; len = to - from })) → AllByRecursion (λ p. AllByRecursion P (map map_span p.spans)) parts → AllByRecursion P (map_spans channel parts)
all-spans P channel parts head idle h =
    all-append P (head_span channel.head) (spans_with_idle channel.head channel.frame_minislots parts) (all-head P channel.head (head channel.head)) (all-filled P channel.head channel.frame_minislots parts idle h)

tiled-le : (a b : ℕ) (spans : List Span) → Tiles a b spans → a ≤ b
tiled-le a b [] t = omega (arith, t)
tiled-le a b (s ∷ spans) t = omega (arith, tiled-le (a + s.len) b spans t.2)

lies_in_slice : (slice : Minislots) (a b : ℕ) (spans : List Span) → slice.start ≤ a → b ≤ slice.start + slice.length → Tiles a b spans → AllByRecursion (LiesIn slice) (map map_span spans)
lies_in_slice slice a b [] low high t = tt
lies_in_slice slice a b (s ∷ spans) low high t =
    (record { behind = omega (arith, t.0); before = omega (arith, t.0, tiled-le (a + s.len) b spans t.2) }, lies_in_slice slice (a + s.len) b spans (omega arith) high t.2)

own_if_in : (range : Numbers) (slice : Minislots) (spans : List MapSpan) → AllByRecursion (LiesIn slice) spans → AllByRecursion (IsOwn range slice) spans
own_if_in range slice [] h = tt
own_if_in range slice (s ∷ spans) h = ((λ _. h.0), own_if_in range slice spans h.1)

own_if_stranger : (range : Numbers) (slice : Minislots) (spans : List Span) → AllByRecursion (λ s. is_within range s.sid ≡ false) spans → AllByRecursion (IsOwn range slice) (map map_span spans)
own_if_stranger range slice [] h = tt
own_if_stranger range slice (s ∷ spans) h = ((λ e. absurd (both_ways (is_within range s.sid) h.0 e)), own_if_stranger range slice spans h.1)

own_in_strangers : (range : Numbers) (slice : Minislots) (parts : List ElementsFields) → AllByRecursion (IsStranger range) parts → AllByRecursion (λ p. AllByRecursion (IsOwn range slice) (map map_span p.spans)) parts
own_in_strangers range slice [] h = tt
own_in_strangers range slice (p ∷ parts) h = (own_if_stranger range slice p.spans h.0.spans, own_in_strangers range slice parts h.1)

own_in_parts : (range : Numbers) (quota : Quota) (slice : Minislots) (k : ℕ) (part : ElementsFields) (parts : List ElementsFields) → StandsAlone range quota slice k part parts
    → AllByRecursion (λ p. AllByRecursion (IsOwn range slice) (map map_span p.spans)) parts
own_in_parts range quota slice k part [] h = absurd h
own_in_parts range quota slice zero part (p ∷ parts) h =
    let e : p.slice ≡ slice = (fits_in quota slice p h.1.fits).slice_is in (
      own_if_in range slice (map map_span p.spans) (subst (λ (m : Minislots). AllByRecursion (LiesIn m) (map map_span p.spans)) e (lies_in_slice p.slice p.slice.start (p.slice.start + p.slice.length) p.spans (omega arith) (omega arith) h.1.tiled.tiles)),
      own_in_strangers range slice parts h.2,
    )
own_in_parts range quota slice (suc k) part (p ∷ parts) h = (own_if_stranger range slice p.spans h.0.spans, own_in_parts range quota slice k part parts h.1)

pub own_alone : (channel : Channel) (quota : Quota) (slice : Minislots) (k : ℕ) (part : ElementsFields) (parts : List ElementsFields) → IsQuota quota → StandsAlone quota.sids quota slice k part parts
    → AllByRecursion (IsOwn quota.sids slice) (map_spans channel (in_slice_order parts))
own_alone channel quota slice k part parts is h =
    all-spans (IsOwn quota.sids slice) channel (in_slice_order parts)
    (λ head _. λ e. absurd (both_ways (is_within quota.sids 16383) (head_is_nobodys quota.sids is.high) e))
    (λ from to _. λ e. absurd (both_ways (is_within quota.sids 0) (idle_is_nobodys quota.sids is.low) e))
    (sorted-all (λ (p : ElementsFields). AllByRecursion (IsOwn quota.sids slice) (map map_span p.spans)) (λ (p : ElementsFields). p.slice.start) parts (own_in_parts quota.sids quota slice k part parts h))

-- ---- no span touches two slices

abbrev touched : MapSpan → List ElementsFields → ℕ
touched s parts = sum_by (λ p. cond (touches p.slice s) 1 0) parts

touched-cons : (s : MapSpan) (p : ElementsFields) (parts : List ElementsFields) → touched s (p ∷ parts) ≡ cond (touches p.slice s) 1 0 + touched s parts
touched-cons s p parts = sum_by-cons (λ (q : ElementsFields). cond (touches q.slice s) 1 0) p parts

untouched_before : (m : Minislots) (s : MapSpan) → s.start + s.len ≤ m.start → ◌≡◌ {A = ℕ} (cond (touches m s) 1 0) 0
untouched_before m s le = ap (λ (b : Bool). cond {A = ℕ} b 1 0) (and_right (ltb s.start (m.start + m.length)) (ltb m.start (s.start + s.len)) (le-ltb m.start (s.start + s.len) le))

untouched_behind : (m : Minislots) (s : MapSpan) → m.start + m.length ≤ s.start → ◌≡◌ {A = ℕ} (cond (touches m s) 1 0) 0
untouched_behind m s le = ap (λ (b : Bool). cond {A = ℕ} b 1 0) (and_left (ltb s.start (m.start + m.length)) (ltb m.start (s.start + s.len)) (le-ltb s.start (m.start + m.length) le))

at_most_one : (b : Bool) → cond {A = ℕ} b 1 0 ≤ 1
at_most_one true = omega arith
at_most_one false = omega arith

-- a span before all of these slices touches none
touched_none : (s : MapSpan) (from end : ℕ) (parts : List ElementsFields) → s.start + s.len ≤ from → InOrder from end parts → touched s parts ≡ 0
touched_none s from end [] le o = refl
touched_none s from end (p ∷ parts) le o =
    omega (arith, touched-cons s p parts, untouched_before p.slice s (omega (arith, o.0)), touched_none s (p.slice.start + p.slice.length) end parts (omega (arith, o.0)) o.2)

touches_one : (s : MapSpan) (end : ℕ) (p : ElementsFields) (parts : List ElementsFields) → s.start + s.len ≤ p.slice.start + p.slice.length → InOrder (p.slice.start + p.slice.length) end parts → touched s (p ∷ parts) ≤ 1
touches_one s end p parts le o = omega (arith, touched-cons s p parts, at_most_one (touches p.slice s), touched_none s (p.slice.start + p.slice.length) end parts le o)

-- a span behind this minislot that touches one slice at most
record IsApart (from : ℕ) (parts : List ElementsFields) (s : MapSpan) : Type 0 where
  pub behind : from ≤ s.start
  pub few : touched s parts ≤ 1

apart_in_slice : (end : ℕ) (p : ElementsFields) (parts : List ElementsFields) (from : ℕ) (spans : List MapSpan) → from ≤ p.slice.start → InOrder (p.slice.start + p.slice.length) end parts → AllByRecursion (LiesIn p.slice) spans
    → AllByRecursion (IsApart from (p ∷ parts)) spans
apart_in_slice end p parts from [] le o h = tt
apart_in_slice end p parts from (s ∷ spans) le o h =
    (record { behind = omega (arith, h.0.behind); few = touches_one s end p parts h.0.before o }, apart_in_slice end p parts from spans le o h.1)

apart_behind : (p : ElementsFields) (parts : List ElementsFields) (from : ℕ) (spans : List MapSpan) → from ≤ p.slice.start + p.slice.length → AllByRecursion (IsApart (p.slice.start + p.slice.length) parts) spans → AllByRecursion (IsApart from (p ∷ parts)) spans
apart_behind p parts from [] le h = tt
apart_behind p parts from (s ∷ spans) le h =
    (record { behind = omega (arith, h.0.behind); few = omega (arith, touched-cons s p parts, untouched_behind p.slice s h.0.behind, h.0.few) }, apart_behind p parts from spans le h.1)

apart_filled : (from end : ℕ) (parts : List ElementsFields) → InOrder from end parts → AllByRecursion (IsApart from parts) (spans_with_idle from end parts)
apart_filled from end [] o = all-idle (IsApart from []) from end (λ lt. record { behind = omega arith; few = omega arith })
apart_filled from end (p ∷ parts) o =
    all-append (IsApart from (p ∷ parts)) (idle_span from p.slice.start) (map map_span p.spans ++ spans_with_idle (p.slice.start + p.slice.length) end parts)
    (all-idle (IsApart from (p ∷ parts)) from p.slice.start (λ lt.
    record { behind = omega arith; few = touches_one (record { sid = 0; iuc = 6; start = from; len = p.slice.start - from }) end p parts (omega arith) o.2 }))
    (all-append (IsApart from (p ∷ parts)) (map map_span p.spans) (spans_with_idle (p.slice.start + p.slice.length) end parts)
    (apart_in_slice end p parts from (map map_span p.spans) o.0 o.2 (lies_in_slice p.slice p.slice.start (p.slice.start + p.slice.length) p.spans (omega arith) (omega arith) o.1.tiles))
    (apart_behind p parts from (spans_with_idle (p.slice.start + p.slice.length) end parts) (omega (arith, o.0)) (apart_filled (p.slice.start + p.slice.length) end parts o.2)))

few_of_apart : (from : ℕ) (parts : List ElementsFields) (spans : List MapSpan) → AllByRecursion (IsApart from parts) spans → AllByRecursion (λ s. touched s parts ≤ 1) spans
few_of_apart from parts [] h = tt
few_of_apart from parts (s ∷ spans) h = (h.0.few, few_of_apart from parts spans h.1)

pub touches_one_slice : (channel : Channel) (parts : List ElementsFields) → InOrder channel.head channel.frame_minislots parts → AllByRecursion (λ s. touched s parts ≤ 1) (map_spans channel parts)
touches_one_slice channel parts o =
    all-append (λ (s : MapSpan). touched s parts ≤ 1) (head_span channel.head) (spans_with_idle channel.head channel.frame_minislots parts)
    (all-head (λ (s : MapSpan). touched s parts ≤ 1) channel.head (λ lt. omega (arith, touched_none (record { sid = 16383; iuc = 1; start = 0; len = channel.head }) channel.head channel.frame_minislots parts (omega arith) o)))
    (few_of_apart channel.head parts (spans_with_idle channel.head channel.frame_minislots parts) (apart_filled channel.head channel.frame_minislots parts o))
