-- The spans of a frame are its minislots, each in exactly one.
use Rattle.std.proofs.Common.{◌≡◌, ℕ, ◌+◌, ◌<◌, ◌≤◌, List, [], ◌∷◌, ◌++◌, map, Bool, cond, ◌⊎◌, inl, inr, refl, sym, ap, subst, arith, ltb, leb}
use Rattle.map_assembly.proofs.Common.{count_by, sum_by-cons, cases_eq, cases_lt, eq-eqb, ne_eqb, lt-ltb, le-ltb, le-leb, lt-leb, and_left, and_right, Span, ElementsFields, Tiles, IsTiled, MapSpan, first_offset, AreJoined, idle_span, head_span, map_span, spans_with_idle, holds}

-- ---- spans one after the other

abbrev pub MapTiles : ℕ → ℕ → List MapSpan → Type 0
MapTiles start end [] = start ≡ end
MapTiles start end (s ∷ spans) = (s.start ≡ start) × (0 < s.len) × MapTiles (start + s.len) end spans

-- parts in the order of their slices, from this minislot up to that one
abbrev pub InOrder : ℕ → ℕ → List ElementsFields → Type 0
InOrder from end [] = from ≤ end
InOrder from end (p ∷ parts) = (from ≤ p.slice.start) × IsTiled p × InOrder (p.slice.start + p.slice.length) end parts

tiles-append : (a b c : ℕ) (xs ys : List MapSpan) → MapTiles a b xs → MapTiles b c ys → MapTiles a c (xs ++ ys)
tiles-append a b c [] ys p q = subst (λ (n : ℕ). MapTiles n c ys) (sym p) q
tiles-append a b c (x ∷ xs) ys p q = (p.0, p.1, tiles-append (a + x.len) b c xs ys p.2 q)

tiles-idle : (from to : ℕ) → from ≤ to → MapTiles from to (idle_span from to)
tiles-idle from to le = by (cases_lt from to)
  where
    by : (from < to) ⊎ (to ≤ from) → MapTiles from to (idle_span from to)
    by (inl lt) = rw (lt-ltb from to lt) (refl, omega arith, omega arith)
    by (inr ge) = rw (le-ltb from to ge) (omega arith)

tiles-head : (head : ℕ) → MapTiles 0 head (head_span head)
tiles-head head = by (cases_eq head 0)
  where
    by : (head ≡ 0) ⊎ (head ≡ 0 → ⊥) → MapTiles 0 head (head_span head)
    by (inl e) = rw (eq-eqb head 0 e) (sym e)
    by (inr ne) = rw (ne_eqb head 0 ne) (refl, omega arith, omega arith)

tiles-part : (a b : ℕ) (spans : List Span) → Tiles a b spans → MapTiles a b (map map_span spans)
tiles-part a b [] t = t
tiles-part a b (s ∷ spans) t = (t.0, t.1, tiles-part (a + s.len) b spans t.2)

pub tiles-filled : (from end : ℕ) (parts : List ElementsFields) → InOrder from end parts → MapTiles from end (spans_with_idle from end parts)
tiles-filled from end [] o = tiles-idle from end o
tiles-filled from end (p ∷ parts) o =
    tiles-append from p.slice.start end (idle_span from p.slice.start) (map map_span p.spans ++ spans_with_idle (p.slice.start + p.slice.length) end parts)
    (tiles-idle from p.slice.start o.0)
    (tiles-append p.slice.start (p.slice.start + p.slice.length) end (map map_span p.spans) (spans_with_idle (p.slice.start + p.slice.length) end parts)
    (tiles-part p.slice.start (p.slice.start + p.slice.length) p.spans o.1.tiles)
    (tiles-filled (p.slice.start + p.slice.length) end parts o.2))

pub tiles-map : (head end : ℕ) (parts : List ElementsFields) → InOrder head end parts → MapTiles 0 end (head_span head ++ spans_with_idle head end parts)
tiles-map head end parts o = tiles-append 0 head end (head_span head) (spans_with_idle head end parts) (tiles-head head) (tiles-filled head end parts o)

pub tiles-le : (a b : ℕ) (spans : List MapSpan) → MapTiles a b spans → a ≤ b
tiles-le a b [] t = omega (arith, t)
tiles-le a b (s ∷ spans) t = omega (arith, tiles-le (a + s.len) b spans t.2)

tiles-first : (a b : ℕ) (spans : List MapSpan) → MapTiles a b spans → first_offset b spans ≡ a
tiles-first a b [] t = sym t
tiles-first a b (s ∷ spans) t = t.0

pub tiles-joined : (a b : ℕ) (spans : List MapSpan) → MapTiles a b spans → AreJoined b spans
tiles-joined a b [] t = tt
tiles-joined a b (s ∷ spans) t = (t.1, omega (arith, t.0, tiles-first (a + s.len) b spans t.2), tiles-joined (a + s.len) b spans t.2)

-- ---- each minislot in exactly one

abbrev count : ℕ → List MapSpan → ℕ
count m spans = count_by (holds m) spans

count-cons : (m : ℕ) (s : MapSpan) (spans : List MapSpan) → count m (s ∷ spans) ≡ cond (holds m s) 1 0 + count m spans
count-cons m s spans = sum_by-cons (λ (x : MapSpan). cond (holds m x) 1 0) s spans

held : (m : ℕ) (s : MapSpan) → s.start ≤ m → m < s.start + s.len → ◌≡◌ {A = ℕ} (cond (holds m s) 1 0) 1
held m s le lt = rw (le-leb s.start m le, lt-ltb m (s.start + s.len) lt)

not_held : (m : ℕ) (s : MapSpan) → (m < s.start) ⊎ (s.start + s.len ≤ m) → ◌≡◌ {A = ℕ} (cond (holds m s) 1 0) 0
not_held m s (inl lt) = ap (λ (b : Bool). cond {A = ℕ} b 1 0) (and_left (leb s.start m) (ltb m (s.start + s.len)) (lt-leb s.start m lt))
not_held m s (inr le) = ap (λ (b : Bool). cond {A = ℕ} b 1 0) (and_right (leb s.start m) (ltb m (s.start + s.len)) (le-ltb m (s.start + s.len) le))

count-before : (m a b : ℕ) (spans : List MapSpan) → MapTiles a b spans → m < a → count m spans ≡ 0
count-before m a b [] t lt = refl
count-before m a b (s ∷ spans) t lt = omega (arith, count-cons m s spans, not_held m s (inl (omega (arith, t.0))), count-before m (a + s.len) b spans t.2 (omega arith))

pub tiles-once : (m a b : ℕ) (spans : List MapSpan) → MapTiles a b spans → a ≤ m → m < b → count_by (holds m) spans ≡ 1
tiles-once m a b [] t le lt = absurd (omega (arith, t))
tiles-once m a b (s ∷ spans) t le lt = by (cases_lt m (a + s.len)) (λ k. tiles-once m (a + s.len) b spans t.2 k lt)
  where
    by : (m < a + s.len) ⊎ (a + s.len ≤ m) → (a + s.len ≤ m → count_by (holds m) spans ≡ 1) → count_by (holds m) (s ∷ spans) ≡ 1
    by (inl here) more = omega (arith, count-cons m s spans, held m s (omega (arith, t.0)) (omega (arith, t.0)), count-before m (a + s.len) b spans t.2 here)
    by (inr there) more = omega (arith, count-cons m s spans, not_held m s (inr (omega (arith, t.0))), more there)
