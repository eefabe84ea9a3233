-- Grants put one after the other tile what they fill.
use Rattle.std.proofs.Common.{◌≡◌, ℕ, ◌-◌, ◌+◌, ◌<◌, ◌≤◌, List, [], ◌∷◌, ◌++◌, length, get_or, take, Bool, cond, ◌⊎◌, inl, inr, refl, sym, ap, ◌∙◌, subst, arith, zero-add}
use Rattle.slice_scheduler.proofs.Common.{AllByRecursion, sum_by-cons, sum_by-append, sum_by_more, eq-eqb, ne_eqb, cases_eq, take_more, take_all, append-nil, Span, Piece, idle, spans_from, minislots_in, Tiles, HasMinislots}
use Rattle.slice_scheduler.specs.declared.span.Iuc.TheVariants.{Long}

abbrev pub placed : ℕ → Piece → Span
placed start piece = record { sid = piece.sid; iuc = piece.iuc; start = start; len = piece.len }

pub packed-push : (start : ℕ) (pieces : List Piece) (piece : Piece) → spans_from start (pieces ++ piece ∷ []) ≡ spans_from start pieces ++ placed (start + minislots_in pieces) piece ∷ []
packed-push start [] piece = ap (λ (n : ℕ). placed n piece ∷ []) (omega arith)
packed-push start (p ∷ pieces) piece =
    ap (λ (spans : List Span). placed start p ∷ spans) (packed-push (start + p.len) pieces piece
    ∙ ap (λ (n : ℕ). spans_from (start + p.len) pieces ++ placed n piece ∷ []) (omega (arith, sum_by-cons (λ (q : Piece). q.len) p pieces)))

pub Tiles-packed : (start end : ℕ) (pieces : List Piece) → AllByRecursion HasMinislots pieces → start + minislots_in pieces ≡ end → Tiles start end (spans_from start pieces)
Tiles-packed start end [] some e = omega arith
Tiles-packed start end (p ∷ pieces) some e =
    (refl, some.0, Tiles-packed (start + p.len) end pieces some.1 (omega (arith, sum_by-cons (λ (q : Piece). q.len) p pieces)))

abbrev pub spare : ℕ → Piece
spare n = record { sid = 0; iuc = Long; len = n }

idle-none : (n : ℕ) → n ≡ 0 → idle n ≡ []
idle-none n e = ap (λ (b : Bool). cond b [] (spare n ∷ [])) (eq-eqb n 0 e)

idle-some : (n : ℕ) → (n ≡ 0 → ⊥) → idle n ≡ spare n ∷ []
idle-some n e = ap (λ (b : Bool). cond b [] (spare n ∷ [])) (ne_eqb n 0 e)

minislots-idle : (n : ℕ) → minislots_in (idle n) ≡ n
minislots-idle n = at (cases_eq n 0)
  where
    at : (n ≡ 0) ⊎ (n ≡ 0 → ⊥) → minislots_in (idle n) ≡ n
    at (inl e) = ap (λ (ps : List Piece). minislots_in ps) (idle-none n e) ∙ sym e
    at (inr e) = ap (λ (ps : List Piece). minislots_in ps) (idle-some n e) ∙ zero-add n

some-idle : (n : ℕ) → AllByRecursion HasMinislots (idle n)
some-idle n = at (cases_eq n 0)
  where
    at : (n ≡ 0) ⊎ (n ≡ 0 → ⊥) → AllByRecursion HasMinislots (idle n)
    at (inl e) = subst (λ (ps : List Piece). AllByRecursion HasMinislots ps) (sym (idle-none n e)) tt
    at (inr e) = subst (λ (ps : List Piece). AllByRecursion HasMinislots ps) (sym (idle-some n e)) (omega arith, tt)

some-append : (xs ys : List Piece) → AllByRecursion HasMinislots xs → AllByRecursion HasMinislots ys → AllByRecursion HasMinislots (xs ++ ys)
some-append [] ys some also = also
some-append (x ∷ xs) ys some also = (some.0, some-append xs ys some.1 also)

-- the whole slice is tiled: by the grants, and by what is left
pub packed_whole : (start len : ℕ) (pieces : List Piece) → AllByRecursion HasMinislots pieces → minislots_in pieces ≤ len → Tiles start (start + len) (spans_from start (pieces ++ idle (len - minislots_in pieces)))
packed_whole start len pieces some fits = Tiles-packed start (start + len) (pieces ++ idle (len - minislots_in pieces))
    (some-append pieces (idle (len - minislots_in pieces)) some (some-idle (len - minislots_in pieces)))
    (omega (arith, sum_by-append (λ (q : Piece). q.len) pieces (idle (len - minislots_in pieces)), minislots-idle (len - minislots_in pieces)))

-- one more grant of a list, as a loop puts it
pub packed-more : (start : ℕ) (pieces : List Piece) (i : ℕ) (e : Piece) (at : ℕ) (spans : List Span) → i < length pieces → spans ≡ spans_from start (take i pieces) → at ≡ start + minislots_in (take i pieces)
    → spans ++ placed at (get_or pieces i e) ∷ [] ≡ spans_from start (take (i + 1) pieces)
packed-more start pieces i e at spans lt so_far here =
    ap (λ (ss : List Span). ss ++ placed at (get_or pieces i e) ∷ []) so_far
    ∙ (ap (λ (n : ℕ). spans_from start (take i pieces) ++ placed n (get_or pieces i e) ∷ []) here
    ∙ (sym (packed-push start (take i pieces) (get_or pieces i e))
    ∙ ap (λ (ps : List Piece). spans_from start ps) (sym (take_more pieces i e lt))))

pub start-more : (start : ℕ) (pieces : List Piece) (i : ℕ) (e : Piece) (at : ℕ) → i < length pieces → at ≡ start + minislots_in (take i pieces) → at + (get_or pieces i e).len ≡ start + minislots_in (take (i + 1) pieces)
start-more start pieces i e at lt here = omega (arith, sum_by_more (λ (q : Piece). q.len) pieces i e lt)

-- the end of the loop, with minislots left and without
pub packed-rest : (start len : ℕ) (pieces : List Piece) (i at end : ℕ) (spans : List Span) → length pieces ≤ i → spans ≡ spans_from start (take i pieces) → at ≡ start + minislots_in (take i pieces) → end ≡ start + len → at < end
    → spans ++ placed at (spare (end - at)) ∷ [] ≡ spans_from start (pieces ++ idle (len - minislots_in pieces))
packed-rest start len pieces i at end spans all so_far here there lt =
    let here_too : at ≡ start + minislots_in pieces = here ∙ ap (λ (ps : List Piece). start + minislots_in ps) (take_all i pieces all) in
    ap (λ (ss : List Span). ss ++ placed at (spare (end - at)) ∷ []) (so_far ∙ ap (λ (ps : List Piece). spans_from start ps) (take_all i pieces all))
    ∙ (ap (λ (n : ℕ). spans_from start pieces ++ placed n (spare (end - at)) ∷ []) here_too
    ∙ (ap (λ (n : ℕ). spans_from start pieces ++ placed (start + minislots_in pieces) (spare n) ∷ []) (omega arith)
    ∙ (sym (packed-push start pieces (spare (len - minislots_in pieces)))
    ∙ ap (λ (ps : List Piece). spans_from start (pieces ++ ps)) (sym (idle-some (len - minislots_in pieces) (λ e. omega arith))))))

pub packed-no_rest : (start len : ℕ) (pieces : List Piece) (i at end : ℕ) (spans : List Span) → length pieces ≤ i → spans ≡ spans_from start (take i pieces) → at ≡ start + minislots_in (take i pieces) → end ≡ start + len → end ≤ at
    → spans ≡ spans_from start (pieces ++ idle (len - minislots_in pieces))
packed-no_rest start len pieces i at end spans all so_far here there le =
    let here_too : at ≡ start + minislots_in pieces = here ∙ ap (λ (ps : List Piece). start + minislots_in ps) (take_all i pieces all) in
    so_far
    ∙ (ap (λ (ps : List Piece). spans_from start ps) (take_all i pieces all ∙ sym (append-nil pieces))
    ∙ ap (λ (ps : List Piece). spans_from start (pieces ++ ps)) (sym (idle-none (len - minislots_in pieces) (omega arith))))
