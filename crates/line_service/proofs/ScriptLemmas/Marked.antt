-- Numbers behind marks.
use Rattle.std.proofs.Common.{◌≡◌, ℕ, ◌+◌, ◌-◌, ◌^◌, ◌<◌, ◌≤◌, List, [], ◌∷◌, ◌++◌, length, drop, set, arith, ap, ◌∙◌, refl, sym, subst, length-set, append_assoc}
use Rattle.std.specs.Fmt.{decimal}
use Rattle.std.proofs.lemmas.Fmt.{length-decimal-le, decimal_digit}
use Rattle.line_service.proofs.ScriptLemmas.Common.{drop-set, Span, after_space, span_text, pending_text}
use Rattle.slice_scheduler.specs.Iuc.{iuc_number}

-- a number of 16 bits has at most 5 digits
pub few_digits : (n : ℕ) → n < 2 ^ 16 → length (decimal n) ≤ 5
few_digits n h = length-decimal-le 5 n (omega arith) (omega arith) (omega arith)

-- a mark before what stands from a place on
pub marked : (xs rest : List ℕ) (s m : ℕ) → 1 ≤ s → s ≤ length xs → drop s xs ≡ rest → drop (s - 1) (set xs (s - 1) m) ≡ m ∷ rest
marked xs rest s m some within e =
    let lt : s - 1 < length xs = omega arith in
    let back : s - 1 + 1 ≡ s = omega arith in
    drop-set xs (s - 1) m lt ∙ ap (λ (ys : List ℕ). m ∷ ys) (ap (λ (i : ℕ). drop i xs) back ∙ e)

-- four numbers, each behind a mark
abbrev pub in_marks : List ℕ → List ℕ → List ℕ → List ℕ → List ℕ
in_marks sid iuc start len = 32 ∷ (sid ++ 47 ∷ (iuc ++ 47 ∷ (start ++ 47 ∷ len)))

-- the same before what stands behind them
marks_before : (sid iuc start len rest : List ℕ) → 32 ∷ (sid ++ 47 ∷ (iuc ++ 47 ∷ (start ++ 47 ∷ (len ++ rest)))) ≡ in_marks sid iuc start len ++ rest
marks_before sid iuc start len rest =
    ap (λ (t : List ℕ). 32 ∷ t)
    (sym (append_assoc sid (47 ∷ (iuc ++ 47 ∷ (start ++ 47 ∷ len))) rest
    ∙ ap (λ (t : List ℕ). sid ++ 47 ∷ t) (append_assoc iuc (47 ∷ (start ++ 47 ∷ len)) rest
    ∙ ap (λ (t : List ℕ). iuc ++ 47 ∷ t) (append_assoc start (47 ∷ len) rest))))

-- four numbers written one before the other
pub marks_written : (span : Span) (d4 d3 d2 d1 d0 : List ℕ) → d4 ≡ 32 ∷ (decimal span.sid ++ d3) → d3 ≡ 47 ∷ (decimal (iuc_number span.iuc) ++ d2)
    → d2 ≡ 47 ∷ (decimal span.start ++ d1) → d1 ≡ 47 ∷ (decimal span.len ++ d0) → d4 ≡ after_space (span_text span) ++ d0
marks_written span d4 d3 d2 d1 d0 e4 e3 e2 e1 =
    rw (e4, e3, e2, e1) (marks_before (decimal span.sid) (decimal (iuc_number span.iuc)) (decimal span.start) (decimal span.len) d0)

-- a byte, and another before it, written before what stands from a place on
two_bytes : (xs : List ℕ) (end m d : ℕ) → 2 ≤ end → end ≤ length xs → drop (end - 2) (set (set xs (end - 1) d) (end - 2) m) ≡ m ∷ d ∷ drop end xs
two_bytes xs end m d some within =
    let len : length (set xs (end - 1) d) ≡ length xs = length-set xs (end - 1) d in
    let back : end - 1 - 1 ≡ end - 2 = omega arith in
    subst (λ (i : ℕ). drop i (set (set xs (end - 1) d) i m) ≡ m ∷ d ∷ drop end xs) back
    (marked (set xs (end - 1) d) (d ∷ drop end xs) (end - 1) m (omega arith) (omega (arith, len)) (marked xs (drop end xs) end d (omega arith) within refl))

-- the digit of a number below 10 behind a mark
pub digit_behind_mark : (xs : List ℕ) (end m n : ℕ) → 2 ≤ end → end ≤ length xs → n < 10 → drop (end - 2) (set (set xs (end - 1) (48 + n)) (end - 2) m) ≡ m ∷ (decimal n ++ drop end xs)
digit_behind_mark xs end m n some within small =
    two_bytes xs end m (48 + n) some within ∙ ap (λ (ds : List ℕ). m ∷ (ds ++ drop end xs)) (sym (decimal_digit n small))

-- the mark of a grant pending
pub pending_marks : (xs : List ℕ) (end : ℕ) → 2 ≤ end → end ≤ length xs → drop (end - 2) (set (set xs (end - 1) 80) (end - 2) 47) ≡ 47 ∷ 80 ∷ drop end xs
pending_marks xs end some within = two_bytes xs end 47 80 some within

pub pending_before : (sid : ℕ) (d2 d1 d0 : List ℕ) → d2 ≡ 32 ∷ (decimal sid ++ d1) → d1 ≡ 47 ∷ 80 ∷ d0 → d2 ≡ after_space (pending_text sid) ++ d0
pending_before sid d2 d1 d0 e2 e1 = rw (e2, e1) (ap (λ (t : List ℕ). 32 ∷ t) (sym (append_assoc (decimal sid) (47 ∷ 80 ∷ []) d0)))
