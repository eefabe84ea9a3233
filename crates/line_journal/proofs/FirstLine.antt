-- A text in two at its first line feed.
use Rattle.std.proofs.Common.{◌≡◌, ◌≢◌, ℕ, zero, suc, ◌-◌, ◌<◌, ◌≤◌, List, [], ◌∷◌, ◌++◌, length, take, drop, arith, sym, ap, subst, ◌∙◌, eq-eqb}
use Rattle.line_journal.proofs.Common.{eqb-true, take_all, slice_index, Option, Some, None, IfSome, IfNone, IsLine, marked_lines}
use Rattle.memchr.specs.Find.{Nowhere, NoneBefore, Passes, is_byte}
use Rattle.line_journal.proofs.LineLaws.{marked_line, open_end, no_whole_line}

no_break_before : (text : List ℕ) (place : ℕ) → Nowhere (Passes (is_byte 10) text) 0 place → IsLine (take place text)
no_break_before [] zero none = tt
no_break_before [] (suc place) none = tt
no_break_before (b ∷ text) zero none = tt
no_break_before (b ∷ text) (suc place) none =
    (λ is. none 0 (omega arith) (omega arith) (eq-eqb b 10 is), no_break_before text place (λ k low high hit. none (suc k) (omega arith) (omega (arith, high)) hit))

-- what stands before the first line feed is a line
pub line_before : (text line : List ℕ) (place : ℕ) → NoneBefore (Passes (is_byte 10) text) 0 (length text) place × Passes (is_byte 10) text place
    → line ≡ take place text → IsLine line
line_before text line place found is = subst IsLine (sym is) (no_break_before text place found.0.before)

-- a text with no line feed is a line
pub whole_line : (text : List ℕ) → Nowhere (Passes (is_byte 10) text) 0 (length text) → IsLine text
whole_line text none = subst IsLine (take_all (length text) text (omega arith)) (no_break_before text (length text) none)

-- one with a line feed is none
pub break_at : (text : List ℕ) (place : ℕ) → place < length text → Passes (is_byte 10) text place → IsLine text → ⊥
break_at [] place high hit ok = absurd (omega (arith, high))
break_at (b ∷ text) zero high hit ok = ok.0 (eqb-true b 10 hit)
break_at (b ∷ text) (suc place) high hit ok = break_at text place (omega (arith, high)) hit ok.1

pub broken_line : (text : List ℕ) (place : ℕ) → NoneBefore (Passes (is_byte 10) text) 0 (length text) place × Passes (is_byte 10) text place → IsLine text → ⊥
broken_line text place found ok = break_at text place found.0.high found.1 ok

-- the line, the line feed and the rest
pub split_there : (text : List ℕ) (place : ℕ) → place < length text → Passes (is_byte 10) text place → text ≡ take place text ++ 10 ∷ drop 1 (drop place text)
split_there [] place high hit = absurd (omega (arith, high))
split_there (b ∷ text) zero high hit = ap (λ (m : ℕ). m ∷ text) (eqb-true b 10 hit)
split_there (b ∷ text) (suc place) high hit = ap (λ (t : List ℕ). b ∷ t) (split_there text place (omega (arith, high)) hit)

-- what a pattern finds behind the first byte
abbrev pub behind_first : List ℕ → List ℕ
behind_first text = take (length text - 1) (drop 1 text)

behind : (b : ℕ) (text : List ℕ) → behind_first (b ∷ text) ≡ text
behind b text = take_all (length (b ∷ text) - 1) text (omega arith)

-- a line behind its mark
first_marked : (mark : ℕ) (text line rest : List ℕ) → mark ≢ 10 → 1 ≤ length text → slice_index text 0 ≡ mark → behind_first text ≡ line ++ 10 ∷ rest → IsLine line → marked_lines mark text ≡ line ∷ marked_lines mark rest
first_marked mark [] line rest apart some is split ok = absurd (omega (arith, some))
first_marked mark (b ∷ text) line rest apart some is split ok =
    let split_text : text ≡ line ++ 10 ∷ rest = sym (behind b text) ∙ split in
    (λ i. marked_lines mark (is i ∷ split_text i)) ∙ marked_line mark apart line rest ok

-- a mark with no line feed behind it
no_first_marked : (mark : ℕ) (text : List ℕ) → mark ≢ 10 → 1 ≤ length text → slice_index text 0 ≡ mark → IsLine (behind_first text) → marked_lines mark text ≡ []
no_first_marked mark [] apart some is ok = absurd (omega (arith, some))
no_first_marked mark (b ∷ text) apart some is ok =
    ap (λ (m : ℕ). marked_lines mark (m ∷ text)) is ∙ open_end mark apart text (no_whole_line text (subst IsLine (behind b text) ok))

pub some_first : {A : Type 0} (mark : ℕ) (text : List ℕ) → mark ≢ 10 → 1 ≤ length text → slice_index text 0 ≡ mark → (front back : A → List ℕ) (found : Option A)
    → IfSome found (λ f. behind_first text ≡ front f ++ 10 ∷ back f) → IfSome found (λ f. IsLine (front f)) → IfSome found (λ f. marked_lines mark text ≡ front f ∷ marked_lines mark (back f))
some_first mark text apart some is front back None split ok = tt
some_first mark text apart some is front back (Some f) split ok = first_marked mark text (front f) (back f) apart some is split ok

pub none_first : {A : Type 0} (mark : ℕ) (text : List ℕ) → mark ≢ 10 → 1 ≤ length text → slice_index text 0 ≡ mark → (found : Option A) → IfNone found (IsLine (behind_first text)) → IfNone found (marked_lines mark text ≡ [])
none_first mark text apart some is None ok = no_first_marked mark text apart some is ok
none_first mark text apart some is (Some f) ok = tt
