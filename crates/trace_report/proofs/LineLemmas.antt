-- A text in two at its first line feed.
use Rattle.std.proofs.Common.{◌≡◌, ℕ, zero, suc, ◌+◌, ◌<◌, ◌≤◌, ◌==◌, ◌≢◌, Bool, true, false, List, [], ◌∷◌, ◌++◌, length, take, drop, arith, refl, sym, ap, subst, ◌∙◌, eq-eqb, append_assoc, append-nil}
use Rattle.trace_report.proofs.Common.{take_all, slice_index, slice_index_or, HasNoBreak, line_at, IsRestAfter}
use Rattle.memchr.specs.Find.{Nowhere, NoneBefore, Passes, is_byte}
use Rattle.std.proofs.lemmas.Bool.{false_from_ne_true, eqb-true}
use Rattle.line_service.specs.script.Lines.{parts_from, parts_of, lines_of}

-- what stands before the first line feed has none
pub no_break_before : (text : List ℕ) (place : ℕ) → Nowhere (Passes (is_byte 10) text) 0 place → HasNoBreak (take place text)
no_break_before [] zero none = tt
no_break_before [] (suc place) none = tt
no_break_before (b ∷ text) zero none = tt
no_break_before (b ∷ text) (suc place) none =
    (λ is. none 0 (omega arith) (omega arith) (eq-eqb b 10 is), no_break_before text place (λ k low high hit. none (suc k) (omega arith) (omega (arith, high)) hit))

-- the line up to it
pub line_before : (text line : List ℕ) (place : ℕ) → NoneBefore (Passes (is_byte 10) text) 0 (length text) place × Passes (is_byte 10) text place
    → line ≡ take place text → HasNoBreak line
line_before text line place found is = subst HasNoBreak (sym is) (no_break_before text place found.0.before)

-- a text with no line feed is one line
pub whole_line : (text : List ℕ) → Nowhere (Passes (is_byte 10) text) 0 (length text) → HasNoBreak text
whole_line text none = subst HasNoBreak (take_all (length text) text (omega arith)) (no_break_before text (length text) none)

-- ---- the lines of a text

from_byte : (part : List ℕ) (b : ℕ) (bytes : List ℕ) (t : Bool) → (b == 10) ≡ t
    → parts_from 10 part (b ∷ bytes) ≡ elim t [ true ↦ part ∷ parts_from 10 [] bytes | false ↦ parts_from 10 (part ++ b ∷ []) bytes ]
from_byte part b bytes t e = ap (λ (v : Bool). elim v [ true ↦ part ∷ parts_from 10 [] bytes | false ↦ parts_from 10 (part ++ b ∷ []) bytes ]) e

no_end : (b : ℕ) → b ≢ 10 → (b == 10) ≡ false
no_end b other = false_from_ne_true (b == 10) (λ hit. other (eqb-true b 10 hit))

pub line_first : (part line rest : List ℕ) → HasNoBreak line → parts_from 10 part (line ++ 10 ∷ rest) ≡ (part ++ line) ∷ parts_from 10 [] rest
line_first part [] rest none = ap (λ (x : List ℕ). x ∷ parts_from 10 [] rest) (sym (append-nil part))
line_first part (b ∷ line) rest none =
    from_byte part b (line ++ 10 ∷ rest) false (no_end b none.0)
    ∙ line_first (part ++ b ∷ []) line rest none.1
    ∙ ap (λ (x : List ℕ). x ∷ parts_from 10 [] rest) (append_assoc part (b ∷ []) line)

line_alone : (part line : List ℕ) → HasNoBreak line → parts_from 10 part line ≡ (part ++ line) ∷ []
line_alone part [] none = ap (λ (x : List ℕ). x ∷ []) (sym (append-nil part))
line_alone part (b ∷ line) none =
    from_byte part b line false (no_end b none.0) ∙ line_alone (part ++ b ∷ []) line none.1
    ∙ ap (λ (x : List ℕ). x ∷ []) (append_assoc part (b ∷ []) line)

-- a text, cut at a line feed
cut : (text : List ℕ) (place : ℕ) → place < length text → (slice_index text place == 10) ≡ true → text ≡ take place text ++ 10 ∷ drop (suc place) text
cut [] place within hit = absurd (omega (arith, within))
cut (b ∷ text) zero within hit = ap (λ (x : ℕ). x ∷ text) (eqb-true b 10 hit)
cut (b ∷ text) (suc place) within hit = ap (λ (l : List ℕ). b ∷ l) (cut text place (omega (arith, within)) hit)

abbrev IsFound : List ℕ → ℕ → Type 0
IsFound text place = NoneBefore (Passes (is_byte 10) text) 0 (length text) place × Passes (is_byte 10) text place

split_lines : (text : List ℕ) (place : ℕ) → IsFound text place → lines_of text ≡ take place text ∷ lines_of (drop (suc place) text)
unfolding parts_of
split_lines text place found =
    ap (λ (t : List ℕ). parts_from 10 [] t) (cut text place found.0.high found.1)
    ∙ line_first [] (take place text) (drop (suc place) text) (no_break_before text place found.0.before)

drop_one : (text : List ℕ) (place : ℕ) → drop 1 (drop place text) ≡ drop (suc place) text
drop_one [] zero = refl
drop_one [] (suc place) = refl
drop_one (b ∷ text) zero = refl
drop_one (b ∷ text) (suc place) = drop_one text place

-- the first line, and what comes after it
pub first_line : (text line : List ℕ) (place : ℕ) → NoneBefore (Passes (is_byte 10) text) 0 (length text) place × Passes (is_byte 10) text place
    → line ≡ take place text → line ≡ line_at text 0
first_line text line place found is = is ∙ sym (ap (λ (lines : List (List ℕ)). slice_index_or lines 0 []) (split_lines text place found))

pub lines_after : (text left rest : List ℕ) (place : ℕ) → NoneBefore (Passes (is_byte 10) text) 0 (length text) place × Passes (is_byte 10) text place
    → left ≡ drop place text → rest ≡ drop 1 left → IsRestAfter text 1 rest
lines_after text left rest place found left_is is at =
    let rest_is : rest ≡ drop (suc place) text = is ∙ ap (drop 1) left_is ∙ drop_one text place in
    let next : suc at ≡ 1 + at = omega arith in
    ap (λ (r : List ℕ). line_at r at) rest_is ∙ sym (ap (λ (lines : List (List ℕ)). slice_index_or lines (suc at) []) (split_lines text place found)) ∙ ap (line_at text) next

whole_lines : (text : List ℕ) → Nowhere (Passes (is_byte 10) text) 0 (length text) → lines_of text ≡ text ∷ []
unfolding parts_of
whole_lines text none = line_alone [] text (whole_line text none)

pub only_line : (text : List ℕ) → Nowhere (Passes (is_byte 10) text) 0 (length text) → text ≡ line_at text 0
only_line text none = sym (ap (λ (lines : List (List ℕ)). slice_index_or lines 0 []) (whole_lines text none))

nothing_at : (at : ℕ) → line_at [] at ≡ []
unfolding parts_of
nothing_at zero = refl
nothing_at (suc at) = refl

pub none_after : (text : List ℕ) → Nowhere (Passes (is_byte 10) text) 0 (length text) → IsRestAfter text 1 []
none_after text none at =
    let next : suc at ≡ 1 + at = omega arith in
    nothing_at at ∙ sym (ap (λ (lines : List (List ℕ)). slice_index_or lines (suc at) []) (whole_lines text none)) ∙ ap (line_at text) next

-- ---- lines after lines

pub all_left : (text : List ℕ) → IsRestAfter text 0 text
all_left text at = ap (line_at text) (omega arith)

pub rest_more : (text rest after : List ℕ) (i j : ℕ) → IsRestAfter text i rest → IsRestAfter rest j after → IsRestAfter text (i + j) after
rest_more text rest after i j p q at =
    let same : i + (j + at) ≡ (i + j) + at = omega arith in
    q at ∙ p (j + at) ∙ ap (line_at text) same

pub line_there : (text rest line : List ℕ) (i : ℕ) → IsRestAfter text i rest → line ≡ line_at rest 0 → line ≡ line_at text i
line_there text rest line i after is =
    let same : i + 0 ≡ i = omega arith in
    is ∙ after 0 ∙ ap (line_at text) same
