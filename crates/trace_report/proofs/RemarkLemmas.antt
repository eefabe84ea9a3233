-- Lines with no line feed, and remarks one after the other.
use Rattle.std.proofs.Common.{Option, ◌≡◌, ◌≢◌, ◌==◌, ℕ, ◌+◌, ◌-◌, ◌*◌, ◌/◌, ◌%◌, ◌^◌, ◌<◌, ◌≤◌, Bool, true, false, not, List, [], ◌∷◌, ◌++◌, arith, refl, sym, ap, subst, ◌∙◌, append_assoc, append-nil, codes, eq-eqb, true≢false}
use Rattle.trace_report.proofs.Common.{decimal, list_all, AllByRecursion, map-append, HasNoBreak, Appends, Appends-nil, Appends-trans, map, quote, HasWorded, IsOtherLine, with_ends, HasNoCheckLine, indented_line, AreWords, no_words_line}
use Rattle.std.proofs.lemmas.Fmt.{decimal_by_steps}
use Rattle.std.proofs.lemmas.Grind.{flat_map-append}

-- ---- no line feed

pub no_break_both : (a b : List ℕ) → HasNoBreak a → HasNoBreak b → HasNoBreak (a ++ b)
no_break_both [] b p q = q
no_break_both (x ∷ a) b p q = (p.0, no_break_both a b p.1 q)

-- no digit is one
pub no_break_decimal : (n : ℕ) → n < 2 ^ 64 → HasNoBreak (decimal n)
no_break_decimal =
    decimal_by_steps (λ m ds. HasNoBreak ds) (λ m small. (other m, tt))
    (λ m ds big before. no_break_both ds ((48 + m % 10) ∷ []) before (other (m % 10), tt)) where
      other : (k : ℕ) → 48 + k ≢ 10
      other k is = omega (arith, is)

-- bytes that are written out
abbrev pub has_no_break : List ℕ → Bool
has_no_break bytes = list_all (λ b. not (b == 10)) bytes

first_is_none : (b : ℕ) (bytes : List ℕ) (t : Bool) → (b == 10) ≡ t → has_no_break (b ∷ bytes) ≡ true → (b ≢ 10) × (has_no_break bytes ≡ true)
first_is_none b bytes true e is = absurd (let wrong : false ≡ true = rw e at is in cc)
first_is_none b bytes false e is =
    let more : has_no_break bytes ≡ true = rw e at is in
    (λ same. true≢false (sym (eq-eqb b 10 same) ∙ e), more)

pub no_break_of : (bytes : List ℕ) → has_no_break bytes ≡ true → HasNoBreak bytes
no_break_of [] is = tt
no_break_of (b ∷ bytes) is = let first = first_is_none b bytes (b == 10) refl is in (first.0, no_break_of bytes first.1)

-- ---- remarks

pub no_remark : HasNoCheckLine []
no_remark = record { lines = []; remark_is = refl; others = tt }

others_both : (a b : List (List ℕ)) → AllByRecursion IsOtherLine a → AllByRecursion IsOtherLine b → AllByRecursion IsOtherLine (a ++ b)
others_both [] b p q = q
others_both (x ∷ a) b p q = (p.0, others_both a b p.1 q)

pub remark_both : (a b : List ℕ) → HasNoCheckLine a → HasNoCheckLine b → HasNoCheckLine (a ++ b)
remark_both a b p q = record {
  lines = p.lines ++ q.lines;
  remark_is =
      ap (λ (x : List ℕ). x ++ b) p.remark_is ∙ ap (λ (y : List ℕ). with_ends p.lines ++ y) q.remark_is
      ∙ sym (flat_map-append (λ (line : List ℕ). line ++ 10 ∷ []) p.lines q.lines);
  others = others_both p.lines q.lines p.others q.others;
}

one_line : (line text : List ℕ) → text ≡ line ++ 10 ∷ [] → IsOtherLine line → HasNoCheckLine text
one_line line text is other = record { lines = line ∷ []; remark_is = is ∙ sym (append-nil (line ++ 10 ∷ [])); others = (other, tt) }

-- a line that is indented further than that of a check
indented_remark : (line : List ℕ) → HasNoBreak line → HasNoCheckLine (codes "    " ++ (line ++ 10 ∷ []))
indented_remark line none =
    one_line (codes "    " ++ line) (codes "    " ++ (line ++ 10 ∷ [])) refl
    (record { one = no_break_both (codes "    ") line (no_break_of (codes "    ") refl) none; no_check = refl })

-- words are no lines of checks
pub words_remark : (words : List ℕ) → AreWords words → HasNoCheckLine words
words_remark words are = subst HasNoCheckLine (sym are.words_are) (all are.lines are.each_one) where
  all : (lines : List (List ℕ)) → AllByRecursion HasNoBreak lines → HasNoCheckLine (with_ends (map indented_line lines))
  all [] none = no_remark
  all (line ∷ lines) none = subst HasNoCheckLine (ap (λ (l : List ℕ). l ++ with_ends (map indented_line lines)) (sym (append_assoc (codes "    ") line (10 ∷ [])))) (remark_both (codes "    " ++ (line ++ 10 ∷ [])) (with_ends (map indented_line lines)) (indented_remark line none.0) (all lines none.1))

pub no_words : AreWords []
no_words = record { lines = []; words_are = refl; each_one = tt }

pub one_words : (line : List ℕ) → HasNoBreak line → AreWords (codes "    " ++ (line ++ 10 ∷ []))
one_words line none = record { lines = line ∷ []; words_are = sym (append-nil ((codes "    " ++ line) ++ 10 ∷ []) ∙ append_assoc (codes "    ") line (10 ∷ [])); each_one = (none, tt) }

pub no_words_are : AreWords no_words_line
no_words_are =
    one_words (codes "out of memory: what this step did is not described")
    (no_break_of (codes "out of memory: what this step did is not described") refl)

-- a line that says a line's number and what that line says
pub said_remark : (number : ℕ) (said : List ℕ) → number < 2 ^ 64 → HasNoBreak said → HasNoCheckLine (quote number said)
said_remark number said small none =
    one_line (codes "line " ++ (decimal number ++ (codes ": " ++ said))) (codes "line " ++ (decimal number ++ (codes ": " ++ (said ++ 10 ∷ []))))
    (ap (λ (t : List ℕ). codes "line " ++ t) (sym (append_assoc (decimal number) (codes ": " ++ said) (10 ∷ []))))
    (record {
      one =
          no_break_both (codes "line ") (decimal number ++ (codes ": " ++ said)) (no_break_of (codes "line ") refl)
          (no_break_both (decimal number) (codes ": " ++ said) (no_break_decimal number small)
          (no_break_both (codes ": ") said (no_break_of (codes ": ") refl) none));
      no_check = refl;
    })

-- ---- what is written

pub none_worded : (known : Option (List ℕ)) → HasWorded known known
none_worded known = ([], no_words, Appends-nil known)

both_each : (a b : List (List ℕ)) → AllByRecursion HasNoBreak a → AllByRecursion HasNoBreak b → AllByRecursion HasNoBreak (a ++ b)
both_each [] b p q = q
both_each (x ∷ a) b p q = (p.0, both_each a b p.1 q)

pub words_both : (a b : List ℕ) → AreWords a → AreWords b → AreWords (a ++ b)
words_both a b p q = record {
  lines = p.lines ++ q.lines;
  words_are =
      ap (λ (x : List ℕ). x ++ b) p.words_are ∙ ap (λ (y : List ℕ). with_ends (map indented_line p.lines) ++ y) q.words_are
      ∙ sym (flat_map-append (λ (line : List ℕ). line ++ 10 ∷ []) (map indented_line p.lines) (map indented_line q.lines))
      ∙ ap with_ends (sym (map-append indented_line p.lines q.lines));
  each_one = both_each p.lines q.lines p.each_one q.each_one;
}

pub line_worded : (a b c : Option (List ℕ)) (line : List ℕ) → HasWorded a b → HasNoBreak line → Appends b c (codes "    " ++ (line ++ 10 ∷ [])) → HasWorded a c
line_worded a b c line before none wrote =
    let more = codes "    " ++ (line ++ 10 ∷ []) in
    (before.0 ++ more, words_both before.0 more before.1 (one_words line none), Appends-trans a b c before.0 more before.2 wrote)
