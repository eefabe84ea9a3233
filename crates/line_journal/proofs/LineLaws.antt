-- What a text of marked_lines lines holds.
use Rattle.std.proofs.Common.{◌≡◌, ◌≢◌, inl, inr, ℕ, zero, suc, ◌==◌, List, [], ◌∷◌, ◌++◌, take, refl, sym, ◌∙◌, ap, subst, append_assoc}
use Rattle.line_journal.proofs.Common.{AllByRecursion, cases_eq, ne_eqb, cond-true, cond-false, eq-eqb, IsLine, with_head, whole_lines, marked_first, marked_lines, records}

-- a line and its line feed
pub whole_line : (line rest : List ℕ) → IsLine line → whole_lines (line ++ 10 ∷ rest) ≡ line ∷ whole_lines rest
whole_line [] rest ok = refl
whole_line (b ∷ line) rest ok =
    cond-false (b == 10) ([] ∷ whole_lines (line ++ 10 ∷ rest)) (with_head b (whole_lines (line ++ 10 ∷ rest))) (ne_eqb b 10 ok.0)
    ∙ ap (λ (ls : List (List ℕ)). with_head b ls) (whole_line line rest ok.1)

-- a text with no line feed has no whole line
pub no_whole_line : (text : List ℕ) → IsLine text → whole_lines text ≡ []
no_whole_line [] ok = refl
no_whole_line (b ∷ text) ok =
    cond-false (b == 10) ([] ∷ whole_lines text) (with_head b (whole_lines text)) (ne_eqb b 10 ok.0)
    ∙ ap (λ (ls : List (List ℕ)). with_head b ls) (no_whole_line text ok.1)

head_none : (b : ℕ) (lines : List (List ℕ)) → with_head b lines ≡ [] → lines ≡ []
head_none b [] none = refl
head_none b (line ∷ lines) none = absurd (cc none)

-- nor has its front
pub front_has_none : (n : ℕ) (text : List ℕ) → whole_lines text ≡ [] → whole_lines (take n text) ≡ []
front_has_none zero text none = refl
front_has_none (suc n) [] none = refl
front_has_none (suc n) (b ∷ text) none = elim (cases_eq b 10) [
  | inl is ↦
      absurd (cc ((cond-true (b == 10) ([] ∷ whole_lines text) (with_head b (whole_lines text)) (eq-eqb b 10 is)), none))
  | inr other ↦
      let parts = cond-false (b == 10) ([] ∷ whole_lines text) (with_head b (whole_lines text)) (ne_eqb b 10 other) in
      cond-false (b == 10) ([] ∷ whole_lines (take n text)) (with_head b (whole_lines (take n text))) (ne_eqb b 10 other)
      ∙ ap (λ (ls : List (List ℕ)). with_head b ls) (front_has_none n text (head_none b (whole_lines text) (sym parts ∙ none)))
]

-- lines with their line feeds
abbrev ended : List (List ℕ) → List ℕ
ended [] = []
ended (line ∷ lines) = line ++ 10 ∷ ended lines

-- a text is its whole lines, and a rest with no line feed
pub record Whole (text : List ℕ) : Type 0 where
  pub rest : List ℕ
  pub split : text ≡ ended (whole_lines text) ++ rest
  pub each : AllByRecursion IsLine (whole_lines text)
  pub no_more : IsLine rest

add_byte : (b : ℕ) (text rest : List ℕ) (lines : List (List ℕ)) → b ≢ 10 → whole_lines (b ∷ text) ≡ with_head b lines
    → text ≡ ended lines ++ rest → AllByRecursion IsLine lines → IsLine rest → Whole (b ∷ text)
add_byte b text rest [] other is split each no_more = record {
  rest = b ∷ rest;
  split = ap (λ (t : List ℕ). b ∷ t) split ∙ ap (λ (ls : List (List ℕ)). ended ls ++ b ∷ rest) (sym is);
  each = subst (AllByRecursion IsLine) (sym is) tt;
  no_more = (other, no_more);
}
add_byte b text rest (line ∷ lines) other is split each no_more = record {
  rest = rest;
  split = ap (λ (t : List ℕ). b ∷ t) split ∙ ap (λ (ls : List (List ℕ)). ended ls ++ rest) (sym is);
  each = subst (AllByRecursion IsLine) (sym is) ((other, each.0), each.1);
  no_more = no_more;
}

pub whole : (text : List ℕ) → Whole text
whole [] = record { rest = []; split = refl; each = tt; no_more = tt }
whole (b ∷ text) = let w = whole text in elim (cases_eq b 10) [
  | inl is ↦
      let parts = cond-true (b == 10) ([] ∷ whole_lines text) (with_head b (whole_lines text)) (eq-eqb b 10 is) in
      record {
        rest = w.rest;
        split = (λ i. is i ∷ w.split i) ∙ ap (λ (ls : List (List ℕ)). ended ls ++ w.rest) (sym parts);
        each = subst (AllByRecursion IsLine) (sym parts) (tt, w.each);
        no_more = w.no_more;
      }
  | inr other ↦
      let parts = cond-false (b == 10) ([] ∷ whole_lines text) (with_head b (whole_lines text)) (ne_eqb b 10 other) in
      add_byte b text w.rest (whole_lines text) other parts w.split w.each w.no_more
]

-- the whole lines of lines that end, and of a rest with no line feed
whole_ended : (lines : List (List ℕ)) (rest : List ℕ) → AllByRecursion IsLine lines → IsLine rest → whole_lines (ended lines ++ rest) ≡ lines
whole_ended [] rest each no_more = no_whole_line rest no_more
whole_ended (line ∷ lines) rest each no_more =
    ap whole_lines (append_assoc line (10 ∷ ended lines) rest)
    ∙ whole_line line (ended lines ++ rest) each.0
    ∙ ap (λ (ls : List (List ℕ)). line ∷ ls) (whole_ended lines rest each.1 no_more)

module _ (mark : ℕ) (apart : mark ≢ 10) where
  same_mark : (line : List ℕ) (lines : List (List ℕ)) → marked_first mark ((mark ∷ line) ∷ lines) ≡ line ∷ marked_first mark lines
  same_mark line lines = cond-true (mark == mark) (line ∷ marked_first mark lines) [] (eq-eqb mark mark refl)

  other_mark : (b : ℕ) (line : List ℕ) (lines : List (List ℕ)) → b ≢ mark → marked_first mark ((b ∷ line) ∷ lines) ≡ []
  other_mark b line lines other = cond-false (b == mark) (line ∷ marked_first mark lines) [] (ne_eqb b mark other)

  after_mark : (text : List ℕ) → whole_lines (mark ∷ text) ≡ with_head mark (whole_lines text)
  after_mark text = cond-false (mark == 10) ([] ∷ whole_lines text) (with_head mark (whole_lines text)) (ne_eqb mark 10 apart)

  pub marked_line : (line rest : List ℕ) → IsLine line → marked_lines mark (mark ∷ line ++ 10 ∷ rest) ≡ line ∷ marked_lines mark rest
  marked_line line rest ok =
      ap (λ (ls : List (List ℕ)). marked_first mark ls) (after_mark (line ++ 10 ∷ rest) ∙ ap (λ (ls : List (List ℕ)). with_head mark ls) (whole_line line rest ok))
      ∙ same_mark line (whole_lines rest)

  pub marked_records : (lines : List (List ℕ)) (rest : List ℕ) → AllByRecursion IsLine lines → marked_lines mark (records mark lines ++ rest) ≡ lines ++ marked_lines mark rest
  marked_records [] rest each = refl
  marked_records (line ∷ lines) rest each =
      ap (λ (t : List ℕ). marked_lines mark (mark ∷ t)) (append_assoc line (10 ∷ records mark lines) rest)
      ∙ marked_line line (records mark lines ++ rest) each.0
      ∙ ap (λ (ls : List (List ℕ)). line ∷ ls) (marked_records lines rest each.1)

  other_head : (b : ℕ) (lines : List (List ℕ)) → b ≢ mark → marked_first mark (with_head b lines) ≡ []
  other_head b [] other = refl
  other_head b (line ∷ lines) other = other_mark b line lines other

  -- another byte in place of the mark ends the lines
  pub closed : (b : ℕ) (rest : List ℕ) → b ≢ mark → marked_lines mark (b ∷ rest) ≡ []
  closed b rest other = elim (cases_eq b 10) [
    | inl is ↦ ap (λ (ls : List (List ℕ)). marked_first mark ls) (cond-true (b == 10) ([] ∷ whole_lines rest) (with_head b (whole_lines rest)) (eq-eqb b 10 is))
    | inr more ↦
        ap (λ (ls : List (List ℕ)). marked_first mark ls) (cond-false (b == 10) ([] ∷ whole_lines rest) (with_head b (whole_lines rest)) (ne_eqb b 10 more))
        ∙ other_head b (whole_lines rest) other
  ]

  -- no line counts after a mark that no line feed follows
  pub open_end : (text : List ℕ) → whole_lines text ≡ [] → marked_lines mark (mark ∷ text) ≡ []
  open_end text none = ap (λ (ls : List (List ℕ)). marked_first mark ls) (after_mark text ∙ ap (λ (ls : List (List ℕ)). with_head mark ls) none)

  headed : (lines : List (List ℕ)) → marked_first mark (with_head mark lines) ≡ [] → lines ≡ []
  headed [] none = refl
  headed (line ∷ lines) none = let some = same_mark line lines in absurd (cc (some, none))

  -- nor does the front of a text whose lines don't
  pub front_nothing : (n : ℕ) (end : List ℕ) → marked_lines mark end ≡ [] → marked_lines mark (take n end) ≡ []
  front_nothing zero end none = refl
  front_nothing (suc n) [] none = refl
  front_nothing (suc n) (b ∷ end) none = elim (cases_eq b mark) [
    | inl is ↦
        let none_there = subst (λ (m : ℕ). marked_lines mark (m ∷ end) ≡ []) is none in
        let no_lines = headed (whole_lines end) (sym (ap (λ (ls : List (List ℕ)). marked_first mark ls) (after_mark end)) ∙ none_there) in
        ap (λ (m : ℕ). marked_lines mark (m ∷ take n end)) is ∙ open_end (take n end) (front_has_none n end no_lines)
    | inr other ↦ closed b (take n end) other
  ]

  -- the lines that count, and those after them
  pub record Counted (lines : List (List ℕ)) : Type 0 where
    pub others : List (List ℕ)
    pub split : ended lines ≡ records mark (marked_first mark lines) ++ ended others
    pub each : AllByRecursion IsLine (marked_first mark lines)
    pub each_other : AllByRecursion IsLine others
    pub nothing : marked_first mark others ≡ []

  counted : (lines : List (List ℕ)) → AllByRecursion IsLine lines → Counted lines
  counted [] each = record { others = []; split = refl; each = tt; each_other = tt; nothing = refl }
  counted ([] ∷ lines) each = record { others = [] ∷ lines; split = refl; each = tt; each_other = each; nothing = refl }
  counted ((b ∷ line) ∷ lines) each = let later = counted lines each.1 in elim (cases_eq b mark) [
    | inl is ↦
        let first : marked_first mark ((b ∷ line) ∷ lines) ≡ line ∷ marked_first mark lines = ap (λ (m : ℕ). marked_first mark ((m ∷ line) ∷ lines)) is ∙ same_mark line lines in
        record {
          others = later.others;
          split = (λ i. is i ∷ line ++ 10 ∷ later.split i)
              ∙ ap (λ (t : List ℕ). mark ∷ t) (sym (append_assoc line (10 ∷ records mark (marked_first mark lines)) (ended later.others)))
              ∙ ap (λ (ls : List (List ℕ)). records mark ls ++ ended later.others) (sym first);
          each = subst (AllByRecursion IsLine) (sym first) (each.0.1, later.each);
          each_other = later.each_other;
          nothing = later.nothing;
        }
    | inr other ↦
        let none = other_mark b line lines other in
        record {
          others = (b ∷ line) ∷ lines;
          split = ap (λ (ls : List (List ℕ)). records mark ls ++ ended ((b ∷ line) ∷ lines)) (sym none);
          each = subst (AllByRecursion IsLine) (sym none) tt;
          each_other = each;
          nothing = none;
        }
  ]

  -- a text is the records of the lines that count, and an end that has none
  pub record Parts (text : List ℕ) : Type 0 where
    pub end : List ℕ
    pub split : text ≡ records mark (marked_lines mark text) ++ end
    pub each : AllByRecursion IsLine (marked_lines mark text)
    pub nothing : marked_lines mark end ≡ []

  pub parts : (text : List ℕ) → Parts text
  parts text =
      let w = whole text in
      let c = counted (whole_lines text) w.each in
      record {
        end = ended c.others ++ w.rest;
        split = w.split ∙ ap (λ (t : List ℕ). t ++ w.rest) c.split ∙ append_assoc (records mark (marked_lines mark text)) (ended c.others) w.rest;
        each = c.each;
        nothing = ap (λ (ls : List (List ℕ)). marked_first mark ls) (whole_ended c.others w.rest c.each_other w.no_more) ∙ c.nothing;
      }

  pub records_append : (lines more : List (List ℕ)) → records mark (lines ++ more) ≡ records mark lines ++ records mark more
  records_append [] more = refl
  records_append (line ∷ lines) more =
      ap (λ (t : List ℕ). mark ∷ line ++ 10 ∷ t) (records_append lines more)
      ∙ ap (λ (t : List ℕ). mark ∷ t) (sym (append_assoc line (10 ∷ records mark lines) (records mark more)))
