-- The plant file in force stays as the reader of the lines needs it.
use Rattle.std.proofs.Common.{◌≡◌, ◌≢◌, ℕ, zero, suc, ◌+◌, ◌==◌, Bool, true, false, cond, MatchBool, List, [], ◌∷◌, ◌++◌, length, take, drop, Ok, inl, inr, refl, sym, ap, subst, ◌∙◌, arith, codes}
use Rattle.restart_laws.proofs.Common.{AllByRecursion, flat_map, is_utf8, ne_eqb, eqb-false, All-from_recursion, bytes_eq-Decides, parse_document, text_plant, is_bar, before_bar, plant_text, script_text, Snapshot, is_snapshot_head, front_text, BeginsAnew, GoesOnFrom, InService, ItemAnswer, IsItemAnswer, AreItemAnswers, resumed_service, IsReadWhole, IsFileInForce, BeginsInForce, StaysInForce, after_answers}
use Rattle.std.proofs.lemmas.Bool.Decides.{nat_tests}
use Rattle.line_service.specs.script.Lines.{lines_of, parts_of, parts_from}
use Rattle.state_service.specs.resumed.PlantFiles.{is_dashes, file_lines, file_text}
use Rattle.restart_laws.proofs.BarLemmas.{dashes, bar, IsPassed, HasNoBreak, IsBeforeBar, none_passed, both_passed, passed_before, text_before, front_before}

-- ---- lines of a plant file

-- a line that is not three dashes does not begin with them and end there
no_bar_here : (line left : List ℕ) → HasNoBreak line → line ≢ dashes → is_bar (line ++ 10 ∷ left) ≡ false
no_bar_here [] left none other = refl
no_bar_here (a ∷ []) left none other = grind (arith, nat_tests)
no_bar_here (a ∷ b ∷ []) left none other = grind (arith, nat_tests)
no_bar_here (a ∷ b ∷ c ∷ []) left none other = cases (a == 45) (b == 45) (c == 45) refl refl refl where
  cases : (x y z : Bool) → (a == 45) ≡ x → (b == 45) ≡ y → (c == 45) ≡ z → is_bar ((a ∷ b ∷ c ∷ []) ++ 10 ∷ left) ≡ false
  cases true true true p q r =
      let a_is : a ≡ 45 = grind (arith, nat_tests, p) in
      let b_is : b ≡ 45 = grind (arith, nat_tests, q) in
      let c_is : c ≡ 45 = grind (arith, nat_tests, r) in
      absurd (other (rw (a_is, b_is, c_is) refl))
  cases true true false p q r = rw (p, q, r) refl
  cases true false z p q r = rw (p, q) refl
  cases false y z p q r = rw p refl
no_bar_here (a ∷ b ∷ c ∷ d ∷ more) left none other = grind (arith, nat_tests, none.1.1.1.0)

walk : (bytes left : List ℕ) → HasNoBreak bytes → before_bar false ((bytes ++ 10 ∷ []) ++ left) ≡ length (bytes ++ 10 ∷ []) + before_bar true left
walk [] left none = refl
walk (b ∷ bytes) left none =
    ap (λ (t : Bool). 1 + before_bar t ((bytes ++ 10 ∷ []) ++ left)) (ne_eqb b 10 none.0) ∙ omega (arith, walk bytes left none.1)

after_line : (line rest : List ℕ) → (line ++ 10 ∷ []) ++ rest ≡ line ++ 10 ∷ rest
after_line [] rest = refl
after_line (b ∷ line) rest = ap (λ (l : List ℕ). b ∷ l) (after_line line rest)

one_line : (line : List ℕ) → HasNoBreak line → line ≢ dashes → IsPassed (line ++ 10 ∷ [])
one_line [] none other rest = refl
one_line (b ∷ line) none other rest =
    let no_bar : is_bar (b ∷ ((line ++ 10 ∷ []) ++ rest)) ≡ false = ap is_bar (after_line (b ∷ line) rest) ∙ no_bar_here (b ∷ line) rest none other in
    rw (no_bar, ne_eqb b 10 none.0) (omega (arith, walk line rest none.1))

abbrev pub HaveNoBreaks : List (List ℕ) → Type 0
HaveNoBreaks lines = AllByRecursion HasNoBreak lines

file_passed : (lines : List (List ℕ)) → HaveNoBreaks lines → IsPassed (file_text lines)
file_passed [] none = none_passed
file_passed (line ∷ lines) none = by (is_dashes line) refl (file_passed lines none.1)
  where
    by : (t : Bool) → is_dashes line ≡ t → IsPassed (file_text lines) → IsPassed (flat_map (λ (l : List ℕ). l ++ 10 ∷ []) (cond t [] (line ∷ file_lines lines)))
    by true is rest = none_passed
    by false is rest =
        both_passed (line ++ 10 ∷ []) (file_text lines)
        (one_line line none.0 (λ same. let wrong : true ≡ false = sym ((bytes_eq-Decides line dashes).1 same) ∙ is in cc)) rest

read_whole : (file : List ℕ) → IsBeforeBar file → IsReadWhole file
read_whole file before = text_before file [] before

-- the lines of an input have no line feed in them
no_break_more : (part : List ℕ) (b : ℕ) → HasNoBreak part → b ≢ 10 → HasNoBreak (part ++ b ∷ [])
no_break_more [] b none other = (other, tt)
no_break_more (x ∷ part) b none other = (none.0, no_break_more part b none.1 other)

parts_none : (part bytes : List ℕ) → HasNoBreak part → HaveNoBreaks (parts_from 10 part bytes)
parts_none part [] none = (none, tt)
parts_none part (b ∷ bytes) none = by (b == 10) refl (parts_none [] bytes tt) (λ other. parts_none (part ++ b ∷ []) bytes (no_break_more part b none other))
  where
    by : (t : Bool) → (b == 10) ≡ t → HaveNoBreaks (parts_from 10 [] bytes) → (b ≢ 10 → HaveNoBreaks (parts_from 10 (part ++ b ∷ []) bytes))
        → HaveNoBreaks (elim t as (λ x. List (List ℕ)) [ true ↦ part ∷ parts_from 10 [] bytes | false ↦ parts_from 10 (part ++ b ∷ []) bytes ])
    by true is ended more = (none, ended)
    by false is ended more = more (eqb-false b 10 is)

pub lines_none : (input : List ℕ) → HaveNoBreaks (lines_of input)
unfolding parts_of
lines_none input = parts_none [] input tt

drop_none : (n : ℕ) (lines : List (List ℕ)) → HaveNoBreaks lines → HaveNoBreaks (drop n lines)
drop_none zero lines none = none
drop_none (suc n) [] none = tt
drop_none (suc n) (line ∷ lines) none = drop_none n lines none.1

-- ---- answers

one_answer : (old : InService) (number : ℕ) (line : List ℕ) (lines : List (List ℕ)) (answer : ItemAnswer) → HaveNoBreaks lines → IsFileInForce old → IsItemAnswer old number line lines answer → IsFileInForce answer.next
one_answer old number line lines answer none is (inl said) = subst IsFileInForce (sym said.next_is) (record { is_text = is.is_text; says = is.says; whole = is.whole })
one_answer old number line lines answer none is (inr (inl change)) = record {
  is_text = subst (λ (file : List ℕ). is_utf8 file ≡ true) (sym change.file_is) change.is_file.is_text.1;
  says = subst (λ (file : List ℕ). text_plant (parse_document file) ≡ Ok answer.next.run.plant) (sym change.file_is) change.is_file.says;
  whole = subst IsReadWhole (sym change.file_is) (read_whole (file_text lines) (passed_before (file_text lines) (file_passed lines none)));
}
one_answer old number line lines answer none is (inr (inr (inl frame))) = subst IsFileInForce (sym frame.next_is) (record { is_text = is.is_text; says = is.says; whole = is.whole })
one_answer old number line lines answer none is (inr (inr (inr same))) = subst IsFileInForce (sym same.next_is) is

each_answer : (old : InService) (number : ℕ) (lines : List (List ℕ)) (answers : List ItemAnswer) → HaveNoBreaks lines → IsFileInForce old → AreItemAnswers old number lines answers → AllByRecursion (λ (answer : ItemAnswer). IsFileInForce answer.next) answers
each_answer old number [] [] none is are = tt
each_answer old number [] (answer ∷ more) none is are = absurd are
each_answer old number (line ∷ lines) [] none is are = absurd are
each_answer old number (line ∷ lines) (answer ∷ more) none is are =
    let now = one_answer old number line lines answer none.1 is are.0 in
    (now, each_answer answer.next (number + answer.lines) (drop answer.lines (line ∷ lines)) more (drop_none answer.lines (line ∷ lines) none) now are.1)

pub stays : StaysInForce
stays first number input answers is are =
    All-from_recursion (λ (answer : ItemAnswer). IsFileInForce answer.next) answers (each_answer first number (lines_of input) answers (lines_none input) is are)

in_the_end : (first : InService) (answers : List ItemAnswer) → IsFileInForce first → AllByRecursion (λ (answer : ItemAnswer). IsFileInForce answer.next) answers → IsFileInForce (after_answers first answers)
in_the_end first [] is each = is
in_the_end first (answer ∷ more) is each = in_the_end answer.next more each.0 each.1

pub at_the_end : (first : InService) (input : List ℕ) (answers : List ItemAnswer) → IsFileInForce first → AreItemAnswers first 1 (lines_of input) answers → IsFileInForce (after_answers first answers)
at_the_end first input answers is are = in_the_end first answers is (each_answer first 1 (lines_of input) answers (lines_none input) is are)

-- ---- the beginning

abbrev head : List ℕ
head = codes "melfjits-snapshot "

take_drop : (n : ℕ) (bs : List ℕ) → bs ≡ take n bs ++ drop n bs
take_drop zero bs = refl
take_drop (suc n) [] = refl
take_drop (suc n) (x ∷ bs) = ap (λ (l : List ℕ). x ∷ l) (take_drop n bs)

-- a text that goes on from a snapshot's head has one
pub head_goes_on : (text more : List ℕ) → is_snapshot_head text ≡ true → is_snapshot_head (text ++ more) ≡ true
head_goes_on text more is =
    let begins : text ≡ head ++ drop 18 text = take_drop 18 text ∙ ap (λ (bs : List ℕ). bs ++ drop 18 text) ((bytes_eq-Decides (take 18 text) head).0 is) in
    ap (λ (bs : List ℕ). is_snapshot_head (bs ++ more)) begins

no_snapshot : (input : List ℕ) → is_snapshot_head (front_text input) ≡ false → is_snapshot_head (plant_text input) ≡ false
no_snapshot input = by (is_snapshot_head (plant_text input)) refl
  where
    by : (t : Bool) → is_snapshot_head (plant_text input) ≡ t → is_snapshot_head (cond t (plant_text input ++ bar (plant_text (script_text input))) (plant_text input)) ≡ false → t ≡ false
    by true is none = let wrong : true ≡ false = sym (head_goes_on (plant_text input) (bar (plant_text (script_text input))) is) ∙ none in cc
    by false is none = refl

pub begins : BeginsInForce
begins input plant saved says some text whole = by (is_snapshot_head (front_text input)) refl says
  where
    by : (t : Bool) → is_snapshot_head (front_text input) ≡ t → MatchBool t (GoesOnFrom (front_text input) plant saved) (BeginsAnew (front_text input) plant saved) → IsFileInForce (resumed_service plant saved)
    by true is goes = record { is_text = text; says = goes.plant_is; whole = whole is }
    by false is anew =
        let none = no_snapshot input is in
        let front : front_text input ≡ plant_text input = ap (λ (t : Bool). cond t (plant_text input ++ bar (plant_text (script_text input))) (plant_text input)) none in
        let more : script_text input ≢ [] = subst (λ (t : Bool). cond t (script_text (script_text input)) (script_text input) ≢ []) none some in
        let file : saved.plant ≡ front_text input = ap (λ (s : Snapshot). s.plant) anew.saved_is in
        record {
          is_text = text;
          says = ap (λ (bs : List ℕ). text_plant (parse_document bs)) file ∙ anew.plant_is;
          whole = subst IsReadWhole (sym (file ∙ front)) (read_whole (plant_text input) (front_before input more));
        }
