-- Reading up to a line of three dashes.
use Rattle.std.proofs.Common.{◌≡◌, ◌≢◌, ℕ, suc, ◌+◌, ◌==◌, Bool, true, false, List, [], ◌∷◌, ◌++◌, length, take, drop, refl, sym, ap, subst, ◌∙◌, arith, Option, Some, None, IfSome, append_assoc, append-nil, length-append, codes}
use Rattle.line_service.proofs.Common.{take_all, drop_all, nat_tests, Takes, WhereKnown, HasNoBreak, IsReadSoFar, IsFrontText}
use Rattle.line_service.specs.script.Input.{is_bar, before_bar, plant_text, script_text}

abbrev dashes : List ℕ
dashes = codes "---"

-- within a line no bar begins
walk : (bytes left : List ℕ) → HasNoBreak bytes → before_bar false (bytes ++ 10 ∷ left) ≡ length bytes + 1 + before_bar true left
walk [] left none = refl
walk (b ∷ bytes) left none =
    let other : (b == 10) ≡ false = grind (arith, nat_tests, none.0) in
    rw other (omega (arith, walk bytes left none.1))

walk_to_end : (bytes : List ℕ) → HasNoBreak bytes → before_bar false bytes ≡ length bytes
walk_to_end [] none = refl
walk_to_end (b ∷ bytes) none =
    let other : (b == 10) ≡ false = grind (arith, nat_tests, none.0) in
    let later = walk_to_end bytes none.1 in rw other (omega (arith, later))

-- a line of other bytes is no bar
no_bar_here : (line left : List ℕ) → HasNoBreak line → line ≢ dashes → is_bar (line ++ 10 ∷ left) ≡ false
no_bar_here [] left none other = refl
no_bar_here (a ∷ []) left none other = grind (arith, nat_tests)
no_bar_here (a ∷ b ∷ []) left none other = grind (arith, nat_tests)
no_bar_here (a ∷ b ∷ c ∷ []) left none other = cases (a == 45) (b == 45) (c == 45) refl refl refl where
  cases : (x y z : Bool) → (a == 45) ≡ x → (b == 45) ≡ y → (c == 45) ≡ z → is_bar ((a ∷ b ∷ c ∷ []) ++ 10 ∷ left) ≡ false
  cases true true true p q r =
      let a_is : a ≡ 45 = grind (arith, nat_tests, p) in
      let b_is : b ≡ 45 = grind (arith, nat_tests, q) in
      let c_is : c ≡ 45 = grind (arith, nat_tests, r) in
      absurd (other (rw (a_is, b_is, c_is) refl))
  cases true true false p q r = rw (p, q, r) refl
  cases true false z p q r = rw (p, q) refl
  cases false y z p q r = rw p refl
no_bar_here (a ∷ b ∷ c ∷ d ∷ more) left none other = grind (arith, nat_tests, none.1.1.1.0)

no_bar_at_end : (line : List ℕ) → HasNoBreak line → line ≢ dashes → is_bar line ≡ false
no_bar_at_end [] none other = refl
no_bar_at_end (a ∷ []) none other = grind (arith, nat_tests)
no_bar_at_end (a ∷ b ∷ []) none other = grind (arith, nat_tests)
no_bar_at_end (a ∷ b ∷ c ∷ []) none other = cases (a == 45) (b == 45) (c == 45) refl refl refl where
  cases : (x y z : Bool) → (a == 45) ≡ x → (b == 45) ≡ y → (c == 45) ≡ z → is_bar (a ∷ b ∷ c ∷ []) ≡ false
  cases true true true p q r =
      let a_is : a ≡ 45 = grind (arith, nat_tests, p) in
      let b_is : b ≡ 45 = grind (arith, nat_tests, q) in
      let c_is : c ≡ 45 = grind (arith, nat_tests, r) in
      absurd (other (rw (a_is, b_is, c_is) refl))
  cases true true false p q r = rw (p, q, r) refl
  cases true false z p q r = rw (p, q) refl
  cases false y z p q r = rw p refl
no_bar_at_end (a ∷ b ∷ c ∷ d ∷ more) none other = grind (arith, nat_tests, none.1.1.1.0)

-- behind such a line another begins
past_line : (line left : List ℕ) → HasNoBreak line → line ≢ dashes → before_bar true (line ++ 10 ∷ left) ≡ length line + 1 + before_bar true left
past_line [] left none other = refl
past_line (b ∷ line) left none other =
    let here = no_bar_here (b ∷ line) left none other in
    let within : (b == 10) ≡ false = grind (arith, nat_tests, none.0) in
    rw (here, within) (omega (arith, walk line left none.1))

to_end : (line : List ℕ) → HasNoBreak line → line ≢ dashes → before_bar true line ≡ length line
to_end [] none other = refl
to_end (b ∷ line) none other =
    let here = no_bar_at_end (b ∷ line) none other in
    let within : (b == 10) ≡ false = grind (arith, nat_tests, none.0) in
    rw (here, within) (omega (arith, walk_to_end line none.1))

no_break_more : (line : List ℕ) (byte : ℕ) → HasNoBreak line → byte ≢ 10 → HasNoBreak (line ++ byte ∷ [])
no_break_more [] byte none other = (other, tt)
no_break_more (b ∷ line) byte none other = (none.0, no_break_more line byte none.1 other)

-- ---- what is read so far

pub begun : (input : List ℕ) → IsReadSoFar input input [] []
begun input = record { input_is = refl; in_a_line = tt; no_bar = omega arith }

pub byte_read : (input rest text line : List ℕ) (byte : ℕ) → byte ≢ 10 → IsReadSoFar input (byte ∷ rest) text line → IsReadSoFar input rest text (line ++ byte ∷ [])
byte_read input rest text line byte other so_far =
    let same : (line ++ byte ∷ []) ++ rest ≡ line ++ byte ∷ rest = append_assoc line (byte ∷ []) rest in
    record {
      input_is = so_far.input_is ∙ ap (λ (l : List ℕ). text ++ l) (sym same);
      in_a_line = no_break_more line byte so_far.in_a_line other;
      no_bar = so_far.no_bar ∙ ap (λ (l : List ℕ). length text + before_bar true l) (sym same);
    }

pub line_read : (input rest text line new : List ℕ) → line ≢ dashes → new ≡ text ++ (line ++ 10 ∷ []) → IsReadSoFar input (10 ∷ rest) text line → IsReadSoFar input rest new []
line_read input rest text line new other is so_far =
    let same : new ++ rest ≡ text ++ (line ++ 10 ∷ rest) =
    ap (λ (l : List ℕ). l ++ rest) is ∙ append_assoc text (line ++ 10 ∷ []) rest ∙ ap (λ (l : List ℕ). text ++ l) (append_assoc line (10 ∷ []) rest) in
    let long : length new ≡ length text + (length line + 1) = rw (is, length-append text (line ++ 10 ∷ []), length-append line (10 ∷ [])) refl in
    let past = past_line line rest so_far.in_a_line other in
    record {
      input_is = so_far.input_is ∙ sym same;
      in_a_line = tt;
      no_bar = so_far.no_bar ∙ (let p : before_bar true (line ++ 10 ∷ rest) ≡ length line + 1 + before_bar true rest = past in omega (arith, p, long));
    }

-- ---- the bar, or the end

behind : (text rest : List ℕ) (n k : ℕ) → n ≡ length text + k → drop n (text ++ rest) ≡ drop k rest
behind text rest n k is = ap (λ (i : ℕ). drop i (text ++ rest)) is ∙ past text
  where
    past : (xs : List ℕ) → drop (length xs + k) (xs ++ rest) ≡ drop k rest
    past [] = let none : 0 + k ≡ k = omega arith in ap (λ (i : ℕ). drop i rest) none
    past (b ∷ xs) = let next : length (b ∷ xs) + k ≡ suc (length xs + k) = omega arith in ap (λ (i : ℕ). drop i (b ∷ (xs ++ rest))) next ∙ past xs

front : (text rest : List ℕ) (n : ℕ) → n ≡ length text → take n (text ++ rest) ≡ text
front text rest n is = ap (λ (i : ℕ). take i (text ++ rest)) is ∙ first text
  where
    first : (xs : List ℕ) → take (length xs) (xs ++ rest) ≡ xs
    first [] = refl
    first (b ∷ xs) = ap (λ (l : List ℕ). b ∷ l) (first xs)

pub bar_read : (input rest text line : List ℕ) → line ≡ dashes → IsReadSoFar input (10 ∷ rest) text line → (text ≡ plant_text input) × (rest ≡ script_text input)
unfolding plant_text script_text
bar_read input rest text line is so_far =
    let at : before_bar true input ≡ length text + 0 = so_far.no_bar ∙ ap (λ (l : List ℕ). length text + before_bar true (l ++ 10 ∷ rest)) is in
    let input_is : input ≡ text ++ (dashes ++ 10 ∷ rest) = so_far.input_is ∙ ap (λ (l : List ℕ). text ++ (l ++ 10 ∷ rest)) is in (
      sym (ap (take (before_bar true input)) input_is ∙ front text (dashes ++ 10 ∷ rest) (before_bar true input) (omega (arith, at))),
      sym (ap (drop (before_bar true input + 4)) input_is ∙ behind text (dashes ++ 10 ∷ rest) (before_bar true input + 4) 4 (omega (arith, at))),
    )

pub bar_at_end : (input text line : List ℕ) → line ≡ dashes → IsReadSoFar input [] text line → (text ≡ plant_text input) × ([] ≡ script_text input)
unfolding plant_text script_text
bar_at_end input text line is so_far =
    let at : before_bar true input ≡ length text + 0 = so_far.no_bar ∙ ap (λ (l : List ℕ). length text + before_bar true (l ++ [])) is in
    let input_is : input ≡ text ++ (dashes ++ []) = so_far.input_is ∙ ap (λ (l : List ℕ). text ++ (l ++ [])) is in (
      sym (ap (take (before_bar true input)) input_is ∙ front text (dashes ++ []) (before_bar true input) (omega (arith, at))),
      sym (ap (drop (before_bar true input + 4)) input_is ∙ behind text (dashes ++ []) (before_bar true input + 4) 4 (omega (arith, at))),
    )

pub no_bar_read : (input text line new : List ℕ) → line ≢ dashes → new ≡ text ++ line → IsReadSoFar input [] text line → (new ≡ plant_text input) × ([] ≡ script_text input)
unfolding plant_text script_text
no_bar_read input text line new other is so_far =
    let input_is : input ≡ new = so_far.input_is ∙ ap (λ (l : List ℕ). text ++ l) (append-nil line) ∙ sym is in
    let ends = to_end line so_far.in_a_line other in
    let long : length new ≡ length text + length line = ap length is ∙ length-append text line in
    let at : before_bar true input ≡ length new =
    so_far.no_bar ∙ ap (λ (l : List ℕ). length text + before_bar true l) (append-nil line) ∙ ap (λ (n : ℕ). length text + n) ends ∙ sym long in
    let fits : length input ≡ length new = ap length input_is in (
      sym (take_all (before_bar true input) input (omega (arith, at, fits)) ∙ input_is),
      sym (drop_all (before_bar true input + 4) input (omega (arith, at, fits))),
    )

-- ---- where the reader's bytes are known

pub known_on : (a b c : Option (List ℕ)) (byte : ℕ) (P Q : List ℕ → List ℕ → Type 0) → ((input rest : List ℕ) → P input (byte ∷ rest) → Q input rest)
    → WhereKnown a b P → Takes b c (Some byte) → WhereKnown a c Q
known_on None b c byte P Q on h took = tt
known_on (Some input) None c byte P Q on h took = absurd h
known_on (Some input) (Some bytes) None byte P Q on h took = absurd took
known_on (Some input) (Some bytes) (Some left) byte P Q on h took = on input left (subst (λ (l : List ℕ). P input l) took h)

pub known_end : (a b c : Option (List ℕ)) (P Q : List ℕ → List ℕ → Type 0) → ((input : List ℕ) → P input [] → Q input []) → WhereKnown a b P → Takes b c None → WhereKnown a c Q
known_end None b c P Q on h took = tt
known_end (Some input) None c P Q on h took = absurd h
known_end (Some input) (Some bytes) None P Q on h took = absurd took
known_end (Some input) (Some bytes) (Some left) P Q on h took =
    subst (λ (l : List ℕ). Q input l) (sym took.1) (on input (subst (λ (l : List ℕ). P input l) took.0 h))

pub text_known : (a c : Option (List ℕ)) (text : List ℕ) → WhereKnown a c (IsFrontText text) → IfSome a (λ input. text ≡ plant_text input)
text_known None c text h = tt
text_known (Some input) None text h = absurd h
text_known (Some input) (Some left) text h = h.0

pub script_known : (a c : Option (List ℕ)) (text : List ℕ) → WhereKnown a c (IsFrontText text) → IfSome a (λ input. c ≡ Some (script_text input))
script_known None c text h = tt
script_known (Some input) None text h = absurd h
script_known (Some input) (Some left) text h = ap (λ (l : List ℕ). Some l) h.1
