-- What stands before a line of three dashes is text.
use Rattle.std.proofs.Common.{◌≡◌, ℕ, zero, suc, ◌+◌, ◌-◌, ◌<◌, ◌≤◌, ◌==◌, ◌&&◌, Bool, true, false, List, [], ◌∷◌, length, take, drop, length-drop, nat_lt, get_or, refl, sym, ap, subst, add-one, ◌∙◌, arith}
use Rattle.std.proofs.lemmas.Bool.Decides.{nat_tests}
use Rattle.line_service.proofs.ScriptLemmas.Common.{IsUtf8, is_utf8, IsCharBoundary, slice_range, take_all, drop-drop, false_from_ne_true, Nowhere, NoneBefore, Passes, is_byte}
use Rattle.std.proofs.lemmas.Str.{IsUtf8-from_is_utf8, IsUtf8-take, IsCharBoundary-before_ascii, IsCharBoundary-end}
use Rattle.line_service.specs.script.Input.{is_bar, before_bar}

-- a bar begins with a dash
bar_dash : (b : ℕ) (bytes : List ℕ) → is_bar (b ∷ bytes) ≡ true → b ≡ 45
bar_dash b bytes e = grind (arith, nat_tests, e)

right_of : (a b : Bool) → (a && b) ≡ true → b ≡ true
right_of true b e = e
right_of false b e = absurd cc

-- a dash stands at the place, or the bytes end there
at_bar : (begins : Bool) (bytes : List ℕ) → before_bar begins bytes < length bytes → get_or bytes (before_bar begins bytes) 0 ≡ 45
at_bar begins [] lt = omega (arith, lt)
at_bar begins (b ∷ bytes) lt = cases (at_bar (b == 10) bytes) (begins && is_bar (b ∷ bytes)) refl where
  cases : (before_bar (b == 10) bytes < length bytes → get_or bytes (before_bar (b == 10) bytes) 0 ≡ 45)
      → (t : Bool) → (begins && is_bar (b ∷ bytes)) ≡ t → get_or (b ∷ bytes) (before_bar begins (b ∷ bytes)) 0 ≡ 45
  cases later true e =
      let here : before_bar begins (b ∷ bytes) ≡ 0 = rw e refl in
      ap (λ (n : ℕ). get_or (b ∷ bytes) n 0) here ∙ bar_dash b bytes (right_of begins (is_bar (b ∷ bytes)) e)
  cases later false e =
      let next : before_bar begins (b ∷ bytes) ≡ suc (before_bar (b == 10) bytes) = rw e (omega arith) in
      ap (λ (n : ℕ). get_or (b ∷ bytes) n 0) next ∙ later (omega (arith, lt, next))

pub utf8_before : (bytes : List ℕ) (place : ℕ) → is_utf8 bytes ≡ true → place ≡ before_bar true bytes → place ≤ length bytes → IsUtf8 (take place bytes)
utf8_before bytes place utf8 place_is inside = IsUtf8-take bytes place (IsUtf8-from_is_utf8 bytes utf8) (cases (nat_lt place (length bytes)) refl) where
  cases : (t : Bool) → nat_lt place (length bytes) ≡ t → IsCharBoundary bytes place
  cases true e =
      let lt : place < length bytes = grind (arith, nat_tests, e) in
      let dash : get_or bytes place 0 ≡ 45 = ap (λ (n : ℕ). get_or bytes n 0) place_is ∙ at_bar true bytes (subst (λ (n : ℕ). n < length bytes) place_is lt) in
      IsCharBoundary-before_ascii bytes place lt (omega (arith, dash))
  cases false e =
      let past : length bytes ≤ place = grind (arith, nat_tests, e) in
      let end : place ≡ length bytes = omega arith in
      subst (λ (n : ℕ). IsCharBoundary bytes n) (sym end) (IsCharBoundary-end bytes)

-- ---- one line after the other

bar_by : (begins : Bool) (b : ℕ) (bytes : List ℕ) → (begins && is_bar (b ∷ bytes)) ≡ false → before_bar begins (b ∷ bytes) ≡ 1 + before_bar (b == 10) bytes
bar_by begins b bytes e = rw e refl

-- within a line, up to its end
in_line : (xs : List ℕ) (place : ℕ) → place < length xs → Nowhere (Passes (is_byte 10) xs) 0 place → Passes (is_byte 10) xs place
    → before_bar false xs ≡ suc place + before_bar true (drop (suc place) xs)
in_line [] place lt none is = absurd (omega arith)
in_line (b ∷ bytes) zero lt none is = bar_by false b bytes refl ∙ ap (λ (t : Bool). 1 + before_bar t bytes) is
in_line (b ∷ bytes) (suc place) lt none is =
    let other : (b == 10) ≡ false = false_from_ne_true (b == 10) (λ hit. none 0 (omega arith) (omega arith) hit) in
    let later = in_line bytes place (omega (arith, lt)) (λ k low high hit. none (suc k) (omega arith) (omega (arith, high)) hit) is in
    bar_by false b bytes refl ∙ ap (λ (t : Bool). 1 + before_bar t bytes) other ∙ ap (λ (n : ℕ). 1 + n) later ∙ omega arith

no_line : (xs : List ℕ) → Nowhere (Passes (is_byte 10) xs) 0 (length xs) → before_bar false xs ≡ length xs
no_line [] none = refl
no_line (b ∷ bytes) none =
    let other : (b == 10) ≡ false = false_from_ne_true (b == 10) (λ hit. none 0 (omega arith) (omega arith) hit) in
    let later = no_line bytes (λ k low high hit. none (suc k) (omega arith) (omega (arith, high)) hit) in
    bar_by false b bytes refl ∙ ap (λ (t : Bool). 1 + before_bar t bytes) other ∙ ap (λ (n : ℕ). 1 + n) later ∙ omega arith

-- a line that is none of three dashes is as the rest of one
other_line : (xs : List ℕ) → is_bar xs ≡ false → before_bar true xs ≡ before_bar false xs
other_line [] e = refl
other_line (b ∷ bytes) e = bar_by true b bytes e ∙ sym (bar_by false b bytes refl)

bar_later : (rest : List ℕ) (start total place : ℕ) → is_bar rest ≡ false
    → NoneBefore (Passes (is_byte 10) rest) 0 (length rest) place × Passes (is_byte 10) rest place
    → start + before_bar true rest ≡ total → start + (place + 1) + before_bar true (drop (place + 1) rest) ≡ total
bar_later rest start total place other found so_far =
    let step = other_line rest other ∙ in_line rest place found.0.high found.0.before found.1 in
    let same : before_bar true (drop (place + 1) rest) ≡ before_bar true (drop (suc place) rest) = ap (λ (n : ℕ). before_bar true (drop n rest)) (add-one place) in
    omega (arith, step, same, so_far)

bar_nowhere : (rest : List ℕ) (start total : ℕ) → is_bar rest ≡ false → Nowhere (Passes (is_byte 10) rest) 0 (length rest)
    → start + before_bar true rest ≡ total → start + length rest ≡ total
bar_nowhere rest start total other none so_far =
    let step = other_line rest other ∙ no_line rest none in
    omega (arith, step, so_far)

module _ (input : List ℕ) (start : ℕ) (inside : start ≤ length input) (other : is_bar (slice_range input start (length input)) ≡ false)
    (so_far : start + before_bar true (drop start input) ≡ before_bar true input) where
  abbrev rest : List ℕ
  rest = slice_range input start (length input)

  rest_is : rest ≡ drop start input
  rest_is = take_all (length input - start) (drop start input) (let left = length-drop start input in omega (arith, left))

  rest_length : length rest ≡ length input - start
  rest_length = ap length rest_is ∙ length-drop start input

  rest_so_far : start + before_bar true rest ≡ before_bar true input
  rest_so_far = ap (λ (xs : List ℕ). start + before_bar true xs) rest_is ∙ so_far

  pub next_bar : (place : ℕ) → NoneBefore (Passes (is_byte 10) (slice_range input start (length input))) 0 (length (slice_range input start (length input))) place × Passes (is_byte 10) (slice_range input start (length input)) place
      → (start + (place + 1) ≤ length input) × (start + (place + 1) + before_bar true (drop (start + (place + 1)) input) ≡ before_bar true input)
  next_bar place found =
      let high : place < length rest = found.0.high in
      let later = bar_later rest start (before_bar true input) place other found rest_so_far in
      let next : drop (place + 1) rest ≡ drop (start + (place + 1)) input = ap (drop (place + 1)) rest_is ∙ drop-drop (place + 1) start input in
      (omega (arith, rest_length, high, inside), ap (λ (xs : List ℕ). start + (place + 1) + before_bar true xs) (sym next) ∙ later)

  pub no_bar : Nowhere (Passes (is_byte 10) (slice_range input start (length input))) 0 (length (slice_range input start (length input))) → length input ≡ before_bar true input
  no_bar none =
      let all = bar_nowhere rest start (before_bar true input) other none rest_so_far in
      omega (arith, all, rest_length, inside)
