-- Texts in which no line of three dashes is.
use Rattle.std.proofs.Common.{◌≡◌, ◌≢◌, ℕ, zero, suc, ◌+◌, ◌<◌, ◌≤◌, ◌==◌, ◌&&◌, ◌||◌, Bool, true, false, cond, List, [], ◌∷◌, ◌++◌, length, take, drop, refl, sym, ap, ◌∙◌, arith, append_assoc, length-append, codes, nat_lt}
use Rattle.restart_laws.proofs.Common.{AllByRecursion, flat_map, bytes_eq, ne_eqb, ltb-true, ltb-false, take_at, drop_at, drop_all, bytes_eq-Decides}
use Rattle.line_service.specs.script.Input.{is_bar, before_bar, plant_text, script_text}

abbrev pub dashes : List ℕ
dashes = codes "---"

-- the dashes and the end of their line
abbrev pub bar : List ℕ → List ℕ
bar rest = dashes ++ 10 ∷ rest

-- ---- lines that are passed over

-- what is after the bytes begins a line, and no line of three dashes begins in them
abbrev pub IsPassed : List ℕ → Type 0
IsPassed bytes = (rest : List ℕ) → before_bar true (bytes ++ rest) ≡ length bytes + before_bar true rest

-- the same of the rest of a line, which ends the line
pub record IsRestOfLine (bytes : List ℕ) : Type 0 where
  pub past : (rest : List ℕ) → before_bar false (bytes ++ rest) ≡ length bytes + before_bar true rest

abbrev pub HasNoBreak : List ℕ → Type 0
HasNoBreak bytes = AllByRecursion (λ b. b ≢ 10) bytes

pub line_end : IsRestOfLine (10 ∷ [])
line_end = record { past = λ rest. refl }

walk : (bytes more : List ℕ) → HasNoBreak bytes → IsRestOfLine more → (rest : List ℕ) → before_bar false ((bytes ++ more) ++ rest) ≡ length (bytes ++ more) + before_bar true rest
walk [] more none after rest = after.past rest
walk (b ∷ bytes) more none after rest =
    ap (λ (t : Bool). 1 + before_bar t ((bytes ++ more) ++ rest)) (ne_eqb b 10 none.0) ∙ omega (arith, walk bytes more none.1 after rest)

pub goes_on : {more : List ℕ} (bytes : List ℕ) → HasNoBreak bytes → IsRestOfLine more → IsRestOfLine (bytes ++ more)
goes_on {more = more} bytes none after = record { past = walk bytes more none after }

pub line_passed : {bytes : List ℕ} (b : ℕ) → b ≢ 10 → b ≢ 45 → IsRestOfLine bytes → IsPassed (b ∷ bytes)
line_passed {bytes = bytes} b no_break no_dash after rest =
    let later = after.past rest in
    let dash : (b == 45) ≡ false = ne_eqb b 45 no_dash in
    let other : is_bar (b ∷ (bytes ++ rest)) ≡ false = rw dash refl in
    rw (other, ne_eqb b 10 no_break) (omega (arith, later))

pub none_passed : IsPassed []
none_passed rest = omega arith

pub both_passed : (bytes more : List ℕ) → IsPassed bytes → IsPassed more → IsPassed (bytes ++ more)
both_passed bytes more first second rest =
    ap (before_bar true) (append_assoc bytes more rest) ∙ omega (arith, first (more ++ rest), second rest, length-append bytes more)

pub each_passed : {A : Type 0} (Is : A → Type 0) (text : A → List ℕ) → ((x : A) → Is x → IsPassed (text x)) → (xs : List A) → AllByRecursion Is xs → IsPassed (flat_map text xs)
each_passed Is text one [] all = none_passed
each_passed Is text one (x ∷ xs) all = both_passed (text x) (flat_map text xs) (one x all.0) (each_passed Is text one xs all.1)

pub none_after : (a b : List ℕ) → HasNoBreak a → HasNoBreak b → HasNoBreak (a ++ b)
none_after [] b first second = second
none_after (x ∷ a) b first second = (first.0, none_after a b first.1 second)

-- ---- a text before a line of three dashes

-- after these bytes the first such line begins
abbrev pub IsBeforeBar : List ℕ → Type 0
IsBeforeBar bytes = (rest : List ℕ) → before_bar true (bytes ++ bar rest) ≡ length bytes

pub passed_before : (bytes : List ℕ) → IsPassed bytes → IsBeforeBar bytes
passed_before bytes passed rest = let all = passed (bar rest) in omega (arith, all)

pub before_more : (bytes more : List ℕ) → IsPassed bytes → IsBeforeBar more → IsBeforeBar (bytes ++ more)
before_more bytes more first second rest =
    let a = first (more ++ bar rest) in
    ap (before_bar true) (append_assoc bytes more (bar rest)) ∙ omega (arith, a, second rest, length-append bytes more)

pub text_before : (bytes rest : List ℕ) → IsBeforeBar bytes → plant_text (bytes ++ bar rest) ≡ bytes
unfolding plant_text
text_before bytes rest before = ap (λ (n : ℕ). take n (bytes ++ bar rest)) (before rest) ∙ take_at bytes (bar rest) (length bytes) refl

pub text_after : (bytes rest : List ℕ) → IsBeforeBar bytes → script_text (bytes ++ bar rest) ≡ rest
unfolding script_text
text_after bytes rest before =
    ap (λ (n : ℕ). drop (n + 4) (bytes ++ bar rest)) (before rest)
    ∙ (ap (drop (length bytes + 4)) (sym (append_assoc bytes (bar []) rest))
    ∙ drop_at (bytes ++ bar []) rest (length bytes + 4) (length-append bytes (bar [])))

-- ---- whatever is after it

long_no_bar : (bytes : List ℕ) → 4 ≤ length bytes → bytes_eq bytes dashes ≡ false
long_no_bar bytes long = by (bytes_eq bytes dashes) refl
  where
    by : (t : Bool) → bytes_eq bytes dashes ≡ t → t ≡ false
    by true e = let same : length bytes ≡ 3 = ap length ((bytes_eq-Decides bytes dashes).0 e) in absurd (omega (arith, same, long))
    by false e = refl

-- the first four bytes of a text that a line of dashes is after
four : (b : ℕ) (bytes rest other : List ℕ) → take 4 (b ∷ (bytes ++ bar rest)) ≡ take 4 (b ∷ (bytes ++ bar other))
four b [] rest other = refl
four b (c ∷ []) rest other = refl
four b (c ∷ d ∷ []) rest other = refl
four b (c ∷ d ∷ e ∷ bytes) rest other = refl

same_bar : (b : ℕ) (bytes rest other : List ℕ) → is_bar (b ∷ (bytes ++ bar rest)) ≡ is_bar (b ∷ (bytes ++ bar other))
same_bar b bytes rest other =
    let long = length-append bytes (bar rest) in
    let more = length-append bytes (bar other) in
    let one : bytes_eq (b ∷ (bytes ++ bar rest)) dashes ≡ false = long_no_bar (b ∷ (bytes ++ bar rest)) (omega (arith, long)) in
    let two : bytes_eq (b ∷ (bytes ++ bar other)) dashes ≡ false = long_no_bar (b ∷ (bytes ++ bar other)) (omega (arith, more)) in
    ap (λ (t : Bool). t || bytes_eq (take 4 (b ∷ (bytes ++ bar rest))) (dashes ++ 10 ∷ [])) (one ∙ sym two)
    ∙ ap (λ (bs : List ℕ). bytes_eq (b ∷ (bytes ++ bar other)) dashes || bytes_eq bs (dashes ++ 10 ∷ [])) (four b bytes rest other)

-- where a text is before a line of dashes, it is so whatever is after that line
pub whatever_after : (begins : Bool) (bytes rest other : List ℕ) → before_bar begins (bytes ++ bar rest) ≡ length bytes → before_bar begins (bytes ++ bar other) ≡ length bytes
whatever_after true [] rest other e = refl
whatever_after false [] rest other e = absurd (let wrong : 1 + before_bar false (45 ∷ 45 ∷ 10 ∷ rest) ≡ 0 = e in omega (arith, wrong))
whatever_after false (b ∷ bytes) rest other e =
    let before : 1 + before_bar (b == 10) (bytes ++ bar rest) ≡ suc (length bytes) = e in
    omega (arith, whatever_after (b == 10) bytes rest other (omega (arith, before)))
whatever_after true (b ∷ bytes) rest other e = by (is_bar (b ∷ (bytes ++ bar rest))) refl (whatever_after (b == 10) bytes rest other)
  where
    by : (t : Bool) → is_bar (b ∷ (bytes ++ bar rest)) ≡ t → (before_bar (b == 10) (bytes ++ bar rest) ≡ length bytes → before_bar (b == 10) (bytes ++ bar other) ≡ length bytes)
        → before_bar true (b ∷ (bytes ++ bar other)) ≡ suc (length bytes)
    by true is later =
        let wrong : 0 ≡ suc (length bytes) = sym (ap (λ (t : Bool). cond t 0 (1 + before_bar (b == 10) (bytes ++ bar rest))) is) ∙ e in
        absurd (omega (arith, wrong))
    by false is later =
        let before : 1 + before_bar (b == 10) (bytes ++ bar rest) ≡ suc (length bytes) = sym (ap (λ (t : Bool). cond t 0 (1 + before_bar (b == 10) (bytes ++ bar rest))) is) ∙ e in
        let after = later (omega (arith, before)) in
        ap (λ (t : Bool). cond t 0 (1 + before_bar (b == 10) (bytes ++ bar other))) (sym (same_bar b bytes rest other) ∙ is) ∙ omega (arith, after)

most_before : (begins : Bool) (bytes : List ℕ) → before_bar begins bytes ≤ length bytes
most_before begins [] = omega arith
most_before begins (b ∷ bytes) = by (begins && is_bar (b ∷ bytes)) (most_before (b == 10) bytes)
  where
    by : (t : Bool) → before_bar (b == 10) bytes ≤ length bytes → cond t 0 (1 + before_bar (b == 10) bytes) ≤ suc (length bytes)
    by true le = omega arith
    by false le = omega arith

length_take : (n : ℕ) (bytes : List ℕ) → n ≤ length bytes → length (take n bytes) ≡ n
length_take zero bytes le = refl
length_take (suc n) [] le = absurd (omega arith)
length_take (suc n) (b ∷ bytes) le = let more = length_take n bytes (omega arith) in omega (arith, more)

-- a text that the reader gives back before a line of dashes
pub read_before : (bytes rest : List ℕ) → plant_text (bytes ++ bar rest) ≡ bytes → IsBeforeBar bytes
unfolding plant_text
read_before bytes rest e other =
    let most = most_before true (bytes ++ bar rest) in
    whatever_after true bytes rest other (sym (length_take (before_bar true (bytes ++ bar rest)) (bytes ++ bar rest) most) ∙ ap length e)

-- ---- a text that has such a line

-- the line is there, where more than it is after the text
split : (begins : Bool) (bytes : List ℕ) → before_bar begins bytes + 4 < length bytes → bytes ≡ take (before_bar begins bytes) bytes ++ bar (drop (before_bar begins bytes + 4) bytes)
split begins [] lt = absurd (omega arith)
split false (b ∷ bytes) lt =
    let lt' : 1 + before_bar (b == 10) bytes + 4 < suc (length bytes) = lt in
    ap (λ (bs : List ℕ). b ∷ bs) (split (b == 10) bytes (omega (arith, lt')))
    ∙ (λ k. take (one k) (b ∷ bytes) ++ bar (drop (five k) (b ∷ bytes)))
  where
    one : suc (before_bar (b == 10) bytes) ≡ 1 + before_bar (b == 10) bytes
    one = omega arith

    five : suc (before_bar (b == 10) bytes + 4) ≡ 1 + before_bar (b == 10) bytes + 4
    five = omega arith
split true (b ∷ bytes) lt = by (is_bar (b ∷ bytes)) refl lt (split (b == 10) bytes)
  where
    one : suc (before_bar (b == 10) bytes) ≡ 1 + before_bar (b == 10) bytes
    one = omega arith

    five : suc (before_bar (b == 10) bytes + 4) ≡ 1 + before_bar (b == 10) bytes + 4
    five = omega arith

    here : 4 < length (b ∷ bytes) → is_bar (b ∷ bytes) ≡ true → b ∷ bytes ≡ bar (drop 4 (b ∷ bytes))
    here lt is =
        let long : bytes_eq (b ∷ bytes) dashes ≡ false = long_no_bar (b ∷ bytes) (omega (arith, lt)) in
        let four : bytes_eq (take 4 (b ∷ bytes)) (dashes ++ 10 ∷ []) ≡ true = sym (ap (λ (t : Bool). t || bytes_eq (take 4 (b ∷ bytes)) (dashes ++ 10 ∷ [])) long) ∙ is in
        sym (take_drop 4 (b ∷ bytes)) ∙ ap (λ (bs : List ℕ). bs ++ drop 4 (b ∷ bytes)) ((bytes_eq-Decides (take 4 (b ∷ bytes)) (dashes ++ 10 ∷ [])).0 four)
      where
        take_drop : (n : ℕ) (bs : List ℕ) → take n bs ++ drop n bs ≡ bs
        take_drop zero bs = refl
        take_drop (suc n) [] = refl
        take_drop (suc n) (x ∷ bs) = ap (λ (l : List ℕ). x ∷ l) (take_drop n bs)

    by : (t : Bool) → is_bar (b ∷ bytes) ≡ t → cond t 0 (1 + before_bar (b == 10) bytes) + 4 < length (b ∷ bytes)
        → (before_bar (b == 10) bytes + 4 < length bytes → bytes ≡ take (before_bar (b == 10) bytes) bytes ++ bar (drop (before_bar (b == 10) bytes + 4) bytes))
        → b ∷ bytes ≡ take (cond t 0 (1 + before_bar (b == 10) bytes)) (b ∷ bytes) ++ bar (drop (cond t 0 (1 + before_bar (b == 10) bytes) + 4) (b ∷ bytes))
    by true is lt later = here (omega (arith, lt)) is
    by false is lt later =
        ap (λ (bs : List ℕ). b ∷ bs) (later (omega (arith, lt)))
        ∙ (λ k. take (one k) (b ∷ bytes) ++ bar (drop (five k) (b ∷ bytes)))

more_than : (n : ℕ) (bytes : List ℕ) → drop n bytes ≢ [] → n < length bytes
more_than n bytes some = by (nat_lt n (length bytes)) refl
  where
    by : (t : Bool) → nat_lt n (length bytes) ≡ t → n < length bytes
    by true e = ltb-true n (length bytes) e
    by false e = absurd (some (drop_all n bytes (ltb-false n (length bytes) e)))

-- the text before a line that more is after
pub front_before : (input : List ℕ) → script_text input ≢ [] → IsBeforeBar (plant_text input)
unfolding plant_text script_text
front_before input some =
    let n = before_bar true input in
    let whole : input ≡ take n input ++ bar (drop (n + 4) input) = split true input (more_than (n + 4) input some) in
    let again : take (before_bar true (take n input ++ bar (drop (n + 4) input))) (take n input ++ bar (drop (n + 4) input)) ≡ take n input =
    ap (λ (bs : List ℕ). take (before_bar true bs) bs) (sym whole) in
    read_before (take n input) (drop (n + 4) input) again
