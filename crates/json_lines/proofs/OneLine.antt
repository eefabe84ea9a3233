-- The text of an object that the program writes has no line feed, and reads as the object.
use Rattle.std.proofs.Common.{◌≡◌, ◌≢◌, ◌≤◌, ◌<◌, ◌+◌, ◌/◌, ◌%◌, ◌^◌, ◌++◌, ℕ, Bool, true, false, cond, List, [], ◌∷◌, Some, arith, refl, sym, subst, Result, Ok, Err, IfOk, OnOk}
use Rattle.std.specs.Prelude.{◌||◌, ◌==◌, nat_lt}
use Rattle.std.proofs.lemmas.Bool.{false≢true, true≢false}
use Rattle.std.proofs.lemmas.Fmt.{decimal_by_steps}
use Rattle.std.specs.Fmt.{decimal}
use Rattle.std.specs.Char.{digit_char}
use Rattle.json.specs.Print.{escape_letter, escape_byte, escape, quoted}
use Rattle.serde_json.specs.Data.{Data, null, boolean, number, string, array, object, unsigned, negative, float, Items, no_items, item, Members, no_members, member, depth}
use Rattle.serde_json.specs.Read.{read, max_depth}
use Rattle.serde_json.specs.Written.{has_float, items_have_float, members_have_float, comma_if, compact_text, items_text, members_text}
use Rattle.json_lines.specs.Writable.{IsText, AreTexts, IsWritable, AreWritable}
use Rattle.json_lines.specs.Written.{IsOneLine, IsObjectOf}
use Rattle.json_lines.proofs.Puts.{writable_depth}

-- ---- texts that are joined

joined : (s t : List ℕ) → IsOneLine s → IsOneLine t → IsOneLine (s ++ t)
joined [] t first then = then
joined (b ∷ s) t first then = (first.0, joined s t first.1 then)

chosen : (b : Bool) (s t : List ℕ) → (b ≡ true → IsOneLine s) → (b ≡ false → IsOneLine t) → IsOneLine (cond b s t)
chosen true s t on off = on refl
chosen false s t on off = off refl

chosen_byte : (b : Bool) (m n : ℕ) → (b ≡ true → m ≢ 10) → n ≢ 10 → cond b m n ≢ 10
chosen_byte true m n on off = on refl
chosen_byte false m n on off = off

-- ---- a string

marked : (x : ℕ) → ((x == 34) || (x == 92)) ≡ true → x ≢ 10
marked x is ten = false≢true (subst (λ n. ((n == 34) || (n == 92)) ≡ true) ten is)

above : (x : ℕ) → nat_lt x 32 ≡ false → x ≢ 10
above x is ten = true≢false (subst (λ n. nat_lt n 32 ≡ false) ten is)

ne : (n : ℕ) → 11 ≤ n → n ≢ 10
ne n great is = omega arith

zero_ne : ◌≢◌ {A = ℕ} 0 10
zero_ne is = omega arith

letter : (x : ℕ) → escape_letter x ≢ 10
letter x =
    chosen_byte ((x == 34) || (x == 92)) x _ (marked x)
    (chosen_byte (x == 8) 98 _ (λ is. ne 98 (omega arith))
    (chosen_byte (x == 12) 102 _ (λ is. ne 102 (omega arith))
    (chosen_byte (x == 10) 110 _ (λ is. ne 110 (omega arith))
    (chosen_byte (x == 13) 114 _ (λ is. ne 114 (omega arith))
    (chosen_byte (x == 9) 116 0 (λ is. ne 116 (omega arith)) zero_ne)))))

digit : (d : ℕ) → digit_char d ≢ 10
digit d = chosen_byte (nat_lt d 10) (48 + d) (87 + d) (λ is. ne (48 + d) (omega arith)) (ne (87 + d) (omega arith))

short_escape : (x : ℕ) → IsOneLine (92 ∷ escape_letter x ∷ [])
short_escape x = (ne 92 (omega arith), (letter x, tt))

long_escape : (m n : ℕ) → IsOneLine (92 ∷ 117 ∷ 48 ∷ 48 ∷ digit_char m ∷ digit_char n ∷ [])
long_escape m n = (ne 92 (omega arith), (ne 117 (omega arith), (ne 48 (omega arith), (ne 48 (omega arith), (digit m, (digit n, tt))))))

byte : (x : ℕ) → IsOneLine (escape_byte x)
unfolding escape_byte
byte x =
    chosen (nat_lt 0 (escape_letter x)) (92 ∷ escape_letter x ∷ []) _ (λ is. short_escape x)
    (λ is. chosen (nat_lt x 32) (92 ∷ 117 ∷ 48 ∷ 48 ∷ digit_char (x / 16) ∷ digit_char (x % 16) ∷ []) (x ∷ [])
    (λ low. long_escape (x / 16) (x % 16)) (λ high. (above x high, tt)))

escaped : (s : List ℕ) → IsOneLine (escape s)
escaped [] = tt
escaped (x ∷ s) = joined (escape_byte x) (escape s) (byte x) (escaped s)

string_line : (s : List ℕ) → IsOneLine (quoted s)
string_line s = (ne 34 (omega arith), joined (escape s) (34 ∷ []) (escaped s) (ne 34 (omega arith), tt))

-- ---- a number

number_line : (n : ℕ) → n < 2 ^ 64 → IsOneLine (decimal n)
number_line n small = decimal_by_steps (λ m ds. IsOneLine ds) (λ m few. (ne (48 + m) (omega arith), tt))
    (λ m ds many so. joined ds ((48 + m % 10) ∷ []) so (ne (48 + m % 10) (omega arith), tt)) n small

-- ---- a value

comma : (later : Bool) → IsOneLine (comma_if later)
comma true = (ne 44 (omega arith), tt)
comma false = tt

text_line : (d : Data) → IsText d → IsOneLine (compact_text d)
text_line (string s) is = string_line s
text_line null is = absurd is
text_line (boolean b) is = absurd is
text_line (number n) is = absurd is
text_line (array ds) is = absurd is
text_line (object ms) is = absurd is

texts_line : (later : Bool) (ds : Items) → AreTexts ds → IsOneLine (items_text later ds)
texts_line later no_items are = (ne 93 (omega arith), tt)
texts_line later (item d ds) are =
    joined (comma_if later) _ (comma later) (joined (compact_text d) _ (text_line d are.0) (texts_line true ds are.1))

value_line : (d : Data) → IsWritable d → IsOneLine (compact_text d)
value_line (string s) is = string_line s
value_line (number (unsigned n)) is = number_line n is
value_line (array ds) is = (ne 91 (omega arith), texts_line false ds is)
value_line null is = absurd is
value_line (boolean b) is = absurd is
value_line (number (negative z)) is = absurd is
value_line (number (float x)) is = absurd is
value_line (object ms) is = absurd is

members_line : (later : Bool) (ms : Members) → AreWritable ms → IsOneLine (members_text later ms)
members_line later no_members are = (ne 125 (omega arith), tt)
members_line later (member k d ms) are =
    joined (comma_if later) _ (comma later) (joined (quoted k) _ (string_line k)
    (ne 58 (omega arith), joined (compact_text d) _ (value_line d are.0) (members_line true ms are.1)))

-- ---- no number is a float

text_exact : (d : Data) → IsText d → has_float d ≡ false
text_exact (string s) is = refl
text_exact null is = absurd is
text_exact (boolean b) is = absurd is
text_exact (number n) is = absurd is
text_exact (array ds) is = absurd is
text_exact (object ms) is = absurd is

texts_exact : (ds : Items) → AreTexts ds → items_have_float ds ≡ false
texts_exact no_items are = refl
texts_exact (item d ds) are = rw (text_exact d are.0, texts_exact ds are.1)

value_exact : (d : Data) → IsWritable d → has_float d ≡ false
value_exact (string s) is = refl
value_exact (number (unsigned n)) is = refl
value_exact (array ds) is = texts_exact ds is
value_exact null is = absurd is
value_exact (boolean b) is = absurd is
value_exact (number (negative z)) is = absurd is
value_exact (number (float x)) is = absurd is
value_exact (object ms) is = absurd is

members_exact : (ms : Members) → AreWritable ms → members_have_float ms ≡ false
members_exact no_members are = refl
members_exact (member k d ms) are = rw (value_exact d are.0, members_exact ms are.1)

-- ---- an object

-- what is written of an object
pub object_line : (ms : Members) (text : List ℕ) → AreWritable ms
    → (has_float (object ms) ≡ false → text ≡ compact_text (object ms))
    → (depth (object ms) ≤ max_depth → read text ≡ Some (object ms)) → IsObjectOf ms text
object_line ms text are exact back = record {
  is_read = back (omega (arith, writable_depth ms are));
  in_one_line = subst IsOneLine (sym (exact (members_exact ms are))) (ne 123 (omega arith), members_line false ms are);
}

-- ---- what is returned

pub returned : {A E : Type 0} (r : Result A E) (bytes : A → List ℕ) (ms : Members) (d : Data) → d ≡ object ms → AreWritable ms
    → IfOk r (λ s. has_float d ≡ false → bytes s ≡ compact_text d)
    → IfOk r (λ s. depth d ≤ max_depth → read (bytes s) ≡ Some d) → IfOk r (λ s. IsObjectOf ms (bytes s))
returned (Ok s) bytes ms d is are exact back =
    object_line ms (bytes s) are (subst (λ e. has_float e ≡ false → bytes s ≡ compact_text e) is exact)
    (subst (λ e. depth e ≤ max_depth → read (bytes s) ≡ Some e) is back)
returned (Err e) bytes ms d is are exact back = tt

pub on_ok : {A E : Type 0} (P : Type 0) (r : Result A E) (x : A) → r ≡ Ok x → OnOk r P → P
on_ok P r x is on = subst (λ s. OnOk s P) is on
