-- Fields that were written are read again.
use Rattle.std.proofs.Common.{◌≡◌, ◌≢◌, ℕ, zero, suc, ◌+◌, ◌*◌, ◌-◌, ◌/◌, ◌<◌, ◌≤◌, ◌^◌, ◌==◌, ◌&&◌, Bool, true, false, not, nat_lt, nat_le, List, [], ◌∷◌, ◌++◌, length, drop, slice_index, Ok, refl, sym, ap, ◌∙◌, arith, add-one, length-append}
use Rattle.snapshot_format.proofs.Common.{AllByRecursion, prefix_len, list_all, decimal, digit_value, is_ascii_digit, is_ascii_alphanumeric, bytes_eq, eq-eqb, ne_eqb, lt-ltb, le-leb, take_at, Modem, address_field, bytes_text, IsModem}
use Rattle.std.specs.Str.Parse.{AllDigits, digits_value_after}
use Rattle.std.proofs.lemmas.Fmt.{decimal_is_IsNumeral}
use Rattle.std.proofs.lemmas.Str.{digit_value_digit}
use Rattle.std.proofs.lemmas.Str.Parse.{digit_from_value}
use Rattle.hex.specs.Hex.{IsBytes, encode_upper, encode_with, upper_digits, decode_sized}
use Rattle.hex.proofs.HexLemmas.{length-encode_with, decode_of-encode_upper, decode_sized-twice}
use Rattle.plant.specs.Name.{IsOperatorName, is_operator_name}
use Rattle.snapshot_format.specs.Fields.{take_field, digits_after, take_number, take_name, take_modem, take_bytes}

-- ---- a field up to the byte that ends it

abbrev pub HasNone : ℕ → List ℕ → Type 0
HasNone mark bytes = AllByRecursion (λ b. b ≢ mark) bytes

none_len : (mark : ℕ) (field rest : List ℕ) → HasNone mark field → prefix_len (λ b. not (b == mark)) (field ++ mark ∷ rest) ≡ length field
none_len mark [] rest none = rw (eq-eqb mark mark refl) refl
none_len mark (b ∷ field) rest none = let more = none_len mark field rest none.1 in rw (ne_eqb b mark none.0) (omega (arith, more))

past_end : (field : List ℕ) (mark : ℕ) (rest : List ℕ) → drop (suc (length field)) (field ++ mark ∷ rest) ≡ rest
past_end [] mark rest = refl
past_end (b ∷ field) mark rest = past_end field mark rest

pub field_back : (mark : ℕ) (field rest : List ℕ) → HasNone mark field → take_field mark (field ++ mark ∷ rest) ≡ Ok (field, rest)
unfolding take_field
field_back mark field rest none =
    let inside : nat_lt (length field) (length (field ++ mark ∷ rest)) ≡ true = lt-ltb _ _ (omega (arith, length-append field (mark ∷ rest))) in
    rw (none_len mark field rest none, inside, take_at field (mark ∷ rest) (length field) refl, add-one (length field), past_end field mark rest) refl

-- ---- numbers

grows : (n : ℕ) (digits : List ℕ) → n ≤ digits_value_after 10 n digits
grows n [] = omega arith
grows n (d ∷ digits) = let more = grows (n * 10 + digit_value d) digits in omega (arith, more)

next_digit : (most n d : ℕ) (digits : List ℕ) → is_ascii_digit d ≡ true → nat_le (n * 10 + (d - 48)) most ≡ true → digits_after most n (d ∷ digits) ≡ digits_after most (n * 10 + (d - 48)) digits
next_digit most n d digits digit small = rw (digit, small) refl

digits_back : (most n : ℕ) (digits : List ℕ) → AllDigits 10 digits → digits_value_after 10 n digits ≤ most → digits_after most n digits ≡ Ok (digits_value_after 10 n digits)
digits_back most n [] all few = refl
digits_back most n (d ∷ digits) all few =
    let range = digit_from_value d all.0 in
    let sum = digit_value_digit d range in
    let value : d - 48 ≡ digit_value d = omega (arith, sum) in
    let digit : is_ascii_digit d ≡ true = grind (arith, range) in
    let more = grows (n * 10 + digit_value d) digits in
    let within : n * 10 + digit_value d ≤ most = omega (arith, more, few) in
    let small : nat_le (n * 10 + (d - 48)) most ≡ true = ap (λ (k : ℕ). nat_le (n * 10 + k) most) value ∙ le-leb _ _ within in
    next_digit most n d digits digit small
    ∙ ap (λ (k : ℕ). digits_after most (n * 10 + k) digits) value
    ∙ digits_back most (n * 10 + digit_value d) digits all.1 few

digits_have_none : (mark : ℕ) (digits : List ℕ) → 10 < digit_value mark → AllDigits 10 digits → HasNone mark digits
digits_have_none mark [] gt all = tt
digits_have_none mark (d ∷ digits) gt all = ((λ e. let same : digit_value d ≡ digit_value mark = ap digit_value e in let lt = all.0 in omega (arith, same, lt)), digits_have_none mark digits gt all.1)

pub number_back : (most mark n : ℕ) (rest : List ℕ) → 10 < digit_value mark → n ≤ most → n < 2 ^ 64 → take_number most mark (decimal n ++ mark ∷ rest) ≡ Ok (n, rest)
unfolding take_number
number_back most mark n rest gt few small =
    let is = decimal_is_IsNumeral n small in
    let some : (length (decimal n) == 0) ≡ false = ne_eqb _ _ (λ e. let long = is.0.0 in omega (arith, e, long)) in
    let value : digits_after most 0 (decimal n) ≡ Ok n =
    digits_back most 0 (decimal n) is.0.1 (let v = is.1 in omega (arith, v, few)) ∙ ap (λ (k : ℕ). Ok k) is.1 in
    rw (field_back mark (decimal n) rest (digits_have_none mark (decimal n) gt is.0.1), some, value) refl

-- ---- names, addresses and bytes

letters_have_none : (mark : ℕ) (name : List ℕ) → is_ascii_alphanumeric mark ≡ false → list_all is_ascii_alphanumeric name ≡ true → HasNone mark name
letters_have_none mark [] no_letter all = tt
letters_have_none mark (c ∷ name) no_letter all = by (is_ascii_alphanumeric c) refl all (letters_have_none mark name no_letter)
  where
    by : (t : Bool) → is_ascii_alphanumeric c ≡ t → (t && list_all is_ascii_alphanumeric name) ≡ true → (list_all is_ascii_alphanumeric name ≡ true → HasNone mark name) → HasNone mark (c ∷ name)
    by true e h more = ((λ same. let letter : is_ascii_alphanumeric mark ≡ true = ap is_ascii_alphanumeric (sym same) ∙ e in cc), more h)
    by false e h more = absurd cc

pub name_is : (name : List ℕ) → IsOperatorName name → is_operator_name name ≡ true
unfolding is_operator_name
name_is name is = rw (le-leb _ _ is.some, le-leb _ _ is.few) is.letters

pub name_back : (mark : ℕ) (name rest : List ℕ) → is_ascii_alphanumeric mark ≡ false → IsOperatorName name → take_name mark (name ++ mark ∷ rest) ≡ Ok (name, rest)
unfolding take_name
name_back mark name rest no_letter is =
    rw (field_back mark name rest (letters_have_none mark name no_letter is.letters), name_is name is) refl

has_none_at : (mark : ℕ) (bytes : List ℕ) → 0 ≢ mark → HasNone mark bytes → (i : ℕ) → slice_index bytes i ≢ mark
has_none_at mark [] other none i = other
has_none_at mark (b ∷ bytes) other none zero = none.0
has_none_at mark (b ∷ bytes) other none (suc i) = has_none_at mark bytes other none.1 i

hex_has_none : (mark : ℕ) (bytes : List ℕ) → ((i : ℕ) → slice_index upper_digits i ≢ mark) → HasNone mark (encode_upper bytes)
unfolding encode_with
hex_has_none mark [] none = tt
hex_has_none mark (b ∷ bytes) none = (none _, (none _, hex_has_none mark bytes none))

abbrev pub IsOutside : ℕ → Type 0
IsOutside mark = (0 ≢ mark) × HasNone mark upper_digits

pub modem_back : (mark : ℕ) (modem : Modem) (rest : List ℕ) → IsOutside mark → IsModem modem → take_modem mark (address_field modem ++ mark ∷ rest) ≡ Ok (modem, rest)
unfolding take_modem
modem_back mark modem rest outside is =
    let twelve = length-encode_with upper_digits modem.0 in
    let six = is.six in
    let back : decode_sized (encode_upper modem.0) 6 ≡ Ok modem.0 =
    decode_sized-twice (encode_upper modem.0) 6 (omega (arith, twelve, six)) ∙ decode_of-encode_upper modem.0 is.bytes in
    rw (field_back mark (encode_upper modem.0) rest (hex_has_none mark modem.0 (has_none_at mark upper_digits outside.0 outside.1)), back) refl

no_dash : (b : ℕ) (bytes : List ℕ) → bytes_eq (encode_upper (b ∷ bytes)) (45 ∷ []) ≡ false
unfolding encode_with
no_dash b bytes = by (slice_index upper_digits (b / 16) == 45)
  where
    by : (t : Bool) → (t && false) ≡ false
    by true = refl
    by false = refl

pub bytes_back : (mark : ℕ) (bytes rest : List ℕ) → IsOutside mark → 45 ≢ mark → IsBytes bytes → take_bytes mark (bytes_text bytes ++ mark ∷ rest) ≡ Ok (bytes, rest)
unfolding take_bytes
bytes_back mark [] rest outside dash is = rw (field_back mark (45 ∷ []) rest (dash, tt)) refl
bytes_back mark (b ∷ bytes) rest outside dash is =
    rw (field_back mark (encode_upper (b ∷ bytes)) rest (hex_has_none mark (b ∷ bytes) (has_none_at mark upper_digits outside.0 outside.1)), no_dash b bytes, decode_of-encode_upper (b ∷ bytes) is) refl
