-- Fields that have no space in them, and a line's first space.
use Rattle.std.proofs.Common.{◌≡◌, ℕ, zero, suc, ◌+◌, ◌-◌, ◌*◌, ◌<◌, ◌==◌, ◌⊎◌, inl, inr, Bool, true, false, ◌&&◌, nat_le, List, [], ◌∷◌, length, take, drop, slice_index, Option, Some, None, Result, Ok, Err, if◌then◌else◌, codes, refl, sym, ap, ◌∙◌, arith}
use Rattle.line_service.proofs.ScriptLemmas.Common.{is_ascii_digit, AllPass, bytes_eq, and_parts, eqb-true, false_from_ne_true, bytes_eq-Decides, Nowhere, NoneBefore, Passes, is_byte, decode_of, decode_sized, is_hex_digit, FromHexError, decode_of-ok, decode_sized-ok, decode_sized-twice, message_in, ◌>>=◌, Number, required_field, number_after, decimal_in, of_digits, short_in, message_bytes}
use Rattle.std.specs.Result.{result_ok}
use Rattle.line_service.specs.script.Lines.{parts_of}
use Rattle.line_service.specs.declared.script.fields.NumberName.{NumberName}
use Rattle.line_service.proofs.ScriptLemmas.Splits.{split_first}

-- ---- no space

abbrev pub NoSpace : List ℕ → Type 0
NoSpace line = Nowhere (Passes (is_byte 32) line) 0 (length line)

NoSpace-cons : (b : ℕ) (bytes : List ℕ) → (b == 32) ≡ false → NoSpace bytes → NoSpace (b ∷ bytes)
NoSpace-cons b bytes other none zero low high hit = cc
NoSpace-cons b bytes other none (suc k) low high hit = none k (omega arith) (omega (arith, high)) hit

not_space : (test : ℕ → Bool) (b : ℕ) → test 32 ≡ false → test b ≡ true → (b == 32) ≡ false
not_space test b fails passes = false_from_ne_true (b == 32) (λ hit. let same = ap test (eqb-true b 32 hit) in cc)

digits_spaceless : (bytes : List ℕ) → AllPass is_hex_digit bytes → NoSpace bytes
digits_spaceless bytes all k low high hit = let one = all k 0 high in let other = not_space is_hex_digit (slice_index bytes k) refl one in cc

-- what is read as a message has no space in it
pub bytes_spaceless : (field bytes : List ℕ) → message_bytes field ≡ Some bytes → NoSpace field
bytes_spaceless field bytes h = some (length field == 0) h where
  digits : (r : Result (List ℕ) FromHexError) → decode_of field ≡ r → result_ok r ≡ Some bytes → NoSpace field
  digits (Ok read) e is = digits_spaceless field (decode_of-ok field read e).1
  digits (Err fault) e is = absurd cc

  dash : (t : Bool) → bytes_eq field (codes "-") ≡ t → (if t then Some [] else result_ok (decode_of field)) ≡ Some bytes → NoSpace field
  dash true e is = rw ((bytes_eq-Decides field (codes "-")).0 e) (NoSpace-cons 45 [] refl (λ k low high. absurd (omega arith)))
  dash false e is = digits (decode_of field) refl is

  some : (t : Bool) → (if t then None else message_in field) ≡ Some bytes → NoSpace field
  some true is = absurd cc
  some false is = dash (bytes_eq field (codes "-")) refl is

number_spaceless : (most number : ℕ) (field : List ℕ) (value : ℕ) → number_after most number field ≡ Some value → NoSpace field
number_spaceless most number [] value h = λ k low high. absurd (omega arith)
number_spaceless most number (d ∷ digits) value h =
    one (is_ascii_digit d && nat_le (number * 10 + (d - 48)) most) refl (number_spaceless most (number * 10 + (d - 48)) digits value) h where
      one : (t : Bool) → (is_ascii_digit d && nat_le (number * 10 + (d - 48)) most) ≡ t → (number_after most (number * 10 + (d - 48)) digits ≡ Some value → NoSpace digits)
          → (if t then number_after most (number * 10 + (d - 48)) digits else None) ≡ Some value → NoSpace (d ∷ digits)
      one true e others is = NoSpace-cons d digits (not_space is_ascii_digit d refl (and_parts (is_ascii_digit d) (nat_le (number * 10 + (d - 48)) most) e).0) (others is)
      one false e others is = absurd cc

decimal_spaceless : (most : ℕ) (field : List ℕ) (value : ℕ) → decimal_in most field ≡ Some value → NoSpace field
decimal_spaceless most field value h = one (length field == 0) h where
  one : (t : Bool) → (if t then None else number_after most 0 field) ≡ Some value → NoSpace field
  one true is = absurd cc
  one false is = number_spaceless most 0 field value is

-- what is read as a number has no space in it
pub short_spaceless : (place : ℕ) (name : NumberName) (field : List ℕ) (value : ℕ) → short_in place name field ≡ Ok value → NoSpace field
short_spaceless place name field value h = one (decimal_in 65535 field) refl h where
  one : (o : Option ℕ) → decimal_in 65535 field ≡ o → (required_field (Number place name 65535) o >>= of_digits place name 5 field) ≡ Ok value → NoSpace field
  one (Some number) e is = decimal_spaceless 65535 field number e
  one None e is = absurd cc

-- so has what is read as so many bytes
pub sized_spaceless : (field : List ℕ) (n : ℕ) (bytes : List ℕ) → decode_sized field n ≡ Ok bytes → NoSpace field
sized_spaceless field n bytes h =
    digits_spaceless field (decode_of-ok field bytes (sym (decode_sized-twice field n (decode_sized-ok field n bytes h)) ∙ h)).1

-- ---- the first space

abbrev pub IsFirstSpace : List ℕ → ℕ → Type 0
IsFirstSpace line place = NoneBefore (Passes (is_byte 32) line) 0 (length line) place × Passes (is_byte 32) line place

abbrev pub SomeSpace : List ℕ → Type 0
SomeSpace line = (place : ℕ) × IsFirstSpace line place

pub first_space : (line : List ℕ) → NoSpace line ⊎ SomeSpace line
first_space [] = inl (λ k low high. absurd (omega arith))
first_space (b ∷ bytes) = cases (b == 32) refl (first_space bytes) where
  later : (place : ℕ) → (b == 32) ≡ false → Nowhere (Passes (is_byte 32) bytes) 0 place → Nowhere (Passes (is_byte 32) (b ∷ bytes)) 0 (suc place)
  later place other none zero low high hit = cc
  later place other none (suc k) low high hit = none k (omega arith) (omega (arith, high)) hit

  cases : (t : Bool) → (b == 32) ≡ t → NoSpace bytes ⊎ SomeSpace bytes → NoSpace (b ∷ bytes) ⊎ SomeSpace (b ∷ bytes)
  cases true e more = inr (0, (record { low = omega arith; high = omega arith; before = λ k low high. absurd (omega arith) }, e))
  cases false e (inl none) = inl (NoSpace-cons b bytes e none)
  cases false e (inr some) =
      let lt : some.0 < length bytes = some.1.0.high in
      inr (suc some.0, (record { low = omega arith; high = omega (arith, lt); before = later some.0 e some.1.0.before }, some.1.1))

-- the fields of a line that has a space
pub fields_at : (line : List ℕ) (place : ℕ) → IsFirstSpace line place → parts_of 32 line ≡ take place line ∷ parts_of 32 (drop (suc place) line)
unfolding parts_of
fields_at line place is = split_first 32 [] line place is.0.high is.0.before is.1
