-- Inputs that can be served, and inputs that cannot, where what is read is known.
use Rattle.std.proofs.Common.{◌≡◌, ℕ, ◌<◌, ◌≤◌, nat_le, Bool, true, false, ◌&&◌, List, length, Option, Some, None, IfSome, refl, sym, ap, subst, arith}
use Rattle.plant_script.proofs.Common.{Consumes, le-leb, lt-leb, length-append, is_readable}
use Rattle.std.specs.Str.{IsUtf8, is_utf8}
use Rattle.std.proofs.lemmas.Str.{IsUtf8-from_is_utf8, is_utf8-from_IsUtf8}

pub readable : (input : List ℕ) → length input ≤ 1048576 → IsUtf8 input → is_readable input ≡ true
readable input fits utf8 = rw (le-leb (length input) 1048576 fits, is_utf8-from_IsUtf8 input utf8) refl

-- more than the limit was read already
pub too_long : (first now : Option (List ℕ)) (input : List ℕ) → Consumes first now input → 1048576 < length input
    → IfSome first (λ bytes. 1048576 < length bytes)
too_long None now input taken long = tt
too_long (Some xs) None input taken long = absurd taken
too_long (Some xs) (Some ys) input taken long = omega (arith, ap length taken, length-append input ys, long)

-- so it is not readable
pub unreadable_long : (first : Option (List ℕ)) → IfSome first (λ bytes. 1048576 < length bytes) → IfSome first (λ bytes. is_readable bytes ≡ false)
unreadable_long None long = tt
unreadable_long (Some xs) long = rw (lt-leb (length xs) 1048576 long) refl

no_text : (n : Bool) (bytes : List ℕ) (t : Bool) → is_utf8 bytes ≡ t → ¬ IsUtf8 bytes → (n && is_utf8 bytes) ≡ false
no_text true bytes true is other = absurd (other (IsUtf8-from_is_utf8 bytes is))
no_text true bytes false is other = is
no_text false bytes t is other = refl

-- nor is what is no text
pub unreadable_text : (first : Option (List ℕ)) (input : List ℕ) → IfSome first (λ bytes. input ≡ bytes) → ¬ IsUtf8 input
    → IfSome first (λ bytes. is_readable bytes ≡ false)
unreadable_text None input is other = tt
unreadable_text (Some xs) input is other =
    no_text (nat_le (length xs) 1048576) xs (is_utf8 xs) refl (λ text. other (subst IsUtf8 (sym is) text))
