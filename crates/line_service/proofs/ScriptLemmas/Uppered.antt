-- The kit writes lower-case digits; upper-cased they are the upper-case ones.
use Rattle.std.proofs.Common.{◌≡◌, ℕ, zero, suc, ◌/◌, ◌%◌, List, [], ◌∷◌, map, Result, Ok, Err, OnOk, refl, sym, ap, ap₂, ◌∙◌}
use Rattle.std.specs.Prelude.{slice_index, IsOk}
use Rattle.std.specs.Char.{to_ascii_uppercase}
use Rattle.hex.specs.Hex.{encode_with, encode_lower, encode_upper, lower_digits, upper_digits}

-- what an answer gives that is not an error
pub ok_gives : {T E : Type 0} (r : Result T E) (P : Type 0) → IsOk r → OnOk r P → P
ok_gives (Ok x) P is h = h
ok_gives (Err e) P is h = cc

index_map : (f : ℕ → ℕ) (xs : List ℕ) (i : ℕ) → f 0 ≡ 0 → slice_index (map f xs) i ≡ f (slice_index xs i)
index_map f [] i h = sym h
index_map f (x ∷ xs) zero h = refl
index_map f (x ∷ xs) (suc i) h = index_map f xs i h

upper_digit : (d : ℕ) → to_ascii_uppercase (slice_index lower_digits d) ≡ slice_index upper_digits d
upper_digit d = sym (index_map to_ascii_uppercase lower_digits d refl)

pub upper_of_lower : (bytes : List ℕ) → map to_ascii_uppercase (encode_lower bytes) ≡ encode_upper bytes
unfolding encode_with
upper_of_lower [] = refl
upper_of_lower (byte ∷ bytes) =
    ap₂ (λ (d : ℕ) (more : List ℕ). d ∷ more) (upper_digit (byte / 16))
    (ap₂ (λ (d : ℕ) (more : List ℕ). d ∷ more) (upper_digit (byte % 16)) (upper_of_lower bytes))
