-- Names that are kept in memory of a fixed size (implementation-specific).
use Rattle.std.proofs.Common.{◌≡◌, ℕ, ◌-◌, ◌≤◌, List, ◌++◌, length, take, arith, sym, ap, ◌∙◌}
use Rattle.std.specs.Prelude.{replicate}
use Rattle.std.proofs.lemmas.List.{length-take}

-- a valid name of at most `size` bytes: in the first `len` of `size` bytes, and 0 after it
pub record IsPaddedName (IsValid : List ℕ → Type 0) (size : ℕ) (bytes : List ℕ) (len : ℕ) : Type 0 where
  pub valid : IsValid (take len bytes)
  pub fits : len ≤ size
  pub whole : length bytes ≡ size
  pub padded : bytes ≡ take len bytes ++ replicate (size - len) 0

-- For the proof: a padded name is reported by its bytes alone.
pub padded_name_splits : {IsValid : List ℕ → Type 0} {size : ℕ} (bytes : List ℕ) (len : ℕ) → IsPaddedName IsValid size bytes len
    → (take len bytes ++ replicate (size - length (take len bytes)) 0 ≡ bytes) × (length (take len bytes) ≡ len)
padded_name_splits {IsValid = IsValid} {size = size} bytes len h =
    let fits : len ≤ size = h.fits in
    let whole : length bytes ≡ size = h.whole in
    let same : length (take len bytes) ≡ len = omega (arith, length-take len bytes) in
    (ap (λ (n : ℕ). take len bytes ++ replicate (size - n) 0) same ∙ sym h.padded, same)
