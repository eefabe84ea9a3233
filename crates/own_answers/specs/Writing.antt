-- Texts to writers, one for each operator (implementation-specific).
use Rattle.std.specs.Prelude.{ℕ, ◌≡◌, List, length, map, Bool, true, Some, slice_get, Vec}
use Rattle.std.specs.declared.alloc.Global.{Global}

-- the bytes of these texts
abbrev pub byte_lists : List (Vec ℕ Global) → List (List ℕ)
byte_lists texts = map (λ v. v.items) texts

-- Each writer of which it is noted that its text is written has its own text, and nothing else. Of the others nothing is said, and they
-- stop no writer.
pub record AreWritten {W : Type 0} (puts : List ℕ → W → W → Type 0) (texts : List (List ℕ)) (notes : List Bool) (old new : List W)
    : Type 0 where
  pub as_many : length new ≡ length old
  pub as_many_notes : length notes ≡ length old
  pub each : (i : ℕ) (w w' : W) (text : List ℕ) → slice_get old i ≡ Some w → slice_get new i ≡ Some w' → slice_get texts i ≡ Some text
      → slice_get notes i ≡ Some true → puts text w w'
