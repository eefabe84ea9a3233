-- The bytes of a reader, where they are known.
use Rattle.std.specs.Prelude.{◌≡◌, ℕ, List, [], ◌∷◌, Option, Some, None, ⊤}

-- a byte is read, or the reader is at its end
abbrev pub Takes : Option (List ℕ) → Option (List ℕ) → Option ℕ → Type 0
Takes None left byte = ⊤
Takes (Some bytes) None byte = ⊥
Takes (Some bytes) (Some left) None = (bytes ≡ []) × (left ≡ [])
Takes (Some bytes) (Some left) (Some byte) = bytes ≡ byte ∷ left

-- of readers whose bytes are not known nothing is said
abbrev pub WhereKnown : Option (List ℕ) → Option (List ℕ) → (List ℕ → List ℕ → Type 0) → Type 0
WhereKnown None left holds = ⊤
WhereKnown (Some input) None holds = ⊥
WhereKnown (Some input) (Some left) holds = holds input left
