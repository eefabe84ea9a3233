-- Lines of input, and the fields of a line (implementation-specific).
use Rattle.std.specs.Prelude.{◌==◌, ℕ, true, false, List, [], ◌∷◌, ◌++◌}

-- the parts of bytes, after the beginning of one: each mark ends a part
abbrev pub parts_from : ℕ → List ℕ → List ℕ → List (List ℕ)
parts_from mark part [] = part ∷ []
parts_from mark part (b ∷ bytes) = elim (b == mark) [ true ↦ part ∷ parts_from mark [] bytes | false ↦ parts_from mark (part ++ b ∷ []) bytes ]

-- the last part has no mark after it, and is empty where the bytes end in one
unfoldable pub parts_of : ℕ → List ℕ → List (List ℕ)
parts_of mark bytes = parts_from mark [] bytes

-- each LF ends a line
abbrev pub lines_of : List ℕ → List (List ℕ)
lines_of bytes = parts_of 10 bytes

-- the fields of a line are separated by one space each
abbrev pub line_fields : List ℕ → List (List ℕ)
line_fields line = parts_of 32 line
