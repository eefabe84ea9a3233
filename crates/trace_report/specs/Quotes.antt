-- The lines of a script that a trace quotes (implementation-specific).
use Rattle.std.specs.Prelude.{◌≡◌, ℕ, ◌+◌, ◌-◌, nat_lt, List, [], ◌∷◌, ◌++◌, slice_index_or, if◌then◌else◌, codes}
use Rattle.std.specs.Fmt.{decimal}
use Rattle.line_service.specs.script.Lines.{lines_of}

-- the line at this place of a text, counted from 0; empty past the last one
abbrev pub line_at : List ℕ → ℕ → List ℕ
line_at text place = slice_index_or (lines_of text) place []

-- the lines of the rest are those of the text after so many
abbrev pub IsRestAfter : List ℕ → ℕ → List ℕ → Type 0
IsRestAfter text skipped rest = (place : ℕ) → line_at rest place ≡ line_at text (skipped + place)

-- the number of a line, and what it says
abbrev pub quote : ℕ → List ℕ → List ℕ
quote number line = codes "line " ++ (decimal number ++ (codes ": " ++ (line ++ 10 ∷ [])))

-- a line of the script is quoted before its first step, where `last` is the greatest number that was quoted
abbrev pub quote_after : List ℕ → ℕ → ℕ → List ℕ
quote_after script last number = if nat_lt last number then quote number (line_at script (number - 1)) else []
