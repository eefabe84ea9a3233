-- Lines in a file of text (implementation-specific).
use Rattle.std.specs.Prelude.{⊤, ◌≢◌, ◌==◌, ℕ, List, [], ◌∷◌, ◌++◌, if◌then◌else◌}

-- a line holds no line feed
abbrev pub IsLine : List ℕ → Type 0
IsLine [] = ⊤
IsLine (b ∷ bytes) = (b ≢ 10) × IsLine bytes

-- a byte at the head of the first line, if there is one
abbrev pub with_head : ℕ → List (List ℕ) → List (List ℕ)
with_head b [] = []
with_head b (line ∷ lines) = (b ∷ line) ∷ lines

-- the lines that a line feed ends
abbrev pub whole_lines : List ℕ → List (List ℕ)
whole_lines [] = []
whole_lines (b ∷ bytes) = if b == 10 then [] ∷ whole_lines bytes else with_head b (whole_lines bytes)

-- up to the first that doesn't begin with the mark, each without it
abbrev pub marked_first : ℕ → List (List ℕ) → List (List ℕ)
marked_first mark [] = []
marked_first mark ([] ∷ lines) = []
marked_first mark ((b ∷ line) ∷ lines) = if b == mark then line ∷ marked_first mark lines else []

-- the whole lines at the front of a text that begin with the mark, each without it
abbrev pub marked_lines : ℕ → List ℕ → List (List ℕ)
marked_lines mark text = marked_first mark (whole_lines text)

-- the text of lines, each with this mark before it and its line feed
abbrev pub records : ℕ → List (List ℕ) → List ℕ
records mark [] = []
records mark (line ∷ lines) = mark ∷ line ++ 10 ∷ records mark lines
