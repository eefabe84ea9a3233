-- An input: a plant file, and the script after the first line `---` (implementation-specific).
use Rattle.std.specs.Prelude.{◌==◌, ℕ, ◌+◌, ◌&&◌, ◌||◌, Bool, true, List, [], ◌∷◌, ◌++◌, take, drop, if◌then◌else◌, codes}
use Rattle.std.specs.Str.{bytes_eq}

-- at the head of the bytes is a line of three dashes
abbrev pub is_bar : List ℕ → Bool
is_bar bytes = bytes_eq bytes (codes "---") || bytes_eq (take 4 bytes) (codes "---" ++ 10 ∷ [])

-- the number of bytes before the first such line, where a line may begin here; all bytes where there is none
abbrev pub before_bar : Bool → List ℕ → ℕ
before_bar begins [] = 0
before_bar begins (b ∷ bytes) = if begins && is_bar (b ∷ bytes) then 0 else 1 + before_bar (b == 10) bytes

-- the plant file of an input: all before the first line `---`
unfoldable pub plant_text : List ℕ → List ℕ
plant_text input = take (before_bar true input) input

-- the script of an input: all after the first line `---`
unfoldable pub script_text : List ℕ → List ℕ
script_text input = drop (before_bar true input + 4) input
