-- A line that is read of an input.
use Rattle.std.specs.Prelude.{◌≡◌, ℕ, List, [], ◌∷◌, Bool, Option, Some, None}
use Rattle.line_service.specs.script.Lines.{lines_of, parts_from}
use Rattle.line_service.specs.declared.line_break.LineBreak.{LineBreak}
use Rattle.line_service.specs.declared.line_break.LineBreak.TheVariants.{Another, End}
use Rattle.line_service.specs.SoFar.{IsHeld}

-- the lines of the rest of the input, or none at its end
abbrev pub lines_left : LineBreak → List ℕ → List (List ℕ)
lines_left Another rest = lines_of rest
lines_left End rest = []

-- this part of the first line is read, and the rest of the input is left
pub record IsPartRead (input rest bytes : List ℕ) (is_long : Bool) : Type 0 where
  pub part : List ℕ
  pub is_held : IsHeld bytes is_long part
  pub lines_are : lines_of input ≡ parts_from 10 part rest

-- the first line of an input is read, and this is after it
pub record IsLineRead (input rest bytes : List ℕ) (is_long : Bool) (end : LineBreak) : Type 0 where
  pub line : List ℕ
  pub is_held : IsHeld bytes is_long line
  pub lines_are : lines_of input ≡ line ∷ lines_left end rest

-- more of the first line is read: all of it, if something ended it
abbrev pub IsMoreRead : List ℕ → List ℕ → List ℕ → Bool → Option LineBreak → Type 0
IsMoreRead input rest bytes is_long None = IsPartRead input rest bytes is_long
IsMoreRead input rest bytes is_long (Some end) = IsLineRead input rest bytes is_long end
