-- Lines that are taken of an input, to be put in a journal (implementation-specific).
use Rattle.std.specs.Prelude.{◌≡◌, ◌⊎◌, ⊤, ℕ, List, [], ◌∷◌, ◌++◌, map, take, true, Option, Some, None, Vec}
use Rattle.std.specs.declared.alloc.Global.{Global}
use Rattle.line_service.specs.script.Lines.{lines_of, parts_from}
use Rattle.state_service.specs.declared.reading.BatchEnd.{BatchEnd}
use Rattle.state_service.specs.declared.reading.BatchEnd.TheVariants.{Open, Command, Ended}
use Rattle.state_service.specs.Commands.{is_command}

-- what is kept of a line: of one that is too long 4,097 bytes, so that it stays too long
abbrev pub kept_line : List ℕ → List ℕ
kept_line line = take 4097 line

-- what follows the last line feed is a line, unless it is nothing
abbrev pub line_at_end : List ℕ → List (List ℕ)
line_at_end [] = []
line_at_end (b ∷ bytes) = (b ∷ bytes) ∷ []

-- these lines of an input are taken, and of the next one this part; the rest of the input is left
pub record AreTaken (input rest : List ℕ) (taken : List (List ℕ)) (part : List ℕ) : Type 0 where
  pub whole : List (List ℕ)
  pub begun : List ℕ
  pub lines_are : lines_of input ≡ whole ++ parts_from 10 begun rest
  pub taken_are : taken ≡ map kept_line whole
  pub part_is : part ≡ kept_line begun

-- these are all lines of an input
pub record AreAllTaken (input : List ℕ) (taken : List (List ℕ)) : Type 0 where
  pub whole : List (List ℕ)
  pub last : List ℕ
  pub lines_are : lines_of input ≡ whole ++ last ∷ []
  pub taken_are : taken ≡ map kept_line (whole ++ line_at_end last)

-- no byte is left, and these are all lines
pub record AreTakenToEnd (input rest : List ℕ) (taken : List (List ℕ)) (part : List ℕ) : Type 0 where
  pub none_left : rest ≡ []
  pub no_part : part ≡ []
  pub all : AreAllTaken input taken

-- lines are taken up to some byte of the input, or up to its end
abbrev pub AreTakenSoFar : List ℕ → List ℕ → List (List ℕ) → List ℕ → Type 0
AreTakenSoFar input rest taken part = AreTaken input rest taken part ⊎ AreTakenToEnd input rest taken part

-- a batch is read: some of the input is left, or nothing; a command may be taken after its lines
abbrev pub IsAfterBatch : BatchEnd → List ℕ → List ℕ → List (List ℕ) → List ℕ → Type 0
IsAfterBatch Open input rest taken part = AreTakenSoFar input rest taken part
IsAfterBatch (Command line) input rest taken part = AreTakenSoFar input rest (taken ++ line.items ∷ []) part
IsAfterBatch Ended input rest taken part = AreAllTaken input taken

-- the line after the lines of a batch is a command, if there is one
abbrev pub HasCommand : BatchEnd → Type 0
HasCommand Open = ⊤
HasCommand (Command line) = is_command line.items ≡ true
HasCommand Ended = ⊤

-- a line that may be there
abbrev pub line_if_any : Option (Vec ℕ Global) → List (List ℕ)
line_if_any None = []
line_if_any (Some line) = line.items ∷ []

-- the line is a command, if there is one
abbrev pub IsCommandIfAny : Option (Vec ℕ Global) → Type 0
IsCommandIfAny None = ⊤
IsCommandIfAny (Some line) = is_command line.items ≡ true
