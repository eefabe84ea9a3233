-- A plant file among the lines of a service (implementation-specific).
use Rattle.std.specs.Prelude.{◌≡◌, ◌<◌, ◌≤◌, ℕ, ◌+◌, List, [], ◌∷◌, ◌++◌, length, drop, Bool, true, false, ⊤, Ok, if◌then◌else◌, codes}
use Rattle.std.specs.List.{flat_map}
use Rattle.std.specs.Str.{bytes_eq, is_utf8}
use Rattle.toml.specs.Parse.{parse_document}
use Rattle.plant.specs.declared.plant.PlantFields.{PlantFields}
use Rattle.slice_table.specs.ReadPlant.{text_plant}
use Rattle.line_service.specs.script.Lines.{lines_of, parts_from}
use Rattle.line_service.specs.Lines.{lines_left}
use Rattle.line_service.specs.SoFar.{IsHeld}
use Rattle.state_service.specs.declared.resumed.kept_text.Keeping.{Keeping}
use Rattle.state_service.specs.declared.resumed.kept_text.Keeping.TheVariants.{Whole, TooLong, NoMemory}
use Rattle.line_service.specs.declared.line_break.LineBreak.{LineBreak}
use Rattle.line_service.specs.declared.line_break.LineBreak.TheVariants.{Another, End}
use Rattle.state_service.specs.declared.resumed.plant_file.FileByte.{FileByte}
use Rattle.state_service.specs.declared.resumed.plant_file.FileByte.TheVariants.{Within, Last}
use Rattle.state_service.specs.declared.resumed.plant_file.PlantFileEnd.{PlantFileEnd}
use Rattle.state_service.specs.declared.resumed.plant_file.PlantFileEnd.TheVariants.{Ended, NotEnded}

-- ---- the lines of a plant file

-- the line that ends a plant file
abbrev pub is_dashes : List ℕ → Bool
is_dashes line = bytes_eq line (codes "---")

-- the lines of the file: those before the first line of three dashes
abbrev pub file_lines : List (List ℕ) → List (List ℕ)
file_lines [] = []
file_lines (line ∷ lines) = if is_dashes line then [] else line ∷ file_lines lines

-- there is a line of three dashes, which ends the file
abbrev pub is_ended : List (List ℕ) → Bool
is_ended [] = false
is_ended (line ∷ lines) = if is_dashes line then true else is_ended lines

-- how many lines the file takes, with the line that ends it: all, where there is no such line
abbrev pub lines_taken : List (List ℕ) → ℕ
lines_taken [] = 0
lines_taken (line ∷ lines) = if is_dashes line then 1 else 1 + lines_taken lines

-- each line with its line feed
abbrev pub text_of_lines : List (List ℕ) → List ℕ
text_of_lines lines = flat_map (λ line. line ++ 10 ∷ []) lines

-- the text of the plant file: each of its lines with its line feed
abbrev pub file_text : List (List ℕ) → List ℕ
file_text lines = text_of_lines (file_lines lines)

-- the most bytes of a plant file
abbrev pub most_bytes : ℕ
most_bytes = 1048576

-- the file is ended, and it is not too long
abbrev pub IsWhole : List (List ℕ) → Type 0
IsWhole lines = (is_ended lines ≡ true) × (length (file_text lines) ≤ most_bytes)

-- the file is ended, not too long, and text
abbrev pub IsPlantFileText : List (List ℕ) → Type 0
IsPlantFileText lines = IsWhole lines × (is_utf8 (file_text lines) ≡ true)

-- these lines begin with a plant file of this plant: it is ended, not too long, and text
pub record IsFileOf (lines : List (List ℕ)) (plant : PlantFields) : Type 0 where
  pub is_text : IsPlantFileText lines
  pub says : text_plant (parse_document (file_text lines)) ≡ Ok plant

-- ---- what is read of it

-- these are the bytes of a text, which has so many at most; or it has more; or memory ran out
abbrev pub IsKeptUpTo : ℕ → Keeping → List ℕ → List ℕ → Type 0
IsKeptUpTo most Whole bytes text = (bytes ≡ text) × (length text ≤ most)
IsKeptUpTo most TooLong bytes text = most < length text
IsKeptUpTo most NoMemory bytes text = ⊤

-- the most bytes that are kept: the file, and the three dashes after it
abbrev pub most_kept : ℕ
most_kept = 1048579

-- some lines of the file are read, and of the next line this part; the rest of the input is left
pub record IsReadingFile (input rest : List ℕ) (first number : ℕ) (held : List ℕ) (is_long : Bool) (keeping : Keeping) (bytes : List ℕ) : Type 0 where
  pub before : List ℕ
  pub part : List ℕ
  pub is_held : IsHeld held is_long part
  pub is_kept : IsKeptUpTo most_kept keeping bytes (before ++ part)
  pub text_is : file_text (lines_of input) ≡ before ++ file_text (parts_from 10 part rest)
  pub ended : is_ended (lines_of input) ≡ is_ended (parts_from 10 part rest)
  pub counted : first + lines_taken (lines_of input) ≡ number + lines_taken (parts_from 10 part rest)
  pub left : drop (lines_taken (lines_of input)) (lines_of input) ≡ drop (lines_taken (parts_from 10 part rest)) (parts_from 10 part rest)

-- the number of the next line, where there is one
abbrev pub IsNumberAfter : LineBreak → ℕ → ℕ → Type 0
IsNumberAfter Another number next = next ≡ number
IsNumberAfter End number next = ⊤

-- what is after a plant file
abbrev pub break_after : PlantFileEnd → LineBreak
break_after (Ended after) = after
break_after NotEnded = End

-- what is kept of these lines' file
abbrev pub IsFileKept : List (List ℕ) → Keeping → List ℕ → PlantFileEnd → Type 0
IsFileKept lines keeping bytes (Ended after) = (is_ended lines ≡ true) × IsKeptUpTo most_bytes keeping bytes (file_text lines)
IsFileKept lines keeping bytes NotEnded = is_ended lines ≡ false

-- the file of these lines is read, with the line that ends it; the rest of the input is left
pub record IsFileRead (lines : List (List ℕ)) (rest : List ℕ) (first number : ℕ) (keeping : Keeping) (bytes : List ℕ) (end : PlantFileEnd) : Type 0 where
  pub is_kept : IsFileKept lines keeping bytes end
  pub left : drop (lines_taken lines) lines ≡ lines_left (break_after end) rest
  pub counted : IsNumberAfter (break_after end) (first + lines_taken lines) number

-- after a byte that ends the file, or after any other
abbrev pub ReadsFileOn : FileByte → List ℕ → List ℕ → ℕ → ℕ → List ℕ → Bool → Keeping → List ℕ → Type 0
ReadsFileOn Within input rest first number held is_long keeping bytes = IsReadingFile input rest first number held is_long keeping bytes
ReadsFileOn Last input rest first number held is_long keeping bytes = IsFileRead (lines_of input) rest first number keeping bytes (Ended Another)
