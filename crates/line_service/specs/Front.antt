-- What of a plant's text is read so far.
use Rattle.std.specs.Prelude.{◌≡◌, ◌≢◌, ℕ, ◌+◌, List, [], ◌∷◌, ◌++◌, length, ⊤, Bool, true, false}
use Rattle.line_service.specs.script.Input.{before_bar, plant_text, script_text}

-- no line ends in these bytes
abbrev pub HasNoBreak : List ℕ → Type 0
HasNoBreak [] = ⊤
HasNoBreak (b ∷ bytes) = (b ≢ 10) × HasNoBreak bytes

-- these lines are read, none of them three dashes, and of the next one this part; the rest of the input is left
pub record IsReadSoFar (input rest text line : List ℕ) : Type 0 where
  pub input_is : input ≡ text ++ (line ++ rest)
  pub in_a_line : HasNoBreak line
  pub no_bar : before_bar true input ≡ length text + before_bar true (line ++ rest)

-- this is the plant's text, and the script is left
abbrev pub IsFrontText : List ℕ → List ℕ → List ℕ → Type 0
IsFrontText text input left = (text ≡ plant_text input) × (left ≡ script_text input)

-- behind a byte that ends the line of three dashes, or after any other
abbrev pub ReadsOn : Bool → List ℕ → List ℕ → List ℕ → List ℕ → Type 0
ReadsOn true input rest text line = IsFrontText text input rest
ReadsOn false input rest text line = IsReadSoFar input rest text line
