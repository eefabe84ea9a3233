-- What is written of a line of the program: an object of JSON that has the line, on a line of its own (implementation-specific).
use Rattle.std.specs.Prelude.{◌≡◌, ◌≢◌, ◌++◌, ◌∷◌, [], ⊤, ℕ, List, Option, Some, codes}
use Rattle.std.specs.Io.KnownBytes.{Appends}
use Rattle.serde_json.specs.Data.{Members, object, put, string}
use Rattle.serde_json.specs.Read.{read}

-- no byte of the text is a line feed
abbrev pub IsOneLine : List ℕ → Type 0
IsOneLine [] = ⊤
IsOneLine (byte ∷ text) = (byte ≢ 10) × IsOneLine text

-- the text is of one line, and reads as an object of just these members
pub record IsObjectOf (members : Members) (text : List ℕ) : Type 0 where
  pub is_read : read text ≡ Some (object members)
  pub in_one_line : IsOneLine text

-- the members, and the line of the program as the member `text`
abbrev pub with_line : List ℕ → Members → Members
with_line line members = put (codes "text") (string line) members

-- an object of JSON is written on one line, and a line feed: it has these members, and the line of the program as its member `text`
pub record HasWritten (line : List ℕ) (members : Members) (old new : Option (List ℕ)) : Type 0 where
  pub text : List ℕ
  pub is_object : IsObjectOf (with_line line members) text
  pub written : Appends old new (text ++ 10 ∷ [])
