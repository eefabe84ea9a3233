-- The messages in lines (implementation-specific).
use Rattle.std.specs.Prelude.{◌==◌, ℕ, ◌+◌, true, false, List, [], ◌∷◌, ◌++◌, length, Option, Some, None, Result, Ok, Err, if◌then◌else◌, codes}
use Rattle.std.specs.Result.{result_ok}
use Rattle.std.specs.Str.{bytes_eq}
use Rattle.hex.specs.Hex.{decode_of}

-- a message in a line: `-` for no byte, else hexadecimal
abbrev pub message_in : List ℕ → Option (List ℕ)
message_in line = if bytes_eq line (codes "-") then Some [] else result_ok (decode_of line)

-- the messages of lines, after those before them; else the number of the first invalid line. Empty lines count, and say nothing.
abbrev pub messages_after : ℕ → List (List ℕ) → List (List ℕ) → Result (List (List ℕ)) ℕ
messages_after number messages [] = Ok messages
messages_after number messages (line ∷ lines) =
    elim (length line == 0) [
      | true ↦ messages_after (number + 1) messages lines
      | false ↦ elim (message_in line) [
        | None ↦ Err number
        | Some message ↦ messages_after (number + 1) (messages ++ message ∷ []) lines
      ]
    ]

-- lines are counted from 1
abbrev pub messages_of : List (List ℕ) → Result (List (List ℕ)) ℕ
messages_of lines = messages_after 1 [] lines
