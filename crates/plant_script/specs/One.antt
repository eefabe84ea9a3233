-- What `one` writes, as a function of what it reads (implementation-specific): lines to messages, messages to outputs, outputs to text.
use Rattle.std.specs.Prelude.{ℕ, ◌&&◌, Bool, List, [], ◌∷◌, ◌++◌, length, Result, Ok, Err, nat_le, if◌then◌else◌, codes}
use Rattle.std.specs.List.{flat_map}
use Rattle.std.specs.Str.{is_utf8}
use Rattle.std.specs.Fmt.{decimal}
use Rattle.hex.specs.Hex.{encode_upper}
use Rattle.operator_model.specs.declared.heard.Heard.TheVariants as heards
use Rattle.operator_model.specs.declared.action.Action.{Action}
use Rattle.operator_model.specs.declared.action.Action.TheVariants.{Arrive, Work}
use Rattle.operator_model.specs.declared.output.Output.{Output}
use Rattle.operator_model.specs.declared.output.Output.TheVariants.{Reply, Silent, Frame}
use Rattle.operator_model.specs.State.{opened_state, operator}
use Rattle.operator_model.specs.Machine.{own_run}
use Rattle.operator_model.specs.Worked.{first_modem}
use Rattle.line_service.specs.script.Lines.{lines_of}
use Rattle.line_service.specs.script.Messages.{messages_of}
use Rattle.line_service.specs.script.Causes.{cause_name}
use Rattle.plant_script.specs.OperatorA.{row_a, consts_a}

-- ---- messages to outputs

-- each message arrives of the first modem and is handled
abbrev pub sent_actions : List (List ℕ) → List Action
sent_actions messages = flat_map (λ message. Arrive first_modem (heards.Message message) ∷ Work ∷ []) messages

-- what the built-in operator's machine outputs for these messages, from its opening on
abbrev pub outputs_of : List (List ℕ) → List Output
outputs_of messages = (own_run (operator consts_a row_a (opened_state consts_a row_a)) (sent_actions messages)).outputs

-- ---- outputs to text

-- a reply in upper-case hexadecimal; or S and the cause. A frame has no line: nothing ticks here.
abbrev pub line_of : Output → List ℕ
line_of (Reply modem bytes) = encode_upper bytes ++ 10 ∷ []
line_of (Silent modem cause) = codes "S " ++ (cause_name cause ++ 10 ∷ [])
line_of (Frame number elements) = []

-- the lines of outputs, in order
abbrev pub text_of_outputs : List Output → List ℕ
text_of_outputs outputs = flat_map line_of outputs

-- ---- the whole

-- what the program answers: its exit status, and what it has written
pub record Answer : Type 0 where
  pub status : ℕ
  pub text : List ℕ

-- the input is not longer than 1,048,576 bytes, and is text
abbrev pub is_readable : List ℕ → Bool
is_readable input = nat_le (length input) 1048576 && is_utf8 input

-- what `one` answers to messages, or to an invalid line with status 4
abbrev pub answer_to : Result (List (List ℕ)) ℕ → Answer
answer_to (Ok messages) = record { status = 0; text = text_of_outputs (outputs_of messages) }
answer_to (Err number) = record { status = 4; text = codes "fault: line " ++ (decimal number ++ 10 ∷ []) }

-- what `one` writes for an input, and its exit status
unfoldable pub answer_of : List ℕ → Answer
answer_of input =
    if is_readable input then answer_to (messages_of (lines_of input))
    else record { status = 6; text = codes "fault: io" ++ 10 ∷ [] }
