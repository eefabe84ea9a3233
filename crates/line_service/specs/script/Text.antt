-- The text of a run's outputs, and of an operator's own steps (implementation-specific).
use Rattle.std.specs.Prelude.{ℕ, List, [], ◌∷◌, ◌++◌, slice_get, Option, Some, None, codes}
use Rattle.std.specs.List.{flat_map}
use Rattle.std.specs.Fmt.{decimal}
use Rattle.hex.specs.Hex.{encode_upper}
use Rattle.dsx_messages.specs.Modem.{hex_digits}
use Rattle.dsx_messages.specs.declared.modem.Modem.{Modem}
use Rattle.slice_scheduler.specs.declared.elements.ElementsFields.{ElementsFields}
use Rattle.slice_scheduler.specs.declared.span.Span.{Span}
use Rattle.slice_scheduler.specs.Iuc.{iuc_number}
use Rattle.plant.specs.declared.operator_row.RowFields.{RowFields}
use Rattle.plant.specs.declared.plant.PlantFields.{PlantFields}
use Rattle.operator_model.specs.declared.heard.Heard.{Heard}
use Rattle.operator_model.specs.declared.heard.Heard.TheVariants.{Message, Request}
use Rattle.operator_model.specs.declared.action.Action.{Action}
use Rattle.operator_model.specs.declared.action.Action.TheVariants as actions
use Rattle.operator_model.specs.declared.output.Output.{Output}
use Rattle.operator_model.specs.declared.output.Output.TheVariants.{Reply, Silent, Frame}
use Rattle.map_assembly.specs.declared.map_bytes.MapBytes.{MapBytes}
use Rattle.run_model.specs.declared.step.Step.{Step}
use Rattle.run_model.specs.declared.step.Out.{Out}
use Rattle.run_model.specs.declared.step.Out.TheVariants as outs
use Rattle.run_model.specs.OwnSteps.{own_steps}
use Rattle.line_service.specs.script.Causes.{cause_name}

-- ---- fields

-- an address, 12 upper-case hexadecimal digits
abbrev pub address : Modem → List ℕ
address modem = hex_digits modem.0

-- the bytes of a message in upper-case hexadecimal; `-` for none
abbrev pub message_text : List ℕ → List ℕ
message_text [] = codes "-"
message_text (b ∷ bytes) = encode_upper (b ∷ bytes)

-- after a space
abbrev pub after_space : List ℕ → List ℕ
after_space field = codes " " ++ field

-- ---- a frame's elements

-- `sid/iuc/start/len`, in minislots
abbrev pub span_text : Span → List ℕ
span_text span = decimal span.sid ++ (codes "/" ++ (decimal (iuc_number span.iuc) ++ (codes "/" ++ (decimal span.start ++ (codes "/" ++ decimal span.len)))))

-- a grant pending: `sid/P`
abbrev pub pending_text : ℕ → List ℕ
pending_text sid = decimal sid ++ codes "/P"

-- the elements of a line `F`: the spans, and then the grants pending
abbrev pub elements_text : ElementsFields → List ℕ
elements_text elements = flat_map (λ span. after_space (span_text span)) elements.spans ++ flat_map (λ sid. after_space (pending_text sid)) elements.pending

-- ---- outputs

-- the name of an operator; empty where the plant has no such operator
abbrev pub operator_name : Option RowFields → List ℕ
operator_name None = []
operator_name (Some row) = row.name

-- the address of a modem; `-` where a drop reason is of none
abbrev pub sender_text : Option Modem → List ℕ
sender_text None = codes "-"
sender_text (Some modem) = address modem

-- `R address reply`, `S address cause`, `F operator frame element ..`
abbrev pub output_line : List ℕ → Output → List ℕ
output_line name (Reply modem bytes) = codes "R " ++ (address modem ++ (codes " " ++ (encode_upper bytes ++ 10 ∷ [])))
output_line name (Silent modem cause) = codes "S " ++ (sender_text modem ++ (codes " " ++ (cause_name cause ++ 10 ∷ [])))
output_line name (Frame number elements) = codes "F " ++ (name ++ (codes " " ++ (decimal number ++ (elements_text elements ++ 10 ∷ []))))

-- `MAP frame bytes`
abbrev pub map_line : MapBytes → List ℕ
map_line made = codes "MAP " ++ (decimal made.frame ++ (codes " " ++ (encode_upper made.bytes ++ 10 ∷ [])))

-- the line of an operator's output, or of a MAP
abbrev pub out_line : PlantFields → Out → List ℕ
out_line plant (outs.Of op output) = output_line (operator_name (slice_get plant.rows op)) output
out_line plant (outs.Map made) = map_line made

-- the lines of outputs, in their order
abbrev pub outs_text : PlantFields → List Out → List ℕ
outs_text plant told = flat_map (out_line plant) told

-- ---- an operator's own steps

-- what a modem sent, as a line `M` or `Q`
abbrev pub heard_line : Modem → Heard → List ℕ
heard_line modem (Message bytes) = codes "M " ++ (address modem ++ (codes " " ++ (message_text bytes ++ 10 ∷ [])))
heard_line modem (Request sid minislots) = codes "Q " ++ (address modem ++ (codes " " ++ (decimal sid ++ (codes " " ++ (decimal minislots ++ 10 ∷ [])))))

-- `M address message`, `Q address sid minislots`, `W`, `T`, `Z from start/length/budget`
abbrev pub action_line : Action → List ℕ
action_line (actions.Arrive modem heard) = heard_line modem heard
action_line actions.Work = codes "W" ++ 10 ∷ []
action_line actions.Tick = codes "T" ++ 10 ∷ []
action_line (actions.Reslice from row) =
    codes "Z " ++ (decimal from ++ (codes " " ++ (decimal row.start ++ (codes "/" ++ (decimal row.length ++ (codes "/" ++ (decimal row.budget ++ 10 ∷ [])))))))

-- the lines of actions, in order
abbrev pub actions_text : List Action → List ℕ
actions_text actions = flat_map action_line actions

-- what `history` writes of an operator: its own of the steps that were done
abbrev pub history_text : RowFields → ℕ → List Step → List ℕ
history_text row op done = actions_text (own_steps row op done)
