-- The frames that are output, by their numbers (implementation-specific).
use Rattle.std.specs.Prelude.{◌≡◌, ◌+◌, ℕ, Bool, true, false, List, filter_map, count_by, Option, Some, None}
use Rattle.std.specs.List.{range_with_len}
use Rattle.operator_model.specs.declared.action.Action.{Action}
use Rattle.operator_model.specs.declared.action.Action.TheVariants.{Arrive, Work, Tick, Reslice}
use Rattle.operator_model.specs.declared.output.Output.{Output}
use Rattle.operator_model.specs.declared.output.Output.TheVariants as outputs
use Rattle.operator_model.specs.State.{Operator}
use Rattle.operator_model.specs.Machine.{own_run}

-- the number of a frame
abbrev pub frame_number : Output → Option ℕ
frame_number (outputs.Reply modem bytes) = None
frame_number (outputs.Silent modem cause) = None
frame_number (outputs.Frame number elements) = Some number

-- the numbers of the frames that are output, in order
abbrev pub frame_numbers : List Output → List ℕ
frame_numbers outputs = filter_map frame_number outputs

-- the action is a tick, which outputs a frame
abbrev pub is_tick : Action → Bool
is_tick (Arrive modem heard) = false
is_tick Work = false
is_tick Tick = true
is_tick (Reslice from slice_row) = false

-- a run outputs a frame for each tick, numbered from the state's frame number on, in order and with no gap
abbrev pub FramesHaveNoGap : Type 0
FramesHaveNoGap = (op : Operator) (actions : List Action)
    → frame_numbers (own_run op actions).outputs ≡ range_with_len op.state.frame (count_by is_tick actions)

-- the number of the next frame follows those of the frames that a run outputs
abbrev pub NextFrameFollows : Type 0
NextFrameFollows = (op : Operator) (actions : List Action) → (own_run op actions).state.frame ≡ op.state.frame + count_by is_tick actions
