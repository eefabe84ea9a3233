-- A state as an operator sees it: where a frame's number stands, how far that frame is from the next one (implementation-specific).
use Rattle.std.specs.Prelude.{ℕ, ◌-◌, ◌%◌, ◌==◌, min, map, Option, Some, None, if◌then◌else◌}
use Rattle.param_sets.specs.Units.{UnitSizes}
use Rattle.param_sets.specs.declared.param_set.ParamFields.{ParamFields}
use Rattle.slice_scheduler.specs.Due.{interval_of}
use Rattle.flow_table.specs.declared.flow.Flow.{Flow}
use Rattle.operator_model.specs.declared.share.NextShare.{NextShare}
use Rattle.operator_model.specs.State.{OperatorState}

-- the interval of an active set: none where no set is active, and none at best effort
abbrev pub interval_if : UnitSizes → Option ParamFields → Option ℕ
interval_if units None = None
interval_if units (Some set) = interval_of set.scheduling set units

-- the place in its interval of a frame that is so many frames after one that is due: an interval of no frame has no places
abbrev pub place_in : Option ℕ → ℕ → ℕ
place_in None frames = 0
place_in (Some interval) frames = if interval == 0 then 0 else (frames % interval)

-- a flow before this frame: its start is the frame's place in its interval, and its since is the age of its backlog, held at 255
abbrev pub flow_seen : UnitSizes → ℕ → Flow → Flow
flow_seen units frame flow = record flow {
  start = place_in (interval_if units flow.sets.active) (frame - flow.start);
  since = min 255 (frame - flow.since);
}

-- the flow of an SFID as it is seen before this frame
abbrev pub entry_seen : UnitSizes → ℕ → ℕ × Flow → ℕ × Flow
entry_seen units frame entry = (entry.0, flow_seen units frame entry.1)

-- a share that waits, with the frames until it takes force
abbrev pub next_seen : ℕ → Option NextShare → Option NextShare
next_seen frame None = None
next_seen frame (Some next) = Some (record { from = next.from - frame; share = next.share })

-- a state in which each frame number is replaced by its distance from the next frame, whose own number is left out
abbrev pub state_as_seen : UnitSizes → OperatorState → OperatorState
state_as_seen units state = record state {
  flows = map (entry_seen units state.frame) state.flows;
  frame = 0;
  next = next_seen state.frame state.next;
}
