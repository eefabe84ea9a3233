-- The states of a snapshot under other frame numbers, and which numbers there are not (implementation-specific).
use Rattle.std.specs.Prelude.{◌≡◌, ℕ, ◌+◌, ◌-◌, ◌==◌, ◌&&◌, min, nat_le, Bool, true, not, List, map, Option, Some, None, if◌then◌else◌}
use Rattle.std.specs.List.{list_all, AllZip}
use Rattle.param_sets.specs.Units.{UnitSizes}
use Rattle.plant.specs.declared.consts.ConstsFields.{ConstsFields}
use Rattle.plant.specs.declared.operator_row.RowFields.{RowFields}
use Rattle.flow_table.specs.declared.flow.Flow.{Flow}
use Rattle.map_assembly.specs.Map.{frame_start}
use Rattle.operator_model.specs.declared.share.NextShare.{NextShare}
use Rattle.operator_model.specs.State.{OperatorState, operator}
use Rattle.operator_model.specs.Sound.{IsSound}
use Rattle.snapshot_format.specs.declared.saved.SavedFlow.{SavedFlow}
use Rattle.snapshot_format.specs.declared.saved.SavedOperator.{SavedOperator}
use Rattle.snapshot_format.specs.declared.saved.Snapshot.{Snapshot}
use Rattle.snapshot_format.specs.States.{states_of}
use Rattle.frame_numbers.specs.declared.fault.RenumberFault.{RenumberFault}
use Rattle.frame_numbers.specs.declared.fault.RenumberFault.TheVariants.{TimeSteps, TooLow, TooHigh}
use Rattle.frame_numbers.specs.Seen.{interval_if, place_in}
use Rattle.frame_numbers.specs.Renumbered.{IsRenumbered}

-- ---- the numbers of a state, where the next frame `from` is called `to`

-- how many frames before the next one a flow's start is under the other numbers: its place in its interval
abbrev pub start_distance : UnitSizes → ℕ → Flow → ℕ
start_distance units from flow = place_in (interval_if units flow.sets.active) (from - flow.start)

-- how many frames before the next one a flow's backlog began to wait under the other numbers: its age, held at 255
abbrev pub since_distance : ℕ → Flow → ℕ
since_distance from flow = min 255 (from - flow.since)

-- how many frames after the next one a share takes force
abbrev pub from_distance : ℕ → NextShare → ℕ
from_distance from next = next.from - from

-- a flow whose start and whose since are as many frames before `to` as they were before `from`
abbrev pub flow_renumbered : UnitSizes → ℕ → ℕ → Flow → Flow
flow_renumbered units from to flow = record flow { start = to - start_distance units from flow; since = to - since_distance from flow }

-- a saved flow under the other numbers, with the same SFID
abbrev pub saved_flow_renumbered : UnitSizes → ℕ → ℕ → SavedFlow → SavedFlow
saved_flow_renumbered units from to saved = record { sfid = saved.sfid; flow = flow_renumbered units from to saved.flow }

-- a share that waits takes force as many frames after `to` as it did after `from`
abbrev pub next_renumbered : ℕ → ℕ → Option NextShare → Option NextShare
next_renumbered from to None = None
next_renumbered from to (Some next) = Some (record { from = to + from_distance from next; share = next.share })

-- an operator's saved state under the other numbers
abbrev pub operator_renumbered : UnitSizes → ℕ → ℕ → SavedOperator → SavedOperator
operator_renumbered units from to saved = record saved {
  next = next_renumbered from to saved.next;
  flows = map (saved_flow_renumbered units from to) saved.flows;
}

-- ---- what is refused

-- no frame number is below 0
abbrev pub flow_fits : UnitSizes → ℕ → ℕ → SavedFlow → Bool
flow_fits units from to saved = nat_le (start_distance units from saved.flow) to && nat_le (since_distance from saved.flow) to

-- no frame number of the flows is below 0
abbrev pub flows_fit : UnitSizes → ℕ → ℕ → SavedOperator → Bool
flows_fit units from to saved = list_all (flow_fits units from to) saved.flows

-- none is above 4,294,967,295
abbrev pub wait_fits : ℕ → ℕ → Option NextShare → Bool
wait_fits from to None = true
wait_fits from to (Some next) = nat_le (to + from_distance from next) 4294967295

-- no frame number of the share that waits is above 4,294,967,295
abbrev pub next_fits : ℕ → ℕ → SavedOperator → Bool
next_fits from to saved = wait_fits from to saved.next

-- why the next frame of a snapshot cannot be called `to`, by the first of these: the Alloc Start Time would not go on; a number would be
-- too low; a number would be too high
abbrev pub renumber_refusal : ConstsFields → ℕ → Snapshot → Option RenumberFault
renumber_refusal consts to saved =
    if not (frame_start consts.channel to == frame_start consts.channel saved.frame) then Some TimeSteps else
    if not (list_all (flows_fit consts.units saved.frame to) saved.operators) then Some TooLow else
    if not (list_all (next_fits saved.frame to) saved.operators) then Some TooHigh else
    None

-- ---- what is returned

-- the state of an operator, under its name, that is renumbered; where the old one is sound, so is the new one
pub record IsRenumberedUnder (units : UnitSizes) (a b : List ℕ × OperatorState) : Type 0 where
  pub name : b.0 ≡ a.0
  pub state : IsRenumbered units a.1 b.1
  pub sound : (consts : ConstsFields) (row : RowFields) → IsSound (operator consts row a.1) → IsSound (operator consts row b.1)

-- the text of the plant file stays, the next frame is called `to`, and the state of each operator is renumbered, and sound where the old
-- one is
pub record IsRenumberedSnapshot (units : UnitSizes) (to : ℕ) (saved other : Snapshot) : Type 0 where
  pub plant : other.plant ≡ saved.plant
  pub frame : other.frame ≡ to
  pub states : AllZip (IsRenumberedUnder units) (states_of saved) (states_of other)
