-- What becomes of a service flow (CM-SP-MULPIv3.1, 7.5 and 11.2; the counting in frames is implementation-specific).
use Rattle.std.specs.Prelude.{◌==◌, ℕ, ◌+◌, ◌-◌, max, Bool, true, false, Option, Some, None, is_some, if◌then◌else◌}
use Rattle.admission.specs.declared.budget.Budget.{Budget}
use Rattle.param_sets.specs.Units.{UnitSizes}
use Rattle.param_sets.specs.Need.{need_if}
use Rattle.param_sets.specs.declared.scheduling.Scheduling.{Scheduling}
use Rattle.param_sets.specs.declared.scheduling.Scheduling.TheVariants.{UnsolicitedGrant}
use Rattle.param_sets.specs.declared.param_set.ParamFields.{ParamFields}
use Rattle.flow_table.specs.declared.flow.Activity.{Activity}
use Rattle.flow_table.specs.declared.flow.Activity.TheVariants.{Idle, Active}
use Rattle.flow_table.specs.declared.flow.Flow.{Flow}
use Rattle.flow_table.specs.declared.flow.Pending.{Pending}

-- ---- what is committed

-- the admitted set that waits for an acknowledgement
abbrev pub pending_admitted : Option Pending → Option ParamFields
pending_admitted None = None
pending_admitted (Some pending) = pending.sets.admitted

-- of minislots and of elements the greater, each by itself
abbrev pub greater_of : Budget → Budget → Budget
greater_of a b = record { minislots = max a.minislots b.minislots; elements = max a.elements b.elements }

-- what a flow has committed: of each the greater of what its admitted set needs and of what the pending one needs
abbrev pub committed_of : UnitSizes → Flow → Budget
committed_of units flow = greater_of (need_if units flow.sets.admitted) (need_if units (pending_admitted flow.pending))

-- ---- who asks

-- the flow gets its grants without a request: the kind is unsolicited grants
abbrev pub is_unsolicited : Scheduling → Bool
is_unsolicited UnsolicitedGrant = true
is_unsolicited kind = false

-- a flow asks for its grants where it has an active set and its grants are not unsolicited
abbrev pub asks_for_grants : Option ParamFields → Bool
asks_for_grants None = false
asks_for_grants (Some set) = if is_unsolicited set.scheduling then false else true

-- ---- who is scheduled

-- whether a flow has an active set
abbrev pub activity_of : Flow → Activity
activity_of flow = if is_some flow.sets.active then Active else Idle

-- ---- an acknowledgement, and none

-- the pending sets become the flow's: it starts anew in this frame, its SID is free where no set is admitted, and its
-- backlog is cleared where it may not ask
abbrev pub with_pending : ℕ → Flow → Option Pending → Flow
with_pending frame flow None = flow
with_pending frame flow (Some pending) = record flow {
  sid = if is_some pending.sets.admitted then flow.sid else None;
  sets = pending.sets;
  pending = None;
  start = frame;
  backlog = if asks_for_grants pending.sets.active then flow.backlog else 0;
}

-- an acknowledgement of code 0 makes the pending sets, if there are some, the flow's
abbrev pub flow_after_ack : ℕ → Flow → Flow
flow_after_ack frame flow = with_pending frame flow flow.pending

-- the pending sets are taken back, and the SID where it came with them
abbrev pub without_pending : Flow → Option Pending → Flow
without_pending flow None = flow
without_pending flow (Some pending) = record flow { sid = if pending.sid_is_new then None else flow.sid; pending = None }

-- the pending sets, if there are some, are taken back
abbrev pub taken_back : Flow → Flow
taken_back flow = without_pending flow flow.pending

-- ---- requests and grants

-- a request replaces the backlog, which waits since this frame where there was none
abbrev pub flow_after_request : ℕ → ℕ → Flow → Flow
flow_after_request minislots frame flow = record flow { backlog = minislots; since = if flow.backlog == 0 then frame else flow.since }

-- a grant lowers the backlog, and what is left waits since the next frame
abbrev pub flow_after_grant : ℕ → ℕ → Flow → Flow
flow_after_grant minislots frame flow = record flow {
  backlog = flow.backlog - minislots;
  since = if flow.backlog - minislots == 0 then flow.since else frame + 1;
}
