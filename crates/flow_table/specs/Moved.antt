-- What a request and a grant make of the flows (implementation-specific).
use Rattle.std.specs.Prelude.{ℕ, List, Option, Some, None}
use Rattle.flow_table.specs.declared.flow.Flow.{Flow}
use Rattle.flow_table.specs.declared.flow.Asker.{Asker}
use Rattle.param_sets.specs.Units.{UnitSizes}
use Rattle.slice_scheduler.specs.declared.flowing.Flowing.{Flowing}
use Rattle.flow_table.specs.declared.rows.Moved.{Moved}
use Rattle.flow_table.specs.Flow.{asks_for_grants, committed_of, activity_of}
use Rattle.flow_table.specs.Table.{flow_at, with_flow, flowing_of_set}

-- the flow of an SFID is changed so, if there is one
abbrev pub change_if : ℕ → (Flow → Flow) → List (ℕ × Flow) → Option Flow → List (ℕ × Flow)
change_if sfid change flows None = flows
change_if sfid change flows (Some flow) = with_flow sfid (change flow) flows

-- what an acknowledgement, an undo, a request or a grant makes of the flows: that of the SFID, if there is one, is changed so
abbrev pub change_at : ℕ → (Flow → Flow) → List (ℕ × Flow) → List (ℕ × Flow)
change_at sfid change flows = change_if sfid change flows (flow_at sfid flows)

-- what the indexes and the ledger have to know of a flow that is changed so: the SIDs that it had and has, whether it has an
-- active set, and what it has committed
abbrev pub told_of : UnitSizes → (Flow → Flow) → Option Flow → Option Moved
told_of units change None = None
told_of units change (Some flow) = Some (record {
  had = flow.sid;
  has = (change flow).sid;
  activity = activity_of (change flow);
  committed = committed_of units (change flow);
})

-- the flow of an SFID as it is scheduled, if there is one with an active set
abbrev pub scheduled_if : ℕ → Option Flow → Option Flowing
scheduled_if sfid None = None
scheduled_if sfid (Some flow) = flowing_of_set sfid flow flow.sets.active

-- who may request with a SID: the modem of the flow that has it, and whether the flow may ask
abbrev pub asker_of : Option (ℕ × Flow) → Option Asker
asker_of None = None
asker_of (Some entry) = Some (record { sfid = entry.0; modem = entry.1.modem; may_ask = asks_for_grants entry.1.sets.active })
