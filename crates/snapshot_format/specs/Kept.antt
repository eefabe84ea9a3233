-- What the machine's types keep of states, whatever text these are read of (implementation-specific).
use Rattle.std.specs.Prelude.{[], IfSome}
use Rattle.std.specs.List.{AllByRecursion}
use Rattle.param_sets.specs.ParamSet.{IsParameterSet}
use Rattle.param_sets.specs.Sets.{AreNested}
use Rattle.param_sets.specs.declared.sets.SetsFields.{SetsFields}
use Rattle.slice_scheduler.specs.Minislots.{IsSlice}
use Rattle.transactions.specs.declared.entry.KeptEntry.{KeptEntry}
use Rattle.transactions.specs.Keeping.{HasTicks, IsHeldUnsent}
use Rattle.flow_table.specs.declared.flow.Pending.{Pending}
use Rattle.plant.specs.Name.{IsOperatorName}
use Rattle.operator_model.specs.declared.share.NextShare.{NextShare}
use Rattle.snapshot_format.specs.declared.saved.SavedFlow.{SavedFlow}
use Rattle.snapshot_format.specs.declared.saved.SavedOperator.{SavedOperator}
use Rattle.snapshot_format.specs.declared.saved.Snapshot.{Snapshot}
use Rattle.snapshot_format.specs.Reading.{AllFollow}
use Rattle.snapshot_format.specs.Records.{flow_follows, entry_follows, operator_follows}

-- each set keeps what its kind of scheduling keeps, and the sets are within one another
pub record AreKeptSets (sets : SetsFields) : Type 0 where
  pub provisioned : IfSome sets.provisioned IsParameterSet
  pub admitted : IfSome sets.admitted IsParameterSet
  pub active : IfSome sets.active IsParameterSet
  pub nested : AreNested sets

-- the sets that wait keep what their types keep
abbrev pub IsKeptPending : Pending → Type 0
IsKeptPending pending = AreKeptSets pending.sets

-- the sets of a flow and those that wait keep what their types keep
pub record IsKeptFlow (saved : SavedFlow) : Type 0 where
  pub sets : AreKeptSets saved.flow.sets
  pub pending : IfSome saved.flow.pending IsKeptPending

-- the time of a cached response has not ended, and where it is held no retransmission is left
pub record IsKeptEntry (entry : KeptEntry) : Type 0 where
  pub ticking : HasTicks entry
  pub held : IsHeldUnsent entry

-- the slice of a share that waits has a minislot and is within the most minislots of a frame
abbrev pub IsKeptNext : NextShare → Type 0
IsKeptNext next = IsSlice next.share.slice

-- what the machine's types keep of an operator: its name, its slices, its flows in ascending order, and one cached response for each
-- transaction
pub record IsKeptOperator (saved : SavedOperator) : Type 0 where
  pub name : IsOperatorName saved.name
  pub slice : IsSlice saved.share.slice
  pub next : IfSome saved.next IsKeptNext
  pub flows : AllByRecursion IsKeptFlow saved.flows
  pub ascending : AllFollow flow_follows [] saved.flows
  pub kept : AllByRecursion IsKeptEntry saved.kept
  pub one_each : AllFollow entry_follows [] saved.kept

-- what holds of whatever is read: each operator is one that the machine's types can hold, and no two have one name
pub record IsKeptSnapshot (saved : Snapshot) : Type 0 where
  pub operators : AllByRecursion IsKeptOperator saved.operators
  pub own_names : AllFollow operator_follows [] saved.operators
