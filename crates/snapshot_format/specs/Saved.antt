-- What the types of a machine keep of the states in a snapshot (implementation-specific).
use Rattle.std.specs.Prelude.{◌≡◌, ◌<◌, ◌^◌, [], length, IfSome}
use Rattle.std.specs.List.{AllByRecursion}
use Rattle.hex.specs.Hex.{IsBytes}
use Rattle.dsx_messages.specs.declared.modem.Modem.{Modem}
use Rattle.param_sets.specs.ParamSet.{IsParameterSet}
use Rattle.param_sets.specs.Sets.{AreNested}
use Rattle.param_sets.specs.declared.param_set.ParamFields.{ParamFields}
use Rattle.param_sets.specs.declared.sets.SetsFields.{SetsFields}
use Rattle.slice_scheduler.specs.Minislots.{IsSlice}
use Rattle.transactions.specs.declared.entry.KeptEntry.{KeptEntry}
use Rattle.transactions.specs.Keeping.{HasTicks, IsHeldUnsent}
use Rattle.flow_table.specs.declared.flow.Pending.{Pending}
use Rattle.plant.specs.Name.{IsOperatorName}
use Rattle.operator_model.specs.declared.heard.Heard.{Heard}
use Rattle.operator_model.specs.declared.heard.Heard.TheVariants.{Message, Request}
use Rattle.operator_model.specs.declared.heard.Arrival.{Arrival}
use Rattle.operator_model.specs.declared.share.Share.{Share}
use Rattle.operator_model.specs.declared.share.NextShare.{NextShare}
use Rattle.snapshot_format.specs.declared.saved.SavedFlow.{SavedFlow}
use Rattle.snapshot_format.specs.declared.saved.SavedOperator.{SavedOperator}
use Rattle.snapshot_format.specs.declared.saved.Snapshot.{Snapshot}
use Rattle.snapshot_format.specs.Reading.{AllFollow}
use Rattle.snapshot_format.specs.Records.{flow_follows, entry_follows, operator_follows}
use Rattle.snapshot_format.specs.Checksum.{line_count}
use Rattle.snapshot_format.specs.Text.{body_text}

-- six bytes
pub record IsModem (modem : Modem) : Type 0 where
  pub six : length modem.0 ≡ 6
  pub bytes : IsBytes modem.0

-- a parameter set of parameters that fit their types
pub record IsSet (set : ParamFields) : Type 0 where
  pub priority : set.priority < 2 ^ 8
  pub max_sustained_rate : set.max_sustained_rate < 2 ^ 32
  pub max_burst : set.max_burst < 2 ^ 32
  pub min_reserved_rate : set.min_reserved_rate < 2 ^ 32
  pub request_policy : set.request_policy < 2 ^ 32
  pub polling_interval : set.polling_interval < 2 ^ 32
  pub poll_jitter : set.poll_jitter < 2 ^ 32
  pub grant_size : set.grant_size < 2 ^ 16
  pub grant_interval : set.grant_interval < 2 ^ 32
  pub grant_jitter : set.grant_jitter < 2 ^ 32
  pub grants_per_interval : set.grants_per_interval < 2 ^ 8
  pub kept : IsParameterSet set

-- sets within one another
pub record AreSets (sets : SetsFields) : Type 0 where
  pub provisioned : IfSome sets.provisioned IsSet
  pub admitted : IfSome sets.admitted IsSet
  pub active : IfSome sets.active IsSet
  pub nested : AreNested sets

-- sets that wait are within one another
abbrev pub IsPending : Pending → Type 0
IsPending pending = AreSets pending.sets

-- each number of a saved flow fits its type, and its sets are within one another
pub record IsSavedFlow (saved : SavedFlow) : Type 0 where
  pub sfid : saved.sfid < 2 ^ 32
  pub modem : IsModem saved.flow.modem
  pub sid : IfSome saved.flow.sid (λ sid. sid < 2 ^ 16)
  pub sets : AreSets saved.flow.sets
  pub pending : IfSome saved.flow.pending IsPending
  pub start : saved.flow.start < 2 ^ 32
  pub backlog : saved.flow.backlog < 2 ^ 16
  pub since : saved.flow.since < 2 ^ 32

-- each number of a cached response fits its type, its time has not ended, and where it is held no retransmission is left
pub record IsSavedEntry (entry : KeptEntry) : Type 0 where
  pub modem : IsModem entry.modem
  pub tid : entry.tid < 2 ^ 16
  pub sfid : entry.sfid < 2 ^ 32
  pub ticks : entry.ticks_left < 2 ^ 16
  pub resends : entry.resends_left < 2 ^ 8
  pub reply : IsBytes entry.reply
  pub ticking : HasTicks entry
  pub held : IsHeldUnsent entry

-- what a modem sent: bytes, or a SID and a number of minislots of 16 bits each
abbrev pub IsHeard : Heard → Type 0
IsHeard (Message bytes) = IsBytes bytes
IsHeard (Request sid minislots) = (sid < 2 ^ 16) × (minislots < 2 ^ 16)

-- an entry of the inbox: of a modem with an address of six bytes
pub record IsSavedArrival (arrival : Arrival) : Type 0 where
  pub modem : IsModem arrival.modem
  pub heard : IsHeard arrival.heard

-- the slice is one that a frame can have, and the budget has 16 bits
pub record IsSavedShare (share : Share) : Type 0 where
  pub slice : IsSlice share.slice
  pub budget : share.budget < 2 ^ 16

-- a share that waits: its frame number has 32 bits
pub record IsSavedNext (next : NextShare) : Type 0 where
  pub from : next.from < 2 ^ 32
  pub share : IsSavedShare next.share

-- what the types of a machine keep of an operator: its counts have 16 bits, its flows ascend by SFID, and each transaction has one cached
-- response
pub record IsSavedOperator (saved : SavedOperator) : Type 0 where
  pub name : IsOperatorName saved.name
  pub share : IsSavedShare saved.share
  pub next : IfSome saved.next IsSavedNext
  pub few_flows : length saved.flows < 2 ^ 16
  pub few_kept : length saved.kept < 2 ^ 16
  pub few_heard : length saved.inbox < 2 ^ 16
  pub flows : AllByRecursion IsSavedFlow saved.flows
  pub ascending : AllFollow flow_follows [] saved.flows
  pub kept : AllByRecursion IsSavedEntry saved.kept
  pub one_each : AllFollow entry_follows [] saved.kept
  pub inbox : AllByRecursion IsSavedArrival saved.inbox

-- the values that a snapshot can state: what the types keep, and numbers of lines and operators that the format has room for
pub record IsSnapshot (saved : Snapshot) : Type 0 where
  pub plant : length saved.plant < 2 ^ 32
  pub frame : saved.frame < 2 ^ 32
  pub few : length saved.operators < 2 ^ 16
  pub operators : AllByRecursion IsSavedOperator saved.operators
  pub own_names : AllFollow operator_follows [] saved.operators
  pub lines : line_count (body_text saved) < 2 ^ 32
