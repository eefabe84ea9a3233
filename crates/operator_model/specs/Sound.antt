-- What always holds of a machine's state (implementation-specific).
use Rattle.std.specs.Prelude.{◌≡◌, ℕ, ◌+◌, ◌<◌, ◌≤◌, true, false, List, length, All, AllPairs, None, IfSome, IsSome, ◌≢◌}
use Rattle.std.specs.Ordering.{nat_cmp}
use Rattle.std.specs.List.Sorted.{IsStrictlySortedBy}
use Rattle.std.specs.Map.{keys_of, values_of}
use Rattle.dsx_messages.specs.declared.kind.Kind.{Kind}
use Rattle.dsx_messages.specs.declared.kind.Kind.TheVariants.{Dsa, Dsc, Dsd}
use Rattle.admission.specs.Free.{IsIn}
use Rattle.transactions.specs.declared.entry.KeptEntry.{KeptEntry}
use Rattle.transactions.specs.Entry.{is_waiting}
use Rattle.param_sets.specs.ParamSet.{IsOfKind}
use Rattle.param_sets.specs.Sets.{AreNested}
use Rattle.param_sets.specs.declared.param_set.ParamFields.{ParamFields}
use Rattle.param_sets.specs.declared.sets.SetsFields.{SetsFields}
use Rattle.plant.specs.declared.consts.ConstsFields.{ConstsFields}
use Rattle.flow_table.specs.declared.flow.Flow.{Flow}
use Rattle.flow_table.specs.declared.flow.Pending.{Pending}
use Rattle.flow_table.specs.Flow.{asks_for_grants}
use Rattle.flow_table.specs.Table.{sfids_of, sids_of, flow_at, committed_minislots, committed_elements, HaveOwnSids}
use Rattle.operator_model.specs.declared.share.Share.{Share}
use Rattle.operator_model.specs.declared.share.NextShare.{NextShare}
use Rattle.operator_model.specs.State.{Operator}

-- ---- one flow

-- a set keeps what its kind of scheduling keeps
abbrev pub KeepsItsKind : ParamFields → Type 0
KeepsItsKind set = IsOfKind set.scheduling set

-- each set keeps what its kind of scheduling keeps
pub record AreOfTheirKinds (sets : SetsFields) : Type 0 where
  pub admitted : IfSome sets.admitted KeepsItsKind
  pub active : IfSome sets.active KeepsItsKind

-- sets that wait: they are nested, the flow was provisioned with the same, and where the SID is new none was admitted before
pub record IsSoundPending (flow : Flow) (pending : Pending) : Type 0 where
  pub nested : AreNested pending.sets
  pub kinds : AreOfTheirKinds pending.sets
  pub provisioned : pending.sets.provisioned ≡ flow.sets.provisioned
  pub new_sid : pending.sid_is_new ≡ true → flow.sets.admitted ≡ None
  pub has_sid : IsSome pending.sets.admitted → IsSome flow.sid

-- a flow has a SID where a set is admitted, has no backlog where it may not ask, and is not of a later frame
pub record IsSoundFlow (frame : ℕ) (flow : Flow) : Type 0 where
  pub nested : AreNested flow.sets
  pub kinds : AreOfTheirKinds flow.sets
  pub has_sid : IsSome flow.sets.admitted → IsSome flow.sid
  pub no_backlog : asks_for_grants flow.sets.active ≡ false → flow.backlog ≡ 0
  pub start : flow.start ≤ frame
  pub since : flow.since ≤ frame
  pub pending : IfSome flow.pending (IsSoundPending flow)

-- ---- transactions that wait

-- a flow that was added, and not acknowledged: it has no set yet
abbrev pub IsNew : Flow → Type 0
IsNew flow = flow.sets ≡ record { provisioned = None; admitted = None; active = None }

-- what waits for an acknowledgement of an addition is a new flow, and of a change a flow; a deletion waits for none
abbrev pub IsWaitingOf : Kind → Flow → Type 0
IsWaitingOf Dsa flow = IsSome flow.pending × IsNew flow
IsWaitingOf Dsc flow = IsSome flow.pending
IsWaitingOf Dsd flow = ⊥

-- the flow of a transaction that waits is there, and waits
abbrev pub HasItsFlow : List (ℕ × Flow) → KeptEntry → Type 0
HasItsFlow flows entry = is_waiting entry ≡ true → IsSome (flow_at entry.sfid flows) × IfSome (flow_at entry.sfid flows) (IsWaitingOf entry.kind)

-- of two transactions that wait, each has a flow of its own
abbrev pub HaveOwnFlows : List KeptEntry → Type 0
HaveOwnFlows kept = AllPairs (λ a b. is_waiting a ≡ true → is_waiting b ≡ true → a.sfid ≢ b.sfid) kept

-- ---- shares

-- a share lies after the head and within the frame, and its budget is at most its slice
pub record IsShare (consts : ConstsFields) (share : Share) : Type 0 where
  pub some : 1 ≤ share.slice.length
  pub behind_head : consts.channel.head ≤ share.slice.start
  pub within_frame : share.slice.start + share.slice.length ≤ consts.channel.frame_minislots
  pub budget : share.budget ≤ share.slice.length

-- a share that waits is one, its frame is to come, and what is committed fits it too
pub record IsNextShare (consts : ConstsFields) (frame committed : ℕ) (next : NextShare) : Type 0 where
  pub share : IsShare consts next.share
  pub to_come : frame < next.from
  pub fits : committed ≤ next.share.budget

-- ---- the state

-- what always holds of an operator's state: it keeps the row's ranges, limits and quota, and the budget in force and the one that waits
pub record IsSound (op : Operator) : Type 0 where
  -- a flow's SFID and SID lie in the row's ranges and are its own
  pub ascending : IsStrictlySortedBy nat_cmp (keys_of op.state.flows)
  pub sfids : All (IsIn op.row.sfids) (sfids_of op.state.flows)
  pub sids : All (IsIn op.row.sids) (sids_of op.state.flows)
  pub own_sids : HaveOwnSids op.state.flows
  pub flows : All (IsSoundFlow op.state.frame) (values_of op.state.flows)
  -- flows, cached responses and inbox never pass the row's limits
  pub few_flows : length op.state.flows ≤ op.row.flows
  pub few_kept : length op.state.kept ≤ op.row.transactions
  pub few_heard : length op.state.inbox ≤ op.row.inbox
  -- each transaction that waits has a flow of its own
  pub waiting : All (HasItsFlow op.state.flows) op.state.kept
  pub own_flows : HaveOwnFlows op.state.kept
  -- what is committed never passes the quota, the budget in force, nor the one that waits
  pub elements : committed_elements op.consts.units op.state.flows ≤ op.row.elements
  pub minislots : committed_minislots op.consts.units op.state.flows ≤ op.state.share.budget
  pub share : IsShare op.consts op.state.share
  pub next : IfSome op.state.next (IsNextShare op.consts op.state.frame (committed_minislots op.consts.units op.state.flows))
