-- The flows of one operator by SFID, and what all of them have committed (implementation-specific).
use Rattle.std.specs.Prelude.{◌≡◌, ◌==◌, ℕ, ◌≤◌, ◌⊎◌, Bool, false, List, length, map, filter_map, find, sum_by, Option, Some, None, IfSome, unwrap_or}
use Rattle.std.specs.List.{Contains}
use Rattle.std.specs.Ordering.{nat_cmp}
use Rattle.std.specs.Map.{lookup}
use Rattle.std.specs.BTreeMap.{is_at, insert_entry}
use Rattle.param_sets.specs.Units.{UnitSizes}
use Rattle.param_sets.specs.declared.param_set.ParamFields.{ParamFields}
use Rattle.slice_scheduler.specs.declared.flowing.Flowing.{Flowing}
use Rattle.flow_table.specs.declared.flow.Flow.{Flow}
use Rattle.flow_table.specs.Flow.{committed_of}

-- what contracts see of `Flows`: for how many flows there is room, the measures of the channel, and the flows under their SFIDs, ascending
pub record FlowTable : Type 0 where
  pub capacity : ℕ
  pub units : UnitSizes
  pub flows : List (ℕ × Flow)

-- the SFIDs that are used
abbrev pub sfids_of : List (ℕ × Flow) → List ℕ
sfids_of flows = map (λ entry. entry.0) flows

-- the SIDs that are used
abbrev pub sids_of : List (ℕ × Flow) → List ℕ
sids_of flows = filter_map (λ entry. entry.1.sid) flows

-- the flow of an SFID
abbrev pub flow_at : ℕ → List (ℕ × Flow) → Option Flow
flow_at sfid flows = lookup (is_at (nat_cmp sfid)) flows

-- the SID of the flow of an SFID
abbrev pub sid_if : Option Flow → Option ℕ
sid_if None = None
sid_if (Some flow) = flow.sid

-- this SID is the flow's
abbrev pub is_sid : ℕ → Option ℕ → Bool
is_sid sid None = false
is_sid sid (Some n) = n == sid

-- the flow that has this SID, with its SFID
abbrev pub flow_with : ℕ → List (ℕ × Flow) → Option (ℕ × Flow)
flow_with sid flows = find (λ entry. is_sid sid entry.1.sid) flows

-- the minislots of a frame that all flows have committed
abbrev pub committed_minislots : UnitSizes → List (ℕ × Flow) → ℕ
committed_minislots units flows = sum_by (λ entry. (committed_of units entry.1).minislots) flows

-- the elements of a MAP that all flows have committed
abbrev pub committed_elements : UnitSizes → List (ℕ × Flow) → ℕ
committed_elements units flows = sum_by (λ entry. (committed_of units entry.1).elements) flows

-- with this flow under this SFID: where there is one it is replaced
abbrev pub with_flow : ℕ → Flow → List (ℕ × Flow) → List (ℕ × Flow)
with_flow sfid flow flows = insert_entry nat_cmp flows sfid flow

-- a flow may be under an SFID: its SID is nobody's or is that flow's already, and there is room for it
pub record HasRoomFor (table : FlowTable) (sfid : ℕ) (flow : Flow) : Type 0 where
  pub sid : IfSome flow.sid (λ sid. (¬ Contains (sids_of table.flows) sid) ⊎ (sid_if (flow_at sfid table.flows) ≡ Some sid))
  pub room : length (with_flow sfid flow table.flows) ≤ table.capacity

-- each SID is the flow's alone
abbrev pub HaveOwnSids : List (ℕ × Flow) → Type 0
HaveOwnSids flows = (sid a b : ℕ) → sid_if (flow_at a flows) ≡ Some sid → sid_if (flow_at b flows) ≡ Some sid → a ≡ b

-- ---- who is scheduled

-- a flow with an active set, as it is scheduled; it has a SID wherever a set is active
abbrev pub flowing_of_set : ℕ → Flow → Option ParamFields → Option Flowing
flowing_of_set sfid flow None = None
flowing_of_set sfid flow (Some set) = Some (record {
  sfid = sfid;
  sid = unwrap_or flow.sid 0;
  set = set;
  start = flow.start;
  backlog = flow.backlog;
  since = flow.since;
})

-- the flows with an active set, as they are scheduled, by SFID
abbrev pub flowing_in : List (ℕ × Flow) → List Flowing
flowing_in flows = filter_map (λ entry. flowing_of_set entry.0 entry.1 entry.1.sets.active) flows
