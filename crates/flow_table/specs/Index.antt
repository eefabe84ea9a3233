-- What the flows of one operator keep inside: the index by SID, and the rows of the ledger (implementation-specific).
use Rattle.std.specs.Prelude.{◌≡◌, ◌≢◌, ℕ, ◌≤◌, ◌↔◌, Bool, false, cond, List, length, map, filter, filter_map}
use Rattle.std.specs.Prelude.{is_some, IsSome, Option, Some, None, option_map}
use Rattle.std.specs.Global.{Box}
use Rattle.std.specs.List.Sorted.{IsStrictlySortedBy}
use Rattle.std.specs.Ordering.{nat_cmp}
use Rattle.std.specs.Map.{keys_of, lookup, remove_entry}
use Rattle.std.specs.BTreeMap.{is_at, insert_entry}
use Rattle.slab.specs.Slab.{Slab, get}
use Rattle.admission.specs.declared.budget.Budget.{Budget}
use Rattle.admission.specs.Ledger.{LedgerView}
use Rattle.param_sets.specs.Units.{UnitSizes}
use Rattle.flow_table.specs.declared.flow.Activity.{Activity}
use Rattle.flow_table.specs.declared.flow.Activity.TheVariants.{Idle, Active}
use Rattle.flow_table.specs.declared.flow.Flow.{Flow}
use Rattle.flow_table.specs.Flow.{committed_of}
use Rattle.flow_table.specs.Table.{flow_at, sid_if, is_sid}

-- the flow at a place
abbrev pub flow_in : Slab (Box Flow) → ℕ → Option Flow
flow_in rows place = option_map (λ boxed. boxed.value) (get rows place)

-- the place of the flow of an SFID
abbrev pub place_at : ℕ → List (ℕ × ℕ) → Option ℕ
place_at sfid places = lookup (is_at (nat_cmp sfid)) places

-- the places with this one for an SFID, unless it had one
abbrev pub with_place : ℕ → ℕ → Option ℕ → List (ℕ × ℕ) → List (ℕ × ℕ)
with_place sfid place None places = insert_entry nat_cmp places sfid place
with_place sfid place (Some had) places = places

-- the flows at their places, each under its SFID
abbrev pub flows_by : (ℕ → Option Flow) → List (ℕ × ℕ) → List (ℕ × Flow)
flows_by at places = filter_map (λ entry. option_map (λ flow. (entry.0, flow)) (at entry.1)) places

-- the flows of one operator, each under its SFID
abbrev pub flows_of : Slab (Box Flow) → List (ℕ × ℕ) → List (ℕ × Flow)
flows_of rows places = flows_by (flow_in rows) places

-- there is a flow with an active set
abbrev pub is_active : Option Flow → Bool
is_active None = false
is_active (Some flow) = is_some flow.sets.active

-- the SFID and the place of each flow that has an active set
abbrev pub active_by : (ℕ → Option Flow) → List (ℕ × ℕ) → List (ℕ × ℕ)
active_by at places = filter (λ entry. is_active (at entry.1)) places

-- the places with this one for this SFID, or without one
abbrev pub with_activity : ℕ → ℕ → Activity → List (ℕ × ℕ) → List (ℕ × ℕ)
with_activity sfid place Idle rows = remove_entry (is_at (nat_cmp sfid)) rows
with_activity sfid place Active rows = insert_entry nat_cmp rows sfid place

-- the places ascend by SFID, and each has a flow and is of one SFID alone
pub record ArePlaced (at : ℕ → Option Flow) (places : List (ℕ × ℕ)) : Type 0 where
  pub ascending : IsStrictlySortedBy nat_cmp (keys_of places)
  pub there : (sfid place : ℕ) → place_at sfid places ≡ Some place → IsSome (at place)
  pub own : (a b place : ℕ) → place_at a places ≡ Some place → place_at b places ≡ Some place → a ≡ b

-- the flows are placed, the rows of those with an active set are theirs, and there is room for a row of each flow
pub record IsFlowRows (at : ℕ → Option Flow) (places active : List (ℕ × ℕ)) (room : ℕ) : Type 0 where
  pub placed : ArePlaced at places
  pub rows : active ≡ active_by at places
  pub room_for_each : length places ≤ room

-- the flow at one place is changed so, and no other
pub record IsChangedAt (place : ℕ) (change : Flow → Flow) (old new : ℕ → Option Flow) : Type 0 where
  pub here : new place ≡ option_map change (old place)
  pub others : (other : ℕ) → other ≢ place → new other ≡ old other

-- the row of each flow: its SFID, and what it has committed
abbrev pub budgets_of : UnitSizes → List (ℕ × Flow) → List (ℕ × Budget)
budgets_of units flows = map (λ entry. (entry.0, committed_of units entry.1)) flows

-- the SFID that the index gives for a SID
abbrev pub sfid_at : ℕ → List (ℕ × ℕ) → Option ℕ
sfid_at sid index = lookup (is_at (nat_cmp sid)) index

-- the flows ascend by SFID and the index by SID, and the index gives for each SID that a flow has this flow's SFID
pub record IsIndex (flows : List (ℕ × Flow)) (index : List (ℕ × ℕ)) : Type 0 where
  pub ascending : IsStrictlySortedBy nat_cmp (keys_of flows)
  pub sids_ascend : IsStrictlySortedBy nat_cmp (keys_of index)
  pub finds : (sid sfid : ℕ) → (sfid_at sid index ≡ Some sfid) ↔ (sid_if (flow_at sfid flows) ≡ Some sid)

-- what the flows of one operator keep: there is room for each, the index is theirs, and so are the rows of the ledger
pub record IsFlowTable (capacity : ℕ) (units : UnitSizes) (flows : List (ℕ × Flow)) (index : List (ℕ × ℕ)) (ledger : LedgerView) : Type 0 where
  pub within : length flows ≤ capacity
  pub indexed : IsIndex flows index
  pub room : ledger.room ≡ capacity
  pub rows : ledger.rows ≡ budgets_of units flows

-- the index with this SFID for this SID, where there is one
abbrev pub with_sid_of : Option ℕ → ℕ → List (ℕ × ℕ) → List (ℕ × ℕ)
with_sid_of None sfid index = index
with_sid_of (Some sid) sfid index = insert_entry nat_cmp index sid sfid

-- the index without the SID that a flow had, where it has it no more
abbrev pub without_sid_of : Option ℕ → Option ℕ → List (ℕ × ℕ) → List (ℕ × ℕ)
without_sid_of None has index = index
without_sid_of (Some sid) has index = cond (is_sid sid has) index (remove_entry (is_at (nat_cmp sid)) index)
