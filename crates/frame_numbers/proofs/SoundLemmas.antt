-- A sound state is sound under other frame numbers.
use Rattle.std.proofs.Common.{◌≡◌, ℕ, List, [], ◌∷◌, map, option_map, Option, Some, None, IfSome, IsSome, All, refl, sym, ap, ◌∙◌, subst, arith}
use Rattle.frame_numbers.proofs.Common.{AllByRecursion, nat_cmp, keys_of, values_of, is_at, length-map, All-from_recursion, recursion_from_All, All-weaker, lookup-map_values, map-map, Kind, Dsa, Dsc, Dsd, IsIn, KeptEntry, UnitSizes, ConstsFields, RowFields, Flow, Pending, committed_of, flow_at, sid_if, sids_of, committed_minislots, committed_elements, HaveOwnSids, NextShare, OperatorState, operator, IsSoundPending, IsSoundFlow, IsWaitingOf, HasItsFlow, IsNextShare, IsSound, flow_renumbered, next_renumbered}
use Rattle.std.specs.List.Sorted.{IsStrictlySortedBy}
use Rattle.frame_numbers.proofs.EntryLemmas.{on_value, filter_map-map, sum_by-map}

module _ (units : UnitSizes) (from to : ℕ) where
  abbrev other : Flow → Flow
  other flow = flow_renumbered units from to flow

  abbrev pub flows_renumbered : List (ℕ × Flow) → List (ℕ × Flow)
  flows_renumbered flows = map (on_value other) flows

  -- ---- the identifiers

  keys-same : (flows : List (ℕ × Flow)) → keys_of (flows_renumbered flows) ≡ keys_of flows
  keys-same flows = map-map (λ (entry : ℕ × Flow). entry.0) (on_value other) flows

  sids-same : (flows : List (ℕ × Flow)) → sids_of (flows_renumbered flows) ≡ sids_of flows
  sids-same flows = filter_map-map (λ (entry : ℕ × Flow). entry.1.sid) (on_value other) flows

  at-other : (sfid : ℕ) (flows : List (ℕ × Flow)) → flow_at sfid (flows_renumbered flows) ≡ option_map other (flow_at sfid flows)
  at-other sfid flows = lookup-map_values other (is_at (nat_cmp sfid)) flows

  sid-same : (sfid : ℕ) (flows : List (ℕ × Flow)) → sid_if (flow_at sfid (flows_renumbered flows)) ≡ sid_if (flow_at sfid flows)
  sid-same sfid flows = ap sid_if (at-other sfid flows) ∙ by (flow_at sfid flows)
    where
      by : (o : Option Flow) → sid_if (option_map other o) ≡ sid_if o
      by None = refl
      by (Some flow) = refl

  own_sids-other : (flows : List (ℕ × Flow)) → HaveOwnSids flows → HaveOwnSids (flows_renumbered flows)
  own_sids-other flows own = λ sid a b has_a has_b. own sid a b (sym (sid-same a flows) ∙ has_a) (sym (sid-same b flows) ∙ has_b)

  -- ---- each flow

  flow-other : (flow : Flow) → IsSoundFlow from flow → IsSoundFlow to (other flow)
  flow-other flow sound = record {
    nested = sound.nested;
    kinds = sound.kinds;
    has_sid = sound.has_sid;
    no_backlog = sound.no_backlog;
    start = omega arith;
    since = omega arith;
    pending = by flow.pending sound.pending;
  }
    where
      by : (o : Option Pending) → IfSome o (IsSoundPending flow) → IfSome o (IsSoundPending (other flow))
      by None is = tt
      by (Some pending) is = record { nested = is.nested; kinds = is.kinds; provisioned = is.provisioned; new_sid = is.new_sid; has_sid = is.has_sid }

  each-other : (flows : List (ℕ × Flow)) → AllByRecursion (IsSoundFlow from) (values_of flows) → AllByRecursion (IsSoundFlow to) (values_of (flows_renumbered flows))
  each-other [] sound = tt
  each-other (entry ∷ flows) sound = (flow-other entry.1 sound.0, each-other flows sound.1)

  flows-other : (flows : List (ℕ × Flow)) → All (IsSoundFlow from) (values_of flows) → All (IsSoundFlow to) (values_of (flows_renumbered flows))
  flows-other flows sound = All-from_recursion (IsSoundFlow to) (values_of (flows_renumbered flows)) (each-other flows (recursion_from_All (IsSoundFlow from) (values_of flows) sound))

  -- ---- each response

  waits-other : (kind : Kind) (o : Option Flow) → IsSome o × IfSome o (IsWaitingOf kind) → IsSome (option_map other o) × IfSome (option_map other o) (IsWaitingOf kind)
  waits-other kind None has = has
  waits-other Dsa (Some flow) has = has
  waits-other Dsc (Some flow) has = has
  waits-other Dsd (Some flow) has = has

  has-other : (flows : List (ℕ × Flow)) (entry : KeptEntry) → HasItsFlow flows entry → HasItsFlow (flows_renumbered flows) entry
  has-other flows entry has waits = subst (λ (o : Option Flow). IsSome o × IfSome o (IsWaitingOf entry.kind)) (sym (at-other entry.sfid flows)) (waits-other entry.kind (flow_at entry.sfid flows) (has waits))

  -- ---- the state

  minislots-same : (sizes : UnitSizes) (flows : List (ℕ × Flow)) → committed_minislots sizes (flows_renumbered flows) ≡ committed_minislots sizes flows
  minislots-same sizes flows = sum_by-map (λ (entry : ℕ × Flow). (committed_of sizes entry.1).minislots) (on_value other) flows

  elements-same : (sizes : UnitSizes) (flows : List (ℕ × Flow)) → committed_elements sizes (flows_renumbered flows) ≡ committed_elements sizes flows
  elements-same sizes flows = sum_by-map (λ (entry : ℕ × Flow). (committed_of sizes entry.1).elements) (on_value other) flows

  next-other : (consts : ConstsFields) (a b : ℕ) (o : Option NextShare) → a ≡ b → IfSome o (IsNextShare consts from a) → IfSome (next_renumbered from to o) (IsNextShare consts to b)
  next-other consts a b None same is = tt
  next-other consts a b (Some next) same is = record { share = is.share; to_come = omega (arith, is.to_come); fits = omega (arith, is.fits) }

  abbrev pub state_renumbered : OperatorState → OperatorState
  state_renumbered state = record state { flows = flows_renumbered state.flows; frame = to; next = next_renumbered from to state.next }

  pub sound-other : (consts : ConstsFields) (row : RowFields) (state : OperatorState) → state.frame ≡ from → IsSound (operator consts row state) → IsSound (operator consts row (state_renumbered state))
  sound-other consts row state is sound = record {
    ascending = subst (λ (keys : List ℕ). IsStrictlySortedBy nat_cmp keys) (sym (keys-same state.flows)) sound.ascending;
    sfids = subst (λ (sfids : List ℕ). All (IsIn row.sfids) sfids) (sym (keys-same state.flows)) sound.sfids;
    sids = subst (λ (sids : List ℕ). All (IsIn row.sids) sids) (sym (sids-same state.flows)) sound.sids;
    own_sids = own_sids-other state.flows sound.own_sids;
    flows = flows-other state.flows (subst (λ (frame : ℕ). All (IsSoundFlow frame) (values_of state.flows)) is sound.flows);
    few_flows = omega (arith, length-map state.flows (on_value other), sound.few_flows);
    few_kept = sound.few_kept;
    few_heard = sound.few_heard;
    waiting = All-weaker (HasItsFlow state.flows) (HasItsFlow (flows_renumbered state.flows)) (has-other state.flows) state.kept sound.waiting;
    own_flows = sound.own_flows;
    elements = omega (arith, elements-same consts.units state.flows, sound.elements);
    minislots = omega (arith, minislots-same consts.units state.flows, sound.minislots);
    share = sound.share;
    next = next-other consts (committed_minislots consts.units state.flows) (committed_minislots consts.units (flows_renumbered state.flows)) state.next (sym (minislots-same consts.units state.flows))
        (subst (λ (frame : ℕ). IfSome state.next (IsNextShare consts frame (committed_minislots consts.units state.flows))) is sound.next);
  }
