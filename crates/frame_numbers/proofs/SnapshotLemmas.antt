-- A snapshot under other frame numbers holds the same states.
use Rattle.std.proofs.Common.{◌≡◌, ℕ, ◌+◌, ◌-◌, ◌%◌, ◌==◌, ◌≤◌, min, Bool, true, false, cond, not, List, [], ◌∷◌, map, Option, Some, None, refl, sym, ap, ◌∙◌, subst, arith, nat_le}
use Rattle.frame_numbers.proofs.Common.{list_all, AllZip, leb-true, and_parts, mod-mod, UnitSizes, ConstsFields, Flow, NextShare, OperatorState, operator, IsSound, interval_if, place_in, flow_seen, entry_seen, next_seen, IsRenumbered, start_distance, since_distance, flow_renumbered, saved_flow_renumbered, next_renumbered, operator_renumbered, flow_fits, flows_fit, next_fits, renumber_refusal, IsRenumberedUnder, IsRenumberedSnapshot}
use Rattle.map_assembly.specs.Map.{frame_start}
use Rattle.snapshot_format.specs.declared.saved.SavedFlow.{SavedFlow}
use Rattle.snapshot_format.specs.declared.saved.SavedOperator.{SavedOperator}
use Rattle.snapshot_format.specs.declared.saved.Snapshot.{Snapshot}
use Rattle.snapshot_format.specs.States.{sfid_with_flow, state_of, states_of}
use Rattle.frame_numbers.specs.declared.fault.RenumberFault.TheVariants.{TimeSteps, TooLow, TooHigh}
use Rattle.frame_numbers.proofs.SoundLemmas.{flows_renumbered, state_renumbered, sound-other}

place-again : (interval : Option ℕ) (frames : ℕ) → place_in interval (place_in interval frames) ≡ place_in interval frames
place-again None frames = refl
place-again (Some interval) frames = by (interval == 0)
  where
    by : (b : Bool) → cond b 0 (cond b 0 (frames % interval) % interval) ≡ cond b 0 (frames % interval)
    by true = refl
    by false = mod-mod frames interval

module _ (units : UnitSizes) (from to : ℕ) where
  flow-seen : (flow : Flow) → start_distance units from flow ≤ to → since_distance from flow ≤ to → flow_seen units from flow ≡ flow_seen units to (flow_renumbered units from to flow)
  flow-seen flow start since = λ i. record flow { start = sym places i; since = sym ages i }
    where
      back : to - (to - start_distance units from flow) ≡ start_distance units from flow
      back = omega arith

      places : place_in (interval_if units flow.sets.active) (to - (to - start_distance units from flow)) ≡ start_distance units from flow
      places = ap (place_in (interval_if units flow.sets.active)) back ∙ place-again (interval_if units flow.sets.active) (from - flow.start)

      ages : min 255 (to - (to - since_distance from flow)) ≡ since_distance from flow
      ages = omega arith

  flows-seen : (flows : List SavedFlow) → list_all (flow_fits units from to) flows ≡ true
      → map (entry_seen units from) (map sfid_with_flow flows) ≡ map (entry_seen units to) (map sfid_with_flow (map (saved_flow_renumbered units from to) flows))
  flows-seen [] fit = refl
  flows-seen (saved ∷ flows) fit =
      let parts = and_parts (flow_fits units from to saved) (list_all (flow_fits units from to) flows) fit in
      let numbers = and_parts (nat_le (start_distance units from saved.flow) to) (nat_le (since_distance from saved.flow) to) parts.0 in
      let first = flow-seen saved.flow (leb-true (start_distance units from saved.flow) to numbers.0) (leb-true (since_distance from saved.flow) to numbers.1) in
      let rest = flows-seen flows parts.1 in
      λ i. (saved.sfid, first i) ∷ rest i

  next-seen : (o : Option NextShare) → next_seen from o ≡ next_seen to (next_renumbered from to o)
  next-seen None = refl
  next-seen (Some next) = let wait : next.from - from ≡ to + (next.from - from) - to = omega arith in ap (λ (n : ℕ). Some (record { from = n; share = next.share })) wait

  state-seen : (saved : SavedOperator) → flows_fit units from to saved ≡ true → IsRenumbered units (state_of from saved) (state_of to (operator_renumbered units from to saved))
  state-seen saved fit = λ i. record { flows = flows-seen saved.flows fit i; kept = saved.kept; inbox = saved.inbox; frame = 0; share = saved.share; next = next-seen saved.next i }

  flows-are : (flows : List SavedFlow) → flows_renumbered units from to (map sfid_with_flow flows) ≡ map sfid_with_flow (map (saved_flow_renumbered units from to) flows)
  flows-are [] = refl
  flows-are (saved ∷ flows) = ap (λ (rest : List (ℕ × Flow)). (saved.sfid, flow_renumbered units from to saved.flow) ∷ rest) (flows-are flows)

  state-are : (saved : SavedOperator) → state_renumbered units from to (state_of from saved) ≡ state_of to (operator_renumbered units from to saved)
  state-are saved = ap (λ (flows : List (ℕ × Flow)). record { flows = flows; kept = saved.kept; inbox = saved.inbox; frame = to; share = saved.share; next = next_renumbered from to saved.next }) (flows-are saved.flows)

  operator-renumbered : (saved : SavedOperator) → flows_fit units from to saved ≡ true → IsRenumberedUnder units (saved.name, state_of from saved) (saved.name, state_of to (operator_renumbered units from to saved))
  operator-renumbered saved fit = record {
    name = refl;
    state = state-seen saved fit;
    sound = λ consts row sound. subst (λ (state : OperatorState). IsSound (operator consts row state)) (state-are saved) (sound-other units from to consts row (state_of from saved) refl sound);
  }

  operators-renumbered : (operators : List SavedOperator) → list_all (flows_fit units from to) operators ≡ true
      → AllZip (IsRenumberedUnder units) (map (λ (saved : SavedOperator). (saved.name, state_of from saved)) operators)
      (map (λ (saved : SavedOperator). (saved.name, state_of to saved)) (map (operator_renumbered units from to) operators))
  operators-renumbered [] fit = tt
  operators-renumbered (saved ∷ operators) fit =
      let parts = and_parts (flows_fit units from to saved) (list_all (flows_fit units from to) operators) fit in
      (operator-renumbered saved parts.0, operators-renumbered operators parts.1)

-- ---- what is not refused

-- every test that would refuse holds
pub record IsAccepted (consts : ConstsFields) (to : ℕ) (saved : Snapshot) : Type 0 where
  pub flows : list_all (flows_fit consts.units saved.frame to) saved.operators ≡ true
  pub next : list_all (next_fits saved.frame to) saved.operators ≡ true

pub accepted : (consts : ConstsFields) (to : ℕ) (saved : Snapshot) → renumber_refusal consts to saved ≡ None → IsAccepted consts to saved
accepted consts to saved = by (frame_start consts.channel to == frame_start consts.channel saved.frame) (list_all (flows_fit consts.units saved.frame to) saved.operators) refl (list_all (next_fits saved.frame to) saved.operators) refl
  where
    by : (a b : Bool) → list_all (flows_fit consts.units saved.frame to) saved.operators ≡ b → (c : Bool) → list_all (next_fits saved.frame to) saved.operators ≡ c
        → cond (not a) (Some TimeSteps) (cond (not b) (Some TooLow) (cond (not c) (Some TooHigh) None)) ≡ None → IsAccepted consts to saved
    by true true flows true next none = record { flows = flows; next = next }
    by true true flows false next none = cc
    by true false flows c next none = cc
    by false b flows c next none = cc

pub snapshot_renumbered : (consts : ConstsFields) (to : ℕ) (saved other : Snapshot) → renumber_refusal consts to saved ≡ None → other.plant ≡ saved.plant → other.frame ≡ to
    → other.operators ≡ map (operator_renumbered consts.units saved.frame to) saved.operators → IsRenumberedSnapshot consts.units to saved other
snapshot_renumbered consts to saved other none plant frame operators = record {
  plant = plant;
  frame = frame;
  states =
      subst (λ (n : ℕ). AllZip (IsRenumberedUnder consts.units) (states_of saved) (map (λ (o : SavedOperator). (o.name, state_of n o)) other.operators)) (sym frame)
      (subst (λ (all : List SavedOperator). AllZip (IsRenumberedUnder consts.units) (states_of saved) (map (λ (o : SavedOperator). (o.name, state_of to o)) all)) (sym operators)
      (operators-renumbered consts.units saved.frame to saved.operators (accepted consts to saved none).flows));
}
