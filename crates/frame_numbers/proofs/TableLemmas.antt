-- What becomes of the flows of an operator as they are seen.
use Rattle.std.proofs.Common.{◌≡◌, ℕ, ◌==◌, Bool, true, false, cond, List, [], ◌∷◌, length, map, option_map, Option, Some, None, refl, ap, ◌∙◌}
use Rattle.frame_numbers.proofs.Common.{nat_cmp, is_at, length-map, map-map, lookup-map_values, Kind, Dsa, Dsc, Dsd, UnitSizes, Flow, flow_after_ack, taken_back, committed_of, flow_at, with_flow, flow_with, is_sid, sfids_of, sids_of, committed_minislots, committed_elements, change_if, change_at, without_flow, undone, flows_acked, all_undone, flow_seen, entry_seen}
use Rattle.transactions.specs.declared.tick.GivenUp.{GivenUp}
use Rattle.frame_numbers.proofs.EntryLemmas.{find-map, filter_map-map, sum_by-map, insert-map, remove-map}
use Rattle.frame_numbers.proofs.FlowLemmas.{acked-seen, taken_back-seen}

module _ (units : UnitSizes) (frame : ℕ) where
  abbrev pub flows_seen : List (ℕ × Flow) → List (ℕ × Flow)
  flows_seen flows = map (entry_seen units frame) flows

  -- ---- what is looked up

  pub at-seen : (sfid : ℕ) (flows : List (ℕ × Flow)) → flow_at sfid (flows_seen flows) ≡ option_map (flow_seen units frame) (flow_at sfid flows)
  at-seen sfid flows = lookup-map_values (flow_seen units frame) (is_at (nat_cmp sfid)) flows

  pub found-seen : (sid : ℕ) (flows : List (ℕ × Flow)) → flow_with sid (flows_seen flows) ≡ option_map (entry_seen units frame) (flow_with sid flows)
  found-seen sid flows = find-map (λ (entry : ℕ × Flow). is_sid sid entry.1.sid) (entry_seen units frame) flows

  pub sfids-seen : (flows : List (ℕ × Flow)) → sfids_of (flows_seen flows) ≡ sfids_of flows
  sfids-seen flows = map-map (λ (entry : ℕ × Flow). entry.0) (entry_seen units frame) flows

  pub sids-seen : (flows : List (ℕ × Flow)) → sids_of (flows_seen flows) ≡ sids_of flows
  sids-seen flows = filter_map-map (λ (entry : ℕ × Flow). entry.1.sid) (entry_seen units frame) flows

  pub length-seen : (flows : List (ℕ × Flow)) → length (flows_seen flows) ≡ length flows
  length-seen flows = length-map flows (entry_seen units frame)

  pub minislots-seen : (sizes : UnitSizes) (flows : List (ℕ × Flow)) → committed_minislots sizes (flows_seen flows) ≡ committed_minislots sizes flows
  minislots-seen sizes flows = sum_by-map (λ (entry : ℕ × Flow). (committed_of sizes entry.1).minislots) (entry_seen units frame) flows

  pub elements-seen : (sizes : UnitSizes) (flows : List (ℕ × Flow)) → committed_elements sizes (flows_seen flows) ≡ committed_elements sizes flows
  elements-seen sizes flows = sum_by-map (λ (entry : ℕ × Flow). (committed_of sizes entry.1).elements) (entry_seen units frame) flows

  -- ---- what is changed

  pub with-seen : (sfid : ℕ) (flow : Flow) (flows : List (ℕ × Flow)) → with_flow sfid (flow_seen units frame flow) (flows_seen flows) ≡ flows_seen (with_flow sfid flow flows)
  with-seen sfid flow flows = insert-map (flow_seen units frame) flows sfid flow

  pub without-seen : (sfid : ℕ) (flows : List (ℕ × Flow)) → without_flow sfid (flows_seen flows) ≡ flows_seen (without_flow sfid flows)
  without-seen sfid flows = remove-map (flow_seen units frame) (is_at (nat_cmp sfid)) flows

  -- a change that is seen as another one
  pub change-seen : (sfid : ℕ) (change other : Flow → Flow) → ((flow : Flow) → other (flow_seen units frame flow) ≡ flow_seen units frame (change flow)) → (flows : List (ℕ × Flow))
      → change_at sfid other (flows_seen flows) ≡ flows_seen (change_at sfid change flows)
  change-seen sfid change other same flows = ap (change_if sfid other (flows_seen flows)) (at-seen sfid flows) ∙ by (flow_at sfid flows)
    where
      by : (o : Option Flow) → change_if sfid other (flows_seen flows) (option_map (flow_seen units frame) o) ≡ flows_seen (change_if sfid change flows o)
      by None = refl
      by (Some flow) = ap (λ (f : Flow). with_flow sfid f (flows_seen flows)) (same flow) ∙ with-seen sfid (change flow) flows

  pub undone-seen : (kind : Kind) (sfid : ℕ) (flows : List (ℕ × Flow)) → undone kind sfid (flows_seen flows) ≡ flows_seen (undone kind sfid flows)
  undone-seen Dsa sfid flows = without-seen sfid flows
  undone-seen Dsc sfid flows = change-seen sfid taken_back taken_back (taken_back-seen units frame) flows
  undone-seen Dsd sfid flows = refl

  pub all_undone-seen : (given_up : List GivenUp) (flows : List (ℕ × Flow)) → all_undone given_up (flows_seen flows) ≡ flows_seen (all_undone given_up flows)
  all_undone-seen [] flows = refl
  all_undone-seen (g ∷ given_up) flows = ap (all_undone given_up) (undone-seen g.kind g.sfid flows) ∙ all_undone-seen given_up (undone g.kind g.sfid flows)

  pub acked_flows-seen : (kind : Kind) (code sfid : ℕ) (flows : List (ℕ × Flow)) → flows_acked kind code 0 sfid (flows_seen flows) ≡ flows_seen (flows_acked kind code frame sfid flows)
  acked_flows-seen kind code sfid flows = by (code == 0)
    where
      by : (b : Bool) → cond b (change_at sfid (flow_after_ack 0) (flows_seen flows)) (undone kind sfid (flows_seen flows)) ≡ flows_seen (cond b (change_at sfid (flow_after_ack frame) flows) (undone kind sfid flows))
      by true = change-seen sfid (flow_after_ack frame) (flow_after_ack 0) (acked-seen units frame) flows
      by false = undone-seen kind sfid flows
