-- A tick of operators whose frames are numbered otherwise.
use Rattle.std.proofs.Common.{◌≡◌, ℕ, ◌+◌, ◌-◌, ◌==◌, ◌<◌, Bool, true, false, cond, List, [], ◌∷◌, ◌++◌, map, Option, Some, None, IfSome, refl, sym, ap, ◌∙◌, arith}
use Rattle.frame_numbers.proofs.Common.{AllByRecursion, values_of, eqb-true, eqb-false, eq-eqb, ne_eqb, map-append, recursion_from_All, map-map, UnitSizes, elements_of, granted_of, ConstsFields, RowFields, Flow, flow_after_grant, flowing_in, change_at, Output, NextShare, OperatorState, operator, resent, at_frame, all_granted, share_at, next_at, flows_left, frame_elements, frame_grants, tick_result, IsSoundFlow, IsNextShare, IsSound, next_seen, IsRenumbered, number_moved, output_moved, IsSameRun}
use Rattle.transactions.specs.Timers.{given_up_in, resent_in, kept_after}
use Rattle.operator_model.specs.declared.output.Output.TheVariants as outputs
use Rattle.operator_model.specs.declared.share.Share.{Share}
use Rattle.operator_model.proofs.LeftLemmas.{all_undone-MayStep}
use Rattle.operator_model.proofs.SoundLemmas.{sound-AreFlows}
use Rattle.frame_numbers.proofs.FlowLemmas.{turned_flow, turned-seen, granted_flow, granted-seen}
use Rattle.frame_numbers.proofs.TableLemmas.{flows_seen, change-seen, all_undone-seen}
use Rattle.frame_numbers.proofs.ScheduleLemmas.{flowing_seen, flowing_in-seen, elements-same, grants-same}

-- ---- the flows in the next frame

abbrev turned_entry : UnitSizes → ℕ × Flow → ℕ × Flow
turned_entry units entry = (entry.0, turned_flow units entry.1)

abbrev all_granted_by : List (ℕ × ℕ) → List (ℕ × Flow) → List (ℕ × Flow)
all_granted_by [] flows = flows
all_granted_by (grant ∷ grants) flows = all_granted_by grants (change_at grant.0 (granted_flow grant.1) flows)

module _ (units : UnitSizes) (frame : ℕ) where
  all_turned-seen : (flows : List (ℕ × Flow)) → AllByRecursion (IsSoundFlow frame) (values_of flows) → flows_seen units (frame + 1) flows ≡ map (turned_entry units) (flows_seen units frame flows)
  all_turned-seen [] sound = refl
  all_turned-seen (entry ∷ flows) sound = λ i. (entry.0, turned-seen units frame entry.1 sound.0.start sound.0.since i) ∷ all_turned-seen flows sound.1 i

  all_granted-seen : (grants : List (ℕ × ℕ)) (flows : List (ℕ × Flow)) → all_granted_by grants (flows_seen units (frame + 1) flows) ≡ flows_seen units (frame + 1) (all_granted frame grants flows)
  all_granted-seen [] flows = refl
  all_granted-seen (grant ∷ grants) flows =
      ap (all_granted_by grants) (change-seen units (frame + 1) grant.0 (flow_after_grant grant.1 frame) (granted_flow grant.1) (granted-seen units frame grant.1) flows)
      ∙ all_granted-seen grants (change_at grant.0 (flow_after_grant grant.1 frame) flows)

  after-seen : (grants : List (ℕ × ℕ)) (flows : List (ℕ × Flow)) → AllByRecursion (IsSoundFlow frame) (values_of flows)
      → flows_seen units (frame + 1) (all_granted frame grants flows) ≡ all_granted_by grants (map (turned_entry units) (flows_seen units frame flows))
  after-seen grants flows sound = sym (all_granted-seen grants flows) ∙ ap (all_granted_by grants) (all_turned-seen flows sound)

-- ---- the share in the next frame

abbrev share_by : Share → Option NextShare → Share
share_by share None = share
share_by share (Some next) = cond (next.from == 1) next.share share

abbrev next_by : Option NextShare → Option NextShare
next_by None = None
next_by (Some next) = cond (next.from == 1) None (Some (record { from = next.from - 1; share = next.share }))

is_next-seen : (frame from : ℕ) → frame < from → (from == frame + 1) ≡ (from - frame == 1)
is_next-seen frame from later = by (from == frame + 1) refl
  where
    by : (b : Bool) → (from == frame + 1) ≡ b → b ≡ (from - frame == 1)
    by true is = sym (eq-eqb (from - frame) 1 (omega (arith, eqb-true from (frame + 1) is)))
    by false is = sym (ne_eqb (from - frame) 1 (omega (arith, eqb-false from (frame + 1) is)))

module _ (frame : ℕ) where
  abbrev IsLater : Option NextShare → Type 0
  IsLater o = IfSome o (λ (next : NextShare). frame < next.from)

  share-seen : (share : Share) (o : Option NextShare) → IsLater o → share_at (frame + 1) share o ≡ share_by share (next_seen frame o)
  share-seen share None later = refl
  share-seen share (Some next) later = ap (λ (b : Bool). cond b next.share share) (is_next-seen frame next.from later)

  next-seen : (o : Option NextShare) → IsLater o → next_seen (frame + 1) (next_at (frame + 1) o) ≡ next_by (next_seen frame o)
  next-seen None later = refl
  next-seen (Some next) later = by (next.from == frame + 1) ∙ ap (λ (b : Bool). cond b None (Some (record { from = next.from - frame - 1; share = next.share }))) (is_next-seen frame next.from later)
    where
      by : (b : Bool) → next_seen (frame + 1) (cond b None (Some next)) ≡ cond b None (Some (record { from = next.from - frame - 1; share = next.share }))
      by true = refl
      by false = let one : next.from - (frame + 1) ≡ next.from - frame - 1 = omega arith in ap (λ (n : ℕ). Some (record { from = n; share = next.share })) one

is_later : (consts : ConstsFields) (frame committed : ℕ) (o : Option NextShare) → IfSome o (IsNextShare consts frame committed) → IfSome o (λ (next : NextShare). frame < next.from)
is_later consts frame committed None is = tt
is_later consts frame committed (Some next) is = is.to_come

-- ---- the tick

module _ (consts : ConstsFields) (row : RowFields) where
  abbrev units : UnitSizes
  units = consts.units

  left_sound : (s : OperatorState) → IsSound (operator consts row s) → AllByRecursion (IsSoundFlow s.frame) (values_of (flows_left s))
  left_sound s sound = recursion_from_All (IsSoundFlow s.frame) (values_of (flows_left s)) (all_undone-MayStep consts.units (given_up_in s.kept) s.flows (sound-AreFlows sound)).are.each

  module _ (a b : OperatorState) (same : IsRenumbered consts.units a b) where
    left-same : flows_seen units a.frame (flows_left a) ≡ flows_seen units b.frame (flows_left b)
    left-same = sym (all_undone-seen units a.frame (given_up_in a.kept) a.flows) ∙ (ap flows_left same ∙ all_undone-seen units b.frame (given_up_in b.kept) b.flows)

    flowing-same : map (flowing_seen units a.frame) (flowing_in (flows_left a)) ≡ map (flowing_seen units b.frame) (flowing_in (flows_left b))
    flowing-same = sym (flowing_in-seen units a.frame (flows_left a)) ∙ (ap flowing_in left-same ∙ flowing_in-seen units b.frame (flows_left b))

    share-same : a.share ≡ b.share
    share-same = ap (λ (s : OperatorState). s.share) same

    kept-same : a.kept ≡ b.kept
    kept-same = ap (λ (s : OperatorState). s.kept) same

    inbox-same : a.inbox ≡ b.inbox
    inbox-same = ap (λ (s : OperatorState). s.inbox) same

    next-same : next_seen a.frame a.next ≡ next_seen b.frame b.next
    next-same = ap (λ (s : OperatorState). s.next) same

    frame_elements-same : frame_elements (operator consts row a) ≡ frame_elements (operator consts row b)
    frame_elements-same =
        elements-same row.policy (at_frame (operator consts row a)) b.frame (flowing_in (flows_left a)) (flowing_in (flows_left b)) flowing-same
        ∙ ap (λ (share : Share). elements_of row.policy (record { slice = share.slice; frame = b.frame; short_max = consts.short_max; units = consts.units }) (flowing_in (flows_left b))) share-same

    frame_grants-same : frame_grants (operator consts row a) ≡ frame_grants (operator consts row b)
    frame_grants-same =
        grants-same row.policy (at_frame (operator consts row a)) b.frame (flowing_in (flows_left a)) (flowing_in (flows_left b)) flowing-same
        ∙ ap (λ (share : Share). granted_of row.policy (record { slice = share.slice; frame = b.frame; short_max = consts.short_max; units = consts.units }) (flowing_in (flows_left b))) share-same

    -- ---- what it outputs

    ticked_outputs : (from to : ℕ) → number_moved from to a.frame ≡ b.frame → (tick_result (operator consts row b)).outputs ≡ map (output_moved from to) (tick_result (operator consts row a)).outputs
    ticked_outputs from to is =
        sym (map-append (output_moved from to) (map resent (resent_in a.kept)) (outputs.Frame a.frame (frame_elements (operator consts row a)) ∷ [])
        ∙ (ap (λ (first : List Output). first ++ outputs.Frame (number_moved from to a.frame) (frame_elements (operator consts row a)) ∷ []) (map-map (output_moved from to) resent (resent_in a.kept))
        ∙ whole))
      where
        whole : map resent (resent_in a.kept) ++ outputs.Frame (number_moved from to a.frame) (frame_elements (operator consts row a)) ∷ []
            ≡ map resent (resent_in b.kept) ++ outputs.Frame b.frame (frame_elements (operator consts row b)) ∷ []
        whole = λ i. map resent (resent_in (kept-same i)) ++ outputs.Frame (is i) (frame_elements-same i) ∷ []

    -- ---- the state after it

    module _ (sound_a : IsSound (operator consts row a)) (sound_b : IsSound (operator consts row b)) where
      flows-after : flows_seen units (a.frame + 1) (all_granted a.frame (frame_grants (operator consts row a)) (flows_left a)) ≡ flows_seen units (b.frame + 1) (all_granted b.frame (frame_grants (operator consts row b)) (flows_left b))
      flows-after =
          after-seen units a.frame (frame_grants (operator consts row a)) (flows_left a) (left_sound a sound_a)
          ∙ (both ∙ sym (after-seen units b.frame (frame_grants (operator consts row b)) (flows_left b) (left_sound b sound_b)))
        where
          both : all_granted_by (frame_grants (operator consts row a)) (map (turned_entry units) (flows_seen units a.frame (flows_left a))) ≡ all_granted_by (frame_grants (operator consts row b)) (map (turned_entry units) (flows_seen units b.frame (flows_left b)))
          both = λ i. all_granted_by (frame_grants-same i) (map (turned_entry units) (left-same i))

      later-a : IfSome a.next (λ (next : NextShare). a.frame < next.from)
      later-a = is_later consts a.frame _ a.next sound_a.next

      later-b : IfSome b.next (λ (next : NextShare). b.frame < next.from)
      later-b = is_later consts b.frame _ b.next sound_b.next

      share-after : share_at (a.frame + 1) a.share a.next ≡ share_at (b.frame + 1) b.share b.next
      share-after = share-seen a.frame a.share a.next later-a ∙ (both ∙ sym (share-seen b.frame b.share b.next later-b))
        where
          both : share_by a.share (next_seen a.frame a.next) ≡ share_by b.share (next_seen b.frame b.next)
          both = λ i. share_by (share-same i) (next-same i)

      next-after : next_seen (a.frame + 1) (next_at (a.frame + 1) a.next) ≡ next_seen (b.frame + 1) (next_at (b.frame + 1) b.next)
      next-after = next-seen a.frame a.next later-a ∙ (ap next_by next-same ∙ sym (next-seen b.frame b.next later-b))

      ticked_states : IsRenumbered consts.units (tick_result (operator consts row a)).state (tick_result (operator consts row b)).state
      ticked_states = λ i. record {
        flows = flows-after i;
        kept = kept_after consts.timers (kept-same i);
        inbox = inbox-same i;
        frame = 0;
        share = share-after i;
        next = next-after i;
      }

      pub ticked_same : (from to : ℕ) → number_moved from to a.frame ≡ b.frame → IsSameRun consts.units from to (tick_result (operator consts row a)) (tick_result (operator consts row b))
      ticked_same from to is = record { outputs = ticked_outputs from to is; states = ticked_states }
