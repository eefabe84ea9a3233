-- The schedule of a frame asks of the flows what is seen of them alone.
use Rattle.std.proofs.Common.{◌≡◌, ℕ, ◌+◌, ◌-◌, ◌%◌, ◌==◌, min, Bool, true, false, cond, List, [], ◌∷◌, ◌++◌, filter, map, sum_by, Option, Some, None, refl, sym, ap, ◌∙◌, nat_lt, unwrap_or, arith}
use Rattle.frame_numbers.proofs.Common.{cons_option, flat_map, map-map, mod-mod, UnitSizes, reserve_of, by_rank, award_pieces, idle, spans_from, minislots_in, elements_of, granted_of, Flow, flowing_of_set, flowing_in, interval_if, place_in, flow_seen}
use Rattle.std.proofs.lemmas.List.Folds.{flat_map-map}
use Rattle.grant_policy.specs.Rank.{rank_of}
use Rattle.grant_policy.specs.declared.policy.Policy.{Policy}
use Rattle.param_sets.specs.declared.param_set.ParamFields.{ParamFields}
use Rattle.param_sets.specs.declared.scheduling.Scheduling.{Scheduling}
use Rattle.param_sets.specs.declared.scheduling.Scheduling.TheVariants.{BestEffort, NonRealTimePolling, RealTimePolling, UnsolicitedGrant}
use Rattle.slice_scheduler.specs.declared.flowing.AtFields.{AtFields}
use Rattle.slice_scheduler.specs.declared.flowing.Flowing.{Flowing}
use Rattle.slice_scheduler.specs.Due.{interval_of, ends_after, is_due, minislots_when_due, pieces_when_due, due_pieces}
use Rattle.slice_scheduler.specs.Claims.{claim_of, claims_of, taken_of}
use Rattle.slice_scheduler.specs.Awards.{award_of, awards_of}
use Rattle.frame_numbers.proofs.EntryLemmas.{sum_by-map}
use Rattle.frame_numbers.proofs.TableLemmas.{flows_seen}

-- ---- the flows that are scheduled

-- a flow that is scheduled, as it is seen
abbrev pub flowing_seen : UnitSizes → ℕ → Flowing → Flowing
flowing_seen units frame f = record f { start = place_in (interval_of f.set.scheduling f.set units) (frame - f.start); since = min 255 (frame - f.since) }

pub flowing_in-seen : (units : UnitSizes) (frame : ℕ) (flows : List (ℕ × Flow)) → flowing_in (flows_seen units frame flows) ≡ map (flowing_seen units frame) (flowing_in flows)
flowing_in-seen units frame [] = refl
flowing_in-seen units frame (entry ∷ flows) = by entry.1.sets.active refl (flowing_in-seen units frame flows)
  where
    by : (o : Option ParamFields) → entry.1.sets.active ≡ o → flowing_in (flows_seen units frame flows) ≡ map (flowing_seen units frame) (flowing_in flows) →
        cons_option (flowing_of_set entry.0 (flow_seen units frame entry.1) o) (flowing_in (flows_seen units frame flows))
        ≡ map (flowing_seen units frame) (cons_option (flowing_of_set entry.0 entry.1 o) (flowing_in flows))
    by None is others = others
    by (Some set) is others =
        ap (λ (o : Option ParamFields). record (flowing_seen units frame (record { sfid = entry.0; sid = unwrap_or entry.1.sid 0; set = set; start = entry.1.start; backlog = entry.1.backlog; since = entry.1.since })) { start = place_in (interval_if units o) (frame - entry.1.start) } ∷ flowing_in (flows_seen units frame flows)) is
        ∙ ap (λ (rest : List Flowing). flowing_seen units frame (record { sfid = entry.0; sid = unwrap_or entry.1.sid 0; set = set; start = entry.1.start; backlog = entry.1.backlog; since = entry.1.since }) ∷ rest) others

-- ---- what one flow claims, and what it is due

-- the claim of a flow that is seen so: its backlog waits since frame 0, in a frame of its age
abbrev aged : AtFields → Flowing → AtFields
aged at f = record at { frame = f.since }

abbrev since_none : Flowing → Flowing
since_none f = record f { since = 0 }

abbrev due_by : UnitSizes → Flowing → Bool
due_by units f = ends_after f.start (interval_of f.set.scheduling f.set units)

abbrev taken_by : UnitSizes → Flowing → ℕ
taken_by units f = cond (due_by units f) (minislots_when_due f.set.scheduling f.set units) 0 + min f.backlog (reserve_of f.set.min_reserved_rate units)

ends-seen : (frames : ℕ) (interval : Option ℕ) → ends_after frames interval ≡ ends_after (place_in interval frames) interval
ends-seen frames None = refl
ends-seen frames (Some interval) = by (interval == 0)
  where
    by : (b : Bool) → cond b false (frames % interval == 0) ≡ cond b false (cond b 0 (frames % interval) % interval == 0)
    by true = refl
    by false = ap (λ (n : ℕ). n == 0) (sym (mod-mod frames interval))

module _ (policy : Policy) (at : AtFields) where
  abbrev seen : Flowing → Flowing
  seen f = flowing_seen at.units at.frame f

  claim-seen : (f : Flowing) → claim_of policy at f ≡ claim_of policy (aged at (seen f)) (since_none (seen f))
  claim-seen f = λ i. record (claim_of policy at f) { rank = rank_of policy (record { priority = f.set.priority; age = same i; backlog = f.backlog }) }
    where
      same : min 255 (at.frame - f.since) ≡ min 255 (min 255 (at.frame - f.since) - 0)
      same = omega arith

  due-seen : (f : Flowing) → is_due at f ≡ due_by at.units (seen f)
  due-seen f = ends-seen (at.frame - f.start) (interval_of f.set.scheduling f.set at.units)

  taken-seen : (f : Flowing) → taken_of at f ≡ taken_by at.units (seen f)
  taken-seen f = ap (λ (b : Bool). cond b (minislots_when_due f.set.scheduling f.set at.units) 0 + min f.backlog (reserve_of f.set.min_reserved_rate at.units)) (due-seen f)

  when_due-seen : (kind : Scheduling) (f : Flowing) → pieces_when_due kind at f ≡ pieces_when_due kind (aged at (seen f)) (seen f)
  when_due-seen BestEffort f = refl
  when_due-seen NonRealTimePolling f = refl
  when_due-seen RealTimePolling f = refl
  when_due-seen UnsolicitedGrant f = refl

  pieces-seen : (f : Flowing) → due_pieces at f ≡ cond (due_by at.units (seen f)) (pieces_when_due f.set.scheduling (aged at (seen f)) (seen f)) []
  pieces-seen f = λ i. cond (due-seen f i) (when_due-seen f.set.scheduling f i) []

  -- ---- those of all flows

  each_claim-seen : (flows : List Flowing) → claims_of policy at flows ≡ map (λ f. claim_of policy (aged at (seen f)) (since_none (seen f))) flows
  each_claim-seen flows = λ i. map (λ f. claim-seen f i) flows

  claims-seen : (flows : List Flowing) → claims_of policy at flows ≡ map (λ f. claim_of policy (aged at f) (since_none f)) (map seen flows)
  claims-seen flows = each_claim-seen flows ∙ sym (map-map (λ f. claim_of policy (aged at f) (since_none f)) seen flows)

  all_taken-seen : (flows : List Flowing) → sum_by (taken_of at) flows ≡ sum_by (taken_by at.units) (map seen flows)
  all_taken-seen flows = ap (λ (h : Flowing → ℕ). sum_by h flows) (λ i f. taken-seen f i) ∙ sym (sum_by-map (taken_by at.units) seen flows)

  each_piece-seen : (flows : List Flowing) → flat_map (due_pieces at) flows ≡ flat_map (λ f. cond (due_by at.units (seen f)) (pieces_when_due f.set.scheduling (aged at (seen f)) (seen f)) []) flows
  each_piece-seen flows = λ i. flat_map (λ f. pieces-seen f i) flows

  all_pieces-seen : (flows : List Flowing) → flat_map (due_pieces at) flows ≡ flat_map (λ f. cond (due_by at.units f) (pieces_when_due f.set.scheduling (aged at f) f) []) (map seen flows)
  all_pieces-seen flows = each_piece-seen flows ∙ sym (flat_map-map (λ f. cond (due_by at.units f) (pieces_when_due f.set.scheduling (aged at f) f) []) seen flows)

-- ---- the schedule

-- the frame that is scheduled, under another number
abbrev pub numbered : AtFields → ℕ → AtFields
numbered at number = record at { frame = number }

-- flows that are seen as the same ones in frames of other numbers
module _ (policy : Policy) (at : AtFields) (number : ℕ) (xs ys : List Flowing) (same : map (flowing_seen at.units at.frame) xs ≡ map (flowing_seen at.units number) ys) where
  claims-same : claims_of policy at xs ≡ claims_of policy (numbered at number) ys
  claims-same = claims-seen policy at xs ∙ (ap (map (λ f. claim_of policy (aged at f) (since_none f))) same ∙ sym (claims-seen policy (numbered at number) ys))

  taken-same : sum_by (taken_of at) xs ≡ sum_by (taken_of (numbered at number)) ys
  taken-same = all_taken-seen policy at xs ∙ (ap (sum_by (taken_by at.units)) same ∙ sym (all_taken-seen policy (numbered at number) ys))

  pieces-same : flat_map (due_pieces at) xs ≡ flat_map (due_pieces (numbered at number)) ys
  pieces-same = all_pieces-seen policy at xs ∙ (ap (flat_map (λ f. cond (due_by at.units f) (pieces_when_due f.set.scheduling (aged at f) f) [])) same ∙ sym (all_pieces-seen policy (numbered at number) ys))

  awards-same : awards_of policy at xs ≡ awards_of policy (numbered at number) ys
  awards-same = λ i. map (award_of (at.slice.length - taken-same i) (claims-same i)) (claims-same i)

  pub elements-same : elements_of policy at xs ≡ elements_of policy (numbered at number) ys
  elements-same = λ i. record {
    slice = at.slice;
    spans = spans_from at.slice.start (
        (pieces-same i ++ flat_map (award_pieces at) (by_rank (awards-same i)))
        ++ idle (at.slice.length - minislots_in (pieces-same i ++ flat_map (award_pieces at) (by_rank (awards-same i)))));
    pending = map (λ a. a.sid) (filter (λ a. nat_lt a.grant a.backlog) (by_rank (awards-same i)));
  }

  pub grants-same : granted_of policy at xs ≡ granted_of policy (numbered at number) ys
  grants-same = λ i. map (λ a. (a.sfid, a.grant)) (filter (λ a. nat_lt 0 a.grant) (awards-same i))
