-- What becomes of one flow as it is seen: an acknowledgement, a request, a grant, a tick.
use Rattle.std.proofs.Common.{◌≡◌, ℕ, ◌+◌, ◌-◌, ◌%◌, ◌==◌, ◌≤◌, min, Bool, true, false, cond, is_some, Option, Some, None, refl, sym, ap, ◌∙◌, arith}
use Rattle.frame_numbers.proofs.Common.{eqb-false, mod-add-mod, UnitSizes, Modem, Flow, Pending, asks_for_grants, with_pending, flow_after_ack, without_pending, taken_back, flow_after_request, flow_after_grant, new_flow, interval_if, place_in, flow_seen}
use Rattle.param_sets.specs.declared.sets.SetsFields.{SetsFields}

-- ---- no frame ago

pub place-none : (interval : Option ℕ) → place_in interval 0 ≡ 0
place-none None = refl
place-none (Some interval) = by (interval == 0) refl
  where
    by : (b : Bool) → (interval == 0) ≡ b → cond b 0 (0 % interval) ≡ 0
    by true is = refl
    by false is = omega (arith, eqb-false interval 0 is)

pub place-now : (interval : Option ℕ) (frame : ℕ) → place_in interval (frame - frame) ≡ 0
place-now interval frame = let none : frame - frame ≡ 0 = omega arith in ap (place_in interval) none ∙ place-none interval

pub age-now : (frame : ℕ) → min 255 (frame - frame) ≡ 0
age-now frame = omega arith

-- ---- what is done to a flow

module _ (units : UnitSizes) (frame : ℕ) where
  abbrev seen : Flow → Flow
  seen = flow_seen units frame

  pub acked-seen : (flow : Flow) → flow_after_ack 0 (seen flow) ≡ seen (flow_after_ack frame flow)
  acked-seen flow = by flow.pending
    where
      by : (o : Option Pending) → with_pending 0 (seen flow) o ≡ seen (with_pending frame flow o)
      by None = refl
      by (Some pending) = λ i. record flow {
        sid = cond (is_some pending.sets.admitted) flow.sid None;
        sets = pending.sets;
        pending = None;
        start = sym (place-now (interval_if units pending.sets.active) frame) i;
        backlog = cond (asks_for_grants pending.sets.active) flow.backlog 0;
        since = min 255 (frame - flow.since);
      }

  pub taken_back-seen : (flow : Flow) → taken_back (seen flow) ≡ seen (taken_back flow)
  taken_back-seen flow = by flow.pending
    where
      by : (o : Option Pending) → without_pending (seen flow) o ≡ seen (without_pending flow o)
      by None = refl
      by (Some pending) = refl

  pub requested-seen : (minislots : ℕ) (flow : Flow) → flow_after_request minislots 0 (seen flow) ≡ seen (flow_after_request minislots frame flow)
  requested-seen minislots flow = λ i. record flow {
    start = place_in (interval_if units flow.sets.active) (frame - flow.start);
    backlog = minislots;
    since = by (flow.backlog == 0) i;
  }
    where
      by : (b : Bool) → cond b 0 (min 255 (frame - flow.since)) ≡ min 255 (frame - cond b frame flow.since)
      by true = sym (age-now frame)
      by false = refl

  pub new-seen : (modem : Modem) (sets : SetsFields) (sid : ℕ) → new_flow modem 0 sets sid ≡ seen (new_flow modem frame sets sid)
  new-seen modem sets sid = λ i. record (new_flow modem 0 sets sid) { since = sym (age-now frame) i }

-- ---- one frame on

-- one frame more since a frame that was due
pub place-more : (interval : Option ℕ) (frames : ℕ) → place_in interval (frames + 1) ≡ place_in interval (place_in interval frames + 1)
place-more None frames = refl
place-more (Some interval) frames = by (interval == 0) refl
  where
    by : (b : Bool) → (interval == 0) ≡ b → cond b 0 ((frames + 1) % interval) ≡ cond b 0 ((cond b 0 (frames % interval) + 1) % interval)
    by true is = refl
    by false is = sym (mod-add-mod frames interval 1)

-- a flow that is seen one frame later
abbrev pub turned_flow : UnitSizes → Flow → Flow
turned_flow units flow = record flow {
  start = place_in (interval_if units flow.sets.active) (flow.start + 1);
  since = min 255 (flow.since + 1);
}

pub turned-seen : (units : UnitSizes) (frame : ℕ) (flow : Flow) → flow.start ≤ frame → flow.since ≤ frame → flow_seen units (frame + 1) flow ≡ turned_flow units (flow_seen units frame flow)
turned-seen units frame flow start since = λ i. record flow {
  start = places i;
  since = ages i;
}
  where
    more : frame + 1 - flow.start ≡ frame - flow.start + 1
    more = omega arith

    places : place_in (interval_if units flow.sets.active) (frame + 1 - flow.start) ≡ place_in (interval_if units flow.sets.active) (place_in (interval_if units flow.sets.active) (frame - flow.start) + 1)
    places = ap (place_in (interval_if units flow.sets.active)) more ∙ place-more (interval_if units flow.sets.active) (frame - flow.start)

    ages : min 255 (frame + 1 - flow.since) ≡ min 255 (min 255 (frame - flow.since) + 1)
    ages = omega arith

-- a grant, as it is seen in the next frame
abbrev pub granted_flow : ℕ → Flow → Flow
granted_flow minislots flow = record flow {
  backlog = flow.backlog - minislots;
  since = cond (flow.backlog - minislots == 0) flow.since 0;
}

pub granted-seen : (units : UnitSizes) (frame minislots : ℕ) (flow : Flow) → granted_flow minislots (flow_seen units (frame + 1) flow) ≡ flow_seen units (frame + 1) (flow_after_grant minislots frame flow)
granted-seen units frame minislots flow = λ i. record flow {
  start = place_in (interval_if units flow.sets.active) (frame + 1 - flow.start);
  backlog = flow.backlog - minislots;
  since = by (flow.backlog - minislots == 0) i;
}
  where
    by : (b : Bool) → cond b (min 255 (frame + 1 - flow.since)) 0 ≡ min 255 (frame + 1 - cond b flow.since (frame + 1))
    by true = refl
    by false = sym (age-now (frame + 1))
