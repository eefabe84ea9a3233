-- What is handled leaves a sound state: an acknowledgement, a request for minislots, and a verdict that is carried out.
use Rattle.std.proofs.Common.{◌≡◌, ◌≢◌, ℕ, ◌==◌, ◌&&◌, not, Bool, true, false, cond, List, get_or, Option, Some, None, IfSome, IsSome, is_some, option_map, All, find, map, refl, sym, ap, ◌∙◌, subst}
use Rattle.operator_model.proofs.Common.{and_parts, cond_both, not-false, false≢true, length-map, All-map, Modem, Kind, Dsa, Dsc, Dsd, KeptEntry, Waits, same_kind, is_waiting, is_of, waits_for, held_entry, entry_after_ack, same_modem, Flow, asks_for_grants, flow_after_request, flow_at, flow_with, is_sid, with_flow, Operator, operator, StepResult, flows_acked, acked_if, ack_result, asked_of_flow, change_if, IsWaitingOf, HasItsFlow, IsSound}
use Rattle.flow_table.specs.Flow as flows
use Rattle.operator_model.proofs.EntryLemmas.{at-find}
use Rattle.operator_model.proofs.FlowsLemmas.{sound-there}
use Rattle.operator_model.proofs.ChangeLemmas.{MayStep, put-MayStep, change-MayStep, undone-MayStep, kept-change, at-change_other, at-undone_other}
use Rattle.operator_model.proofs.FollowLemmas.{follow-acknowledged, follow-requested}
use Rattle.operator_model.proofs.KeptLemmas.{AreApart, pairs-map, find-apart}
use Rattle.operator_model.proofs.SoundLemmas.{sound-AreFlows, step_on}

-- a flow with the same sets, of which the same is pending, waits as before
pub waits_still : (kind : Kind) (old v : Flow) → v.sets ≡ old.sets → v.pending ≡ old.pending → IsWaitingOf kind old → IsWaitingOf kind v
waits_still Dsa old v sets pending waits = (ap is_some pending ∙ waits.0, sets ∙ waits.1)
waits_still Dsc old v sets pending waits = ap is_some pending ∙ waits
waits_still Dsd old v sets pending waits = absurd waits

-- ---- an acknowledgement

waits_for_waits : (modem : Modem) (tid : ℕ) (kind : Kind) (e : KeptEntry) → waits_for modem tid kind e ≡ true → is_waiting e ≡ true
waits_for_waits modem tid kind e is = (and_parts (is_of modem tid e) (is_waiting e) (and_parts (is_of modem tid e && is_waiting e) (same_kind e.kind kind) is).0).1

module _ (waits : Waits) (modem : Modem) (tid : ℕ) (kind : Kind) where
  -- an entry that still waits is as it was, and not the one that is acknowledged
  after_ack : (e : KeptEntry) (b : Bool) → is_waiting (cond b (held_entry waits e) e) ≡ true → b ≡ false
  after_ack e true waiting = absurd (false≢true waiting)
  after_ack e false waiting = refl

  has_flow : (flows : List (ℕ × Flow)) (e : KeptEntry) (b : Bool) → (b ≡ false → HasItsFlow flows e) → HasItsFlow flows (cond b (held_entry waits e) e)
  has_flow flows e true has waiting = absurd (false≢true waiting)
  has_flow flows e false has waiting = has refl waiting

  ack_apart : (a b : KeptEntry) (s t : Bool) → AreApart a b → AreApart (cond s (held_entry waits a) a) (cond t (held_entry waits b) b)
  ack_apart a b true t apart waits_a waits_b = absurd (false≢true waits_a)
  ack_apart a b false true apart waits_a waits_b = absurd (false≢true waits_b)
  ack_apart a b false false apart waits_a waits_b = apart waits_a waits_b

module _ (op : Operator) (sound : IsSound op) where
  acked_step : (kind : Kind) (code sfid : ℕ) → MayStep op.row op.consts.units op.state.frame op.state.flows (flows_acked kind code op.state.frame sfid op.state.flows)
  acked_step kind code sfid = cond_both (code == 0) _ _ (MayStep op.row op.consts.units op.state.frame op.state.flows)
      (λ _. change-MayStep (sound-AreFlows sound) sfid (flows.flow_after_ack op.state.frame) (follow-acknowledged op.consts.units op.state.frame))
      (λ _. undone-MayStep (sound-AreFlows sound) kind sfid)

  acked_other : (kind : Kind) (code sfid q : ℕ) → q ≢ sfid → flow_at q (flows_acked kind code op.state.frame sfid op.state.flows) ≡ flow_at q op.state.flows
  acked_other kind code sfid q apart = cond_both (code == 0) _ _ (λ (fs : List (ℕ × Flow)). flow_at q fs ≡ flow_at q op.state.flows)
      (λ _. at-change_other q sfid apart op.state.flows (flows.flow_after_ack op.state.frame))
      (λ _. at-undone_other q sfid apart op.state.flows kind)

  pub acked_sound : (modem : Modem) (tid : ℕ) (kind : Kind) (code : ℕ) → IsSound (operator op.consts op.row (ack_result op modem tid kind code).state)
  acked_sound modem tid kind code = by (find (waits_for modem tid kind) op.state.kept) refl
    where
      by : (o : Option KeptEntry) → find (waits_for modem tid kind) op.state.kept ≡ o → IsSound (operator op.consts op.row (acked_if op modem tid kind code (option_map (λ entry. entry.sfid) o)).state)
      by None is = sound
      by (Some x) is =
          let apart = find-apart (waits_for modem tid kind) (waits_for_waits modem tid kind) op.state.kept x sound.own_flows is in
          step_on sound (flows_acked kind code op.state.frame x.sfid op.state.flows) (map (entry_after_ack op.consts.timers modem tid kind) op.state.kept) (acked_step kind code x.sfid)
          (simp length-map sound.few_kept)
          (All-map (HasItsFlow (flows_acked kind code op.state.frame x.sfid op.state.flows)) (entry_after_ack op.consts.timers modem tid kind) op.state.kept
          (λ k d lt. has_flow op.consts.timers modem tid kind (flows_acked kind code op.state.frame x.sfid op.state.flows) (get_or op.state.kept k d) (waits_for modem tid kind (get_or op.state.kept k d))
          (λ fails waiting. subst (λ (o : Option Flow). IsSome o × IfSome o (IsWaitingOf (get_or op.state.kept k d).kind)) (sym (acked_other kind code x.sfid (get_or op.state.kept k d).sfid (apart k d lt fails waiting))) (sound.waiting k d lt waiting))))
          (pairs-map AreApart AreApart (entry_after_ack op.consts.timers modem tid kind) (λ a b apart. ack_apart op.consts.timers modem tid kind a b (waits_for modem tid kind a) (waits_for modem tid kind b) apart) op.state.kept sound.own_flows)

  -- ---- a request for minislots

  pub asked_sound : (modem : Modem) (sid minislots : ℕ) → IsSound (operator op.consts op.row (asked_of_flow op.state modem minislots (flow_with sid op.state.flows)).state)
  asked_sound modem sid minislots = by (flow_with sid op.state.flows) refl
    where
      by : (o : Option (ℕ × Flow)) → flow_with sid op.state.flows ≡ o → IsSound (operator op.consts op.row (asked_of_flow op.state modem minislots o).state)
      by None is = sound
      by (Some entry) is =
          let there = at-find (λ (e : ℕ × Flow). is_sid sid e.1.sid) op.state.flows entry sound.ascending is in
          let sound_flow = sound-there (sound-AreFlows sound) entry.0 entry.1 there in
          let change : Flow → Flow = flow_after_request minislots op.state.frame in
          let waiting : All (HasItsFlow (with_flow entry.0 (change entry.1) op.state.flows)) op.state.kept = λ k d lt waits.
          subst (λ (fs : List (ℕ × Flow)). IsSome (flow_at (get_or op.state.kept k d).sfid fs) × IfSome (flow_at (get_or op.state.kept k d).sfid fs) (IsWaitingOf (get_or op.state.kept k d).kind))
          (ap (change_if entry.0 change op.state.flows) there)
          (kept-change (IsWaitingOf (get_or op.state.kept k d).kind) (get_or op.state.kept k d).sfid entry.0 change op.state.flows (λ old h. waits_still (get_or op.state.kept k d).kind old (change old) refl refl h) (sound.waiting k d lt waits)) in
          cond_both (not (same_modem entry.1.modem modem)) _ _ (λ (ran : StepResult). IsSound (operator op.consts op.row ran.state)) (λ _. sound)
          (λ _. cond_both (not (asks_for_grants entry.1.sets.active)) _ _ (λ (ran : StepResult). IsSound (operator op.consts op.row ran.state)) (λ _. sound)
          (λ asks. step_on sound (with_flow entry.0 (change entry.1) op.state.flows) op.state.kept
          (put-MayStep (sound-AreFlows sound) entry.0 entry.1 (change entry.1) there (follow-requested op.consts.units op.state.frame entry.1 sound_flow minislots (not-false (asks_for_grants entry.1.sets.active) asks)))
          sound.few_kept waiting sound.own_flows))
