-- A tick leaves a sound state.
use Rattle.std.proofs.Common.{◌≡◌, ℕ, ◌+◌, ◌==◌, ◌≤◌, not, Bool, true, false, cond, List, get_or, Option, Some, None, IfSome, IsSome, All, filter, refl, sym, subst, arith}
use Rattle.operator_model.proofs.Common.{eqb-false, All-map, All-filter, filter_passes, KeptEntry, is_forgotten, given_up_in, kept_after, granted_of, ConstsFields, Flow, flowing_in, committed_minislots, Share, NextShare, Operator, operator, at_frame, all_granted, share_at, next_at, flows_left, tick_result, IsWaitingOf, HasItsFlow, IsShare, IsNextShare, IsSound}
use Rattle.transactions.specs.Timers as timers
use Rattle.operator_model.proofs.FlowsLemmas.{then-CommitLess}
use Rattle.operator_model.proofs.ChangeLemmas.{MayStep}
use Rattle.operator_model.proofs.SoundLemmas.{sound-AreFlows}
use Rattle.operator_model.proofs.LeftLemmas.{all_undone-MayStep, at-all_undone, IsOther, others-IsOther, later-AreFlows, all_granted-MayStep, kept-all_granted, not_given_up, ticked_has, kept-apart, kept-few}

-- ---- the share

-- a share and the one that waits, with so much committed
record AreShares (consts : ConstsFields) (frame c : ℕ) (now : Share) (later : Option NextShare) : Type 0 where
  share : IsShare consts now
  budget : c ≤ now.budget
  next : IfSome later (IsNextShare consts frame c)

turned : (consts : ConstsFields) (frame c after : ℕ) (share : Share) (next : Option NextShare) → AreShares consts frame c share next → after ≤ c → AreShares consts (frame + 1) after (share_at (frame + 1) share next) (next_at (frame + 1) next)
turned consts frame c after share None are less = record { share = are.share; budget = omega (arith, are.budget); next = tt }
turned consts frame c after share (Some next) are less = by (next.from == frame + 1) refl
  where
    by : (b : Bool) → (next.from == frame + 1) ≡ b → AreShares consts (frame + 1) after (cond b next.share share) (cond b None (Some next))
    by true is = record { share = are.next.share; budget = omega (arith, are.next.fits); next = tt }
    by false is = record {
      share = are.share;
      budget = omega (arith, are.budget);
      next = record { share = are.next.share; to_come = omega (arith, are.next.to_come, eqb-false next.from (frame + 1) is); fits = omega (arith, are.next.fits) };
    }

-- ---- the tick

module _ (op : Operator) (sound : IsSound op) where
  undone-step : MayStep op.row op.consts.units op.state.frame op.state.flows (flows_left op.state)
  undone-step = all_undone-MayStep op.consts.units (given_up_in op.state.kept) op.state.flows (sound-AreFlows sound)

  granted-step : (gs : List (ℕ × ℕ)) → MayStep op.row op.consts.units (op.state.frame + 1) (flows_left op.state) (all_granted op.state.frame gs (flows_left op.state))
  granted-step gs = all_granted-MayStep op.row op.consts.units op.state.frame gs (flows_left op.state) (later-AreFlows op.row op.state.frame (flows_left op.state) undone-step.are)

  -- each that stays and waits has its flow
  waiting-after : (gs : List (ℕ × ℕ)) → All (HasItsFlow (all_granted op.state.frame gs (flows_left op.state))) (kept_after op.consts.timers op.state.kept)
  waiting-after gs =
      let stays = filter_passes (λ (e : KeptEntry). not (is_forgotten e)) op.state.kept in
      let has : All (λ (e : KeptEntry). not (is_forgotten e) ≡ true → HasItsFlow (all_granted op.state.frame gs (flows_left op.state)) e) op.state.kept = λ k d lt stay. here (get_or op.state.kept k d) (others-IsOther op.state.kept sound.own_flows k d lt) (sound.waiting k d lt) stay in
      let left = All-filter (λ (e : KeptEntry). not (is_forgotten e)) (λ (e : KeptEntry). not (is_forgotten e) ≡ true → HasItsFlow (all_granted op.state.frame gs (flows_left op.state)) e) op.state.kept has in
      All-map (HasItsFlow (all_granted op.state.frame gs (flows_left op.state))) (timers.entry_after_tick op.consts.timers) (filter (λ (e : KeptEntry). not (is_forgotten e)) op.state.kept)
      (λ k d lt. ticked_has op.consts.timers (all_granted op.state.frame gs (flows_left op.state)) (get_or (filter (λ (e : KeptEntry). not (is_forgotten e)) op.state.kept) k d) (left k d lt (stays k d lt)))
    where
      here : (e : KeptEntry) → IsOther op.state.kept e → HasItsFlow op.state.flows e → not (is_forgotten e) ≡ true → HasItsFlow (all_granted op.state.frame gs (flows_left op.state)) e
      here e other has stay waits =
          kept-all_granted e.kind e.sfid op.state.frame gs (flows_left op.state)
          (subst (λ (o : Option Flow). IsSome o × IfSome o (IsWaitingOf e.kind)) (sym (at-all_undone e.sfid (given_up_in op.state.kept) op.state.flows (other (not_given_up e stay) waits))) (has waits))

  pub tick_sound : IsSound (operator op.consts op.row (tick_result op).state)
  tick_sound =
      let step = granted-step (granted_of op.row.policy (at_frame op) (flowing_in (flows_left op.state))) in
      let less = then-CommitLess step.less undone-step.less in
      let after : List (ℕ × Flow) = all_granted op.state.frame (granted_of op.row.policy (at_frame op) (flowing_in (flows_left op.state))) (flows_left op.state) in
      let shares = turned op.consts op.state.frame (committed_minislots op.consts.units op.state.flows) (committed_minislots op.consts.units after) op.state.share op.state.next (record { share = sound.share; budget = sound.minislots; next = sound.next }) less.minislots in
      record {
        ascending = step.are.ascending;
        sfids = step.are.sfids;
        sids = step.are.sids;
        own_sids = step.are.own_sids;
        flows = step.are.each;
        few_flows = step.are.few;
        few_kept = omega (arith, kept-few op.consts.timers op.state.kept, sound.few_kept);
        few_heard = sound.few_heard;
        waiting = waiting-after (granted_of op.row.policy (at_frame op) (flowing_in (flows_left op.state)));
        own_flows = kept-apart op.consts.timers op.state.kept sound.own_flows;
        elements = omega (arith, less.elements, sound.elements);
        minislots = shares.budget;
        share = shares.share;
        next = shares.next;
      }
