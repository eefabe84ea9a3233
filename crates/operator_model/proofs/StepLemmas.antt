-- Each action that is not refused leaves a sound state, and so does a run of them.
use Rattle.std.proofs.Common.{◌≡◌, ℕ, ◌+◌, ◌==◌, ◌||◌, ◌≤◌, Bool, true, false, cond, List, [], ◌∷◌, ◌++◌, length, Option, Some, None, is_some, refl, sym, subst, arith, nat_le, nat_lt}
use Rattle.operator_model.proofs.Common.{cond_both, leb-false, ltb-false, eqb-false, or_parts, length_push, none-some, Modem, ConstsFields, RowFields, IsRowOf, committed_minislots, Heard, Arrival, SliceRow, Action, Arrive, Work, Tick, Reslice, Entry, NotPast, Unfinished, OffFrame, BudgetOverSlice, OverBudget, operator, OperatorState, opened_state, Operator, StepResult, actions_of, AreTold, IsReplay, IsNextShare, IsSound}
use Rattle.operator_model.specs.Machine.{arrival_result, work_result, reslice_result, own_step, is_off_frame, unfit_from, IsAllowed, own_run}
use Rattle.operator_model.proofs.SoundLemmas.{inbox_on}
use Rattle.operator_model.proofs.CarryLemmas.{handle_sound}
use Rattle.operator_model.proofs.TickLemmas.{tick_sound}
use Rattle.operator_model.proofs.OpenedLemmas.{opened_sound}

-- ---- a share that is taken

-- a test that would refuse does not hold
pub passed : {X : Type 0} (b : Bool) (x : X) (o : Option X) → cond b (Some x) o ≡ None → (b ≡ false) × (o ≡ None)
passed true x o none = absurd (none-some x (sym none))
passed false x o none = (refl, none)

module _ (op : Operator) (sound : IsSound op) where
  is_next : (from : ℕ) (offered : SliceRow) → unfit_from op from offered ≡ None
      → IsNextShare op.consts op.state.frame (committed_minislots op.consts.units op.state.flows) (record { from = from; share = record { slice = record { start = offered.start; length = offered.length }; budget = offered.budget } })
  is_next from offered fit =
      let a = passed (nat_le from op.state.frame) NotPast _ fit in
      let b = passed (is_some op.state.next) Unfinished _ a.1 in
      let c = passed (is_off_frame op.consts offered) OffFrame _ b.1 in
      let d = passed (nat_lt offered.length offered.budget) BudgetOverSlice _ c.1 in
      let e = passed (nat_lt offered.budget (committed_minislots op.consts.units op.state.flows)) OverBudget _ d.1 in
      let within = or_parts (offered.length == 0 || nat_lt offered.start op.consts.channel.head) (nat_lt op.consts.channel.frame_minislots (offered.start + offered.length)) c.0 in
      let on = or_parts (offered.length == 0) (nat_lt offered.start op.consts.channel.head) within.0 in
      record {
        share = record {
          some = omega (arith, eqb-false offered.length 0 on.0);
          behind_head = ltb-false offered.start op.consts.channel.head on.1;
          within_frame = ltb-false op.consts.channel.frame_minislots (offered.start + offered.length) within.1;
          budget = ltb-false offered.length offered.budget d.0;
        };
        to_come = leb-false from op.state.frame a.0;
        fits = ltb-false offered.budget (committed_minislots op.consts.units op.state.flows) e.0;
      }

  resliced_sound : (from : ℕ) (offered : SliceRow) → unfit_from op from offered ≡ None → IsSound (operator op.consts op.row (reslice_result op.state from offered).state)
  resliced_sound from offered fit = record {
    ascending = sound.ascending;
    sfids = sound.sfids;
    sids = sound.sids;
    own_sids = sound.own_sids;
    flows = sound.flows;
    few_flows = sound.few_flows;
    few_kept = sound.few_kept;
    few_heard = sound.few_heard;
    waiting = sound.waiting;
    own_flows = sound.own_flows;
    elements = sound.elements;
    minislots = sound.minislots;
    share = sound.share;
    next = is_next from offered fit;
  }

  -- ---- the inbox

  arrived_sound : (modem : Modem) (heard : Heard) → IsSound (operator op.consts op.row (arrival_result op modem heard).state)
  arrived_sound modem heard = cond_both (nat_le op.row.inbox (length op.state.inbox)) _ _ (λ (ran : StepResult). IsSound (operator op.consts op.row ran.state)) (λ _. sound)
      (λ room. inbox_on sound (op.state.inbox ++ record { modem = modem; heard = heard } ∷ []) (omega (arith, leb-false _ _ room, length_push {X = Arrival} op.state.inbox (record { modem = modem; heard = heard }))))

  worked_sound : (inbox : List Arrival) → length inbox ≤ op.row.inbox → IsSound (operator op.consts op.row (work_result op inbox).state)
  worked_sound [] few = sound
  worked_sound (first ∷ others) few = inbox_on (handle_sound op sound first.modem first.heard) others (omega arith)

  -- ---- the actions

  pub step_sound : (action : Action) → IsAllowed op action → IsSound (operator op.consts op.row (own_step op action).state)
  unfolding own_step
  step_sound (Arrive modem heard) allowed = arrived_sound modem heard
  step_sound Work allowed = worked_sound op.state.inbox sound.few_heard
  step_sound Tick allowed = tick_sound op sound
  step_sound (Reslice from offered) allowed = resliced_sound from offered allowed.fit

-- ---- a run

module _ (consts : ConstsFields) (row : RowFields) where
  run_sound : (state : OperatorState) (history : List Entry) → IsSound (operator consts row state) → AreTold (operator consts row state) history → IsSound (operator consts row (own_run (operator consts row state) (actions_of history)).state)
  run_sound state [] sound told = sound
  run_sound state (entry ∷ history) sound told = run_sound (own_step (operator consts row state) entry.action).state history (step_sound (operator consts row state) sound entry.action told.0) told.2

  pub replay_sound : (history : List Entry) (state : OperatorState) → IsRowOf consts row → 1 ≤ row.slice.length → IsReplay consts row history state → IsSound (operator consts row state)
  replay_sound history state is some replay = subst (λ (s : OperatorState). IsSound (operator consts row s)) (sym replay.state_is) (run_sound (opened_state consts row) history (opened_sound consts row is some) replay.told)
