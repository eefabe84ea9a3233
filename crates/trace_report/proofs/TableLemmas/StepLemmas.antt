-- Each action that is not refused leaves who waits.
use Rattle.std.proofs.Common.{◌≡◌, ◌≢◌, ◌==◌, ◌&&◌, ◌≤◌, not, nat_le, ℕ, Bool, true, false, cond, List, [], ◌∷◌, ◌++◌, length, ◌⊎◌, inl, inr, Option, Some, None, Result, Ok, Err, IfSome, is_some, option_map, AllPairs, find, map, refl, sym, ap, ◌∙◌, subst, arith}
use Rattle.trace_report.proofs.TableLemmas.Common.{nat_cmp, remove_entry, cases_eq, cond_both, and_parts, false≢true, none-some, same_Some, Modem, Kind, Dsa, Dsc, Dsd, Message, MessageFault, message_of, KeptEntry, is_waiting, is_of, same_kind, waits_for, begun_entry, given_up_in, RowFields, same_modem, IsRowOf, Flow, asks_for_grants, flow_after_ack, flow_after_request, flow_at, flow_with, with_flow, is_sid, flowing_in, Verdict, Refused, Put, Deleted, OperatorState, Operator, operator, opened_flow, opened_state, refusal, verdict, encoding_refusal, StepResult, reply_of, sfid_of, does_wait, flows_acked, carried_out, is_of_cmts, new_unless, transaction_result, acked_if, ack_result, kind_of, tid_of, message_handled, asked_of_flow, handle, at_frame, flows_left, tick_result, IsWaitingOf, HasItsFlow, IsSound, at-insert_same, at-insert_other, at-remove_same, at-remove_other, at-find, at-change_other, at-undone_other, All-find, passes-find, given_up-HaveFlows, AreOfTwo, AreAwaited}
use Rattle.std.specs.BTreeMap.{is_at}
use Rattle.dsx_messages.specs.declared.code.Code.TheVariants as codes
use Rattle.dsx_messages.specs.declared.message.Message.TheVariants as messages
use Rattle.dsx_messages.specs.declared.fault.MessageFault.TheVariants as faults
use Rattle.dsx_messages.specs.Spelling.{spell_reply}
use Rattle.transactions.specs.Keeping as keeping
use Rattle.slice_scheduler.specs.Schedule.{granted_of}
use Rattle.plant.specs.declared.consts.ConstsFields.{ConstsFields}
use Rattle.plant.specs.Provisioned.{OpenedFlow, opened_flows}
use Rattle.operator_model.specs.declared.action.Action.{Action}
use Rattle.operator_model.specs.declared.action.Action.TheVariants.{Arrive, Work, Tick, Reslice}
use Rattle.operator_model.specs.declared.action.Entry.{Entry}
use Rattle.operator_model.specs.declared.heard.Heard.{Heard}
use Rattle.operator_model.specs.declared.heard.Heard.TheVariants as heards
use Rattle.operator_model.specs.declared.heard.Arrival.{Arrival}
use Rattle.operator_model.specs.Machine.{work_result, own_step, own_run, IsAllowed}
use Rattle.operator_model.specs.Replay.{actions_of, AreTold, IsReplay}
use Rattle.operator_model.proofs.SoundLemmas.{sound-AreFlows}
use Rattle.operator_model.proofs.OpenedLemmas.{opened_sound}
use Rattle.operator_model.proofs.StepLemmas.{step_sound}
use Rattle.trace_report.proofs.TableLemmas.WaitLemmas.{Awaits, awaits-any, any-awaits, awaits-push, awaits-last, awaits-acked, own-acked, awaits-ticked, own-ticked, own-push}
use Rattle.trace_report.proofs.TableLemmas.PendingFlowLemmas.{IsPending, acked_none, still_pending, all_granted_pending}

-- who waits in a state
record Held (state : OperatorState) : Type 0 where
  own : AllPairs AreOfTwo state.kept
  waits : (q : ℕ) → IsPending state.flows q → Awaits state.kept q

kinds_same : (a b : Kind) → same_kind a b ≡ true → a ≡ b
kinds_same Dsa Dsa is = refl
kinds_same Dsc Dsc is = refl
kinds_same Dsd Dsd is = refl
kinds_same Dsa Dsc is = absurd (false≢true is)
kinds_same Dsa Dsd is = absurd (false≢true is)
kinds_same Dsc Dsa is = absurd (false≢true is)
kinds_same Dsc Dsd is = absurd (false≢true is)
kinds_same Dsd Dsa is = absurd (false≢true is)
kinds_same Dsd Dsc is = absurd (false≢true is)

module _ (op : Operator) (sound : IsSound op) (held : Held op.state) where
  abbrev Leaves : StepResult → Type 0
  Leaves ran = Held ran.state

  -- ---- a verdict that is carried out

  module _ (modem : Modem) (kind : Kind) (tid : ℕ) (free : find (is_of modem tid) op.state.kept ≡ None) where
    entry_of : Verdict → KeptEntry
    entry_of v = begun_entry op.consts.timers modem tid kind (spell_reply (reply_of v)) (sfid_of v) (does_wait v)

    carried : (v : Verdict) → Leaves (carried_out op modem kind tid v)
    unfolding entry_of
    carried (Refused reply) = record {
      own = own-push op.state.kept (entry_of (Refused reply)) held.own free;
      waits = λ q pending. awaits-push op.state.kept (entry_of (Refused reply)) q (held.waits q pending);
    }
    carried (Put sfid flow reply) = record {
      own = own-push op.state.kept (entry_of (Put sfid flow reply)) held.own free;
      waits = λ q pending. by q pending (cases_eq q sfid);
    }
      where
        by : (q : ℕ) → IsPending (with_flow sfid flow op.state.flows) q → (q ≡ sfid) ⊎ (q ≡ sfid → ⊥) → Awaits (op.state.kept ++ entry_of (Put sfid flow reply) ∷ []) q
        by q pending (inl same) = awaits-last op.state.kept (entry_of (Put sfid flow reply)) q refl (sym same)
        by q pending (inr apart) =
            awaits-push op.state.kept (entry_of (Put sfid flow reply)) q
            (held.waits q (pending.0, sym (at-insert_other q sfid apart op.state.flows flow) ∙ pending.1, pending.2))
    carried (Deleted sfid reply) = record {
      own = own-push op.state.kept (entry_of (Deleted sfid reply)) held.own free;
      waits = λ q pending. awaits-push op.state.kept (entry_of (Deleted sfid reply)) q (held.waits q (left q pending (cases_eq q sfid)));
    }
      where
        left : (q : ℕ) → IsPending (remove_entry (is_at (nat_cmp sfid)) op.state.flows) q → (q ≡ sfid) ⊎ (q ≡ sfid → ⊥) → IsPending op.state.flows q
        left q pending (inl same) =
            absurd (none-some pending.0 (sym (at-remove_same op.state.flows sfid sound.ascending)
            ∙ (ap (λ (n : ℕ). flow_at n (remove_entry (is_at (nat_cmp sfid)) op.state.flows)) (sym same) ∙ pending.1)))
        left q pending (inr apart) = (pending.0, sym (at-remove_other q sfid apart op.state.flows) ∙ pending.1, pending.2)

  transacted_held : (modem : Modem) (kind : Kind) (tid : ℕ) (v : Verdict) → Leaves (transaction_result op modem kind tid v)
  transacted_held modem kind tid v = cond_both (is_of_cmts tid) _ _ Leaves (λ _. held) (λ _. by (find (is_of modem tid) op.state.kept) refl)
    where
      by : (o : Option KeptEntry) → find (is_of modem tid) op.state.kept ≡ o → Leaves (new_unless op modem kind tid v o)
      by None free = cond_both (nat_le op.row.transactions (length op.state.kept)) _ _ Leaves (λ _. held) (λ _. carried modem kind tid free v)
      by (Some entry) is = cond_both (same_kind entry.kind kind) _ _ Leaves (λ _. held) (λ _. held)

  -- ---- an acknowledgement

  acked_other : (kind : Kind) (code sfid q : ℕ) → q ≢ sfid → flow_at q (flows_acked kind code op.state.frame sfid op.state.flows) ≡ flow_at q op.state.flows
  acked_other kind code sfid q apart = cond_both (code == 0) _ _ (λ (fs : List (ℕ × Flow)). flow_at q fs ≡ flow_at q op.state.flows)
      (λ _. at-change_other q sfid apart op.state.flows (flow_after_ack op.state.frame))
      (λ _. at-undone_other q sfid apart op.state.flows kind)

  acked_held : (modem : Modem) (tid : ℕ) (kind : Kind) (code : ℕ) → Leaves (ack_result op modem tid kind code)
  acked_held modem tid kind code = by (find (waits_for modem tid kind) op.state.kept) refl
    where
      ended : (x : KeptEntry) → find (waits_for modem tid kind) op.state.kept ≡ Some x → ¬ IsPending (flows_acked kind code op.state.frame x.sfid op.state.flows) x.sfid
      ended x is =
          let passes = and_parts (is_of modem tid x && is_waiting x) (same_kind x.kind kind) (passes-find (waits_for modem tid kind) op.state.kept x is) in
          let waits : is_waiting x ≡ true = (and_parts (is_of modem tid x) (is_waiting x) passes.0).1 in
          let has = All-find (HasItsFlow op.state.flows) (waits_for modem tid kind) op.state.kept x sound.waiting is waits in
          acked_none kind code op.state.frame x.sfid op.state.flows sound.ascending has.0
          (subst (λ (k : Kind). IfSome (flow_at x.sfid op.state.flows) (IsWaitingOf k)) (kinds_same x.kind kind passes.1) has.1)

      still : (x : KeptEntry) → find (waits_for modem tid kind) op.state.kept ≡ Some x → (q : ℕ) → IsPending (flows_acked kind code op.state.frame x.sfid op.state.flows) q
          → (q ≡ x.sfid) ⊎ (q ≡ x.sfid → ⊥) → Awaits (map (keeping.entry_after_ack op.consts.timers modem tid kind) op.state.kept) q
      still x is q pending (inl same) = absurd (ended x is (subst (IsPending (flows_acked kind code op.state.frame x.sfid op.state.flows)) same pending))
      still x is q pending (inr apart) =
          awaits-acked op.consts.timers modem tid kind op.state.kept x q held.own is apart
          (held.waits q (pending.0, sym (acked_other kind code x.sfid q apart) ∙ pending.1, pending.2))

      by : (o : Option KeptEntry) → find (waits_for modem tid kind) op.state.kept ≡ o → Leaves (acked_if op modem tid kind code (option_map (λ entry. entry.sfid) o))
      by None is = held
      by (Some x) is = record {
        own = own-acked op.consts.timers modem tid kind op.state.kept held.own;
        waits = λ q pending. still x is q pending (cases_eq q x.sfid);
      }

  -- ---- a request for minislots

  asked_held : (modem : Modem) (sid minislots : ℕ) → Leaves (asked_of_flow op.state modem minislots (flow_with sid op.state.flows))
  asked_held modem sid minislots = by (flow_with sid op.state.flows) refl
    where
      left : (entry : ℕ × Flow) → flow_at entry.0 op.state.flows ≡ Some entry.1 → (q : ℕ) → IsPending (with_flow entry.0 (flow_after_request minislots op.state.frame entry.1) op.state.flows) q
          → (q ≡ entry.0) ⊎ (q ≡ entry.0 → ⊥) → IsPending op.state.flows q
      left entry there q pending (inl same) =
          let flow : Flow = flow_after_request minislots op.state.frame entry.1 in
          let is : flow ≡ pending.0 = same_Some flow pending.0 (sym (at-insert_same op.state.flows entry.0 flow)
          ∙ (ap (λ (n : ℕ). flow_at n (with_flow entry.0 flow op.state.flows)) (sym same) ∙ pending.1)) in
          (entry.1, ap (λ (n : ℕ). flow_at n op.state.flows) same ∙ there, ap (λ (f : Flow). is_some f.pending) is ∙ pending.2)
      left entry there q pending (inr apart) =
          (pending.0, sym (at-insert_other q entry.0 apart op.state.flows (flow_after_request minislots op.state.frame entry.1)) ∙ pending.1, pending.2)

      by : (o : Option (ℕ × Flow)) → flow_with sid op.state.flows ≡ o → Leaves (asked_of_flow op.state modem minislots o)
      by None is = held
      by (Some entry) is =
          let there = at-find (λ (e : ℕ × Flow). is_sid sid e.1.sid) op.state.flows entry sound.ascending is in
          cond_both (not (same_modem entry.1.modem modem)) _ _ Leaves (λ _. held)
          (λ _. cond_both (not (asks_for_grants entry.1.sets.active)) _ _ Leaves (λ _. held)
          (λ _. record { own = held.own; waits = λ q pending. held.waits q (left entry there q pending (cases_eq q entry.0)) }))

  -- ---- what is heard

  message_held : (modem : Modem) (m : Result Message MessageFault) → Leaves (message_handled op modem m)
  message_held modem (Err faults.Empty) = held
  message_held modem (Err (faults.NotOurs mtype)) = held
  message_held modem (Err faults.Short) = held
  message_held modem (Err (faults.Tlv tid kind id fault)) = transacted_held modem kind tid (Refused (encoding_refusal kind tid id fault))
  message_held modem (Err (faults.LeftOut tid kind found)) = transacted_held modem kind tid (Refused (refusal kind tid codes.RejectUnrecognizedSetting))
  message_held modem (Err faults.NoMemory) = held
  message_held modem (Ok (messages.Ack kind tid code)) = acked_held modem tid kind code
  message_held modem (Ok (messages.Request request)) = transacted_held modem (kind_of request) (tid_of request) (verdict op modem request)

  handle_held : (modem : Modem) (heard : Heard) → Leaves (handle op modem heard)
  handle_held modem (heards.Message bytes) = message_held modem (message_of bytes)
  handle_held modem (heards.Request sid minislots) = asked_held modem sid minislots

  worked_held : (inbox : List Arrival) → Leaves (work_result op inbox)
  worked_held [] = held
  worked_held (first ∷ others) = let ran = handle_held first.modem first.heard in record { own = ran.own; waits = ran.waits }

  -- ---- a tick

  ticked_held : Leaves (tick_result op)
  ticked_held = record {
    own = own-ticked op.consts.timers op.state.kept held.own;
    waits = λ q pending.
        let left = still_pending op.consts.units (given_up_in op.state.kept) op.state.flows q (sound-AreFlows sound) (given_up-HaveFlows op.state.flows op.state.kept sound.waiting sound.own_flows)
        (all_granted_pending q op.state.frame (granted_of op.row.policy (at_frame op) (flowing_in (flows_left op.state))) (flows_left op.state) pending) in
        awaits-ticked op.consts.timers op.state.kept q left.0 (held.waits q left.1);
  }

  step_held : (action : Action) → Leaves (own_step op action)
  unfolding own_step
  step_held (Arrive modem heard) = cond_both (nat_le op.row.inbox (length op.state.inbox)) _ _ Leaves (λ _. held) (λ _. record { own = held.own; waits = held.waits })
  step_held Work = worked_held op.state.inbox
  step_held Tick = ticked_held
  step_held (Reslice from row) = record { own = held.own; waits = held.waits }

-- ---- as the clauses say it

held_of : (state : OperatorState) → AreAwaited state → Held state
held_of state are = record {
  own = are.own;
  waits = λ q pending. any-awaits state.kept q (are.flows q pending.0 pending.1 pending.2);
}

awaited_of : (state : OperatorState) → Held state → AreAwaited state
awaited_of state held = record {
  own = held.own;
  flows = λ q flow at pending. awaits-any state.kept q (held.waits q (flow, at, pending));
}

pub step_awaited : (op : Operator) (action : Action) → IsSound op → AreAwaited op.state → IsAllowed op action → AreAwaited (own_step op action).state
step_awaited op action sound are allowed = awaited_of (own_step op action).state (step_held op sound (held_of op.state are) action)

-- ---- what is opened, and a run

none_opened : (frame : ℕ) (entries : List (ℕ × OpenedFlow)) (q : ℕ) → ¬ IsPending (map (λ entry. (entry.0, opened_flow frame entry.1)) entries) q
none_opened frame [] q pending = none-some pending.0 pending.1
none_opened frame (e ∷ entries) q pending = by (none_opened frame entries q) (is_at (nat_cmp q) e.0) pending.1
  where
    by : (¬ IsPending (map (λ entry. (entry.0, opened_flow frame entry.1)) entries) q) → (b : Bool) → cond b (Some (opened_flow frame e.1)) (flow_at q (map (λ entry. (entry.0, opened_flow frame entry.1)) entries)) ≡ Some pending.0 → ⊥
    by more true is = false≢true (ap (λ (f : Flow). is_some f.pending) (same_Some (opened_flow frame e.1) pending.0 is) ∙ pending.2)
    by more false is = more (pending.0, is, pending.2)

opened_held : (consts : ConstsFields) (row : RowFields) → Held (opened_state consts row)
opened_held consts row = record {
  own = λ i j d lt within. absurd (omega arith);
  waits = λ q pending. absurd (none_opened consts.channel.first_frame (opened_flows consts row) q pending);
}

pub opened_awaited : (consts : ConstsFields) (row : RowFields) → AreAwaited (opened_state consts row)
opened_awaited consts row = awaited_of (opened_state consts row) (opened_held consts row)

run_held : (consts : ConstsFields) (row : RowFields) (state : OperatorState) (history : List Entry) → IsSound (operator consts row state) → Held state → AreTold (operator consts row state) history
    → Held (own_run (operator consts row state) (actions_of history)).state
run_held consts row state [] sound held told = held
run_held consts row state (entry ∷ history) sound held told =
    run_held consts row (own_step (operator consts row state) entry.action).state history (step_sound (operator consts row state) sound entry.action told.0)
    (step_held (operator consts row state) sound held entry.action) told.2

pub replay_awaited : (consts : ConstsFields) (row : RowFields) (history : List Entry) (state : OperatorState) → IsRowOf consts row → 1 ≤ row.slice.length → IsReplay consts row history state → AreAwaited state
replay_awaited consts row history state is some replay =
    awaited_of state (subst Held (sym replay.state_is) (run_held consts row (opened_state consts row) history (opened_sound consts row is some) (opened_held consts row) replay.told))
