-- The frames of a run, by their numbers: each tick puts out the next one, and nothing else puts out any.
use Rattle.std.proofs.Common.{◌≡◌, ℕ, zero, suc, ◌+◌, ◌<◌, not, true, cond, List, [], ◌∷◌, ◌++◌, length, Option, Some, None, Result, Ok, Err, option_map, find, map, count_by, refl, sym, ap, ◌∙◌, arith, nat_le}
use Rattle.operator_model.proofs.Common.{range_with_len, cond_both, cond-true, cond-false, lt-leb, filter_map-append, sum_by-cons, Modem, Kind, Message, MessageFault, message_of, KeptEntry, same_kind, is_of, waits_for, resent_in, ConstsFields, RowFields, same_modem, Flow, asks_for_grants, flow_with, Heard, Arrival, Action, Arrive, Work, Tick, Reslice, Verdict, Refused, operator, OperatorState, Operator, refusal, verdict, encoding_refusal, StepResult, reply_result, is_of_cmts, new_unless, transaction_result, acked_if, kind_of, tid_of, message_handled, asked_of_flow, handle, resent, tick_result, frame_number, frame_numbers, is_tick}
use Rattle.dsx_messages.specs.declared.code.Code.TheVariants as codes
use Rattle.dsx_messages.specs.declared.message.Message.TheVariants as messages
use Rattle.dsx_messages.specs.declared.fault.MessageFault.TheVariants as faults
use Rattle.transactions.specs.declared.tick.Resend.{Resend}
use Rattle.operator_model.specs.declared.heard.Heard.TheVariants as heards
use Rattle.operator_model.specs.Machine.{arrival_result, work_result, own_step, own_run}

-- what is put out has so many frames from this one on, and the next one follows them
pub record PutsOut (frame count : ℕ) (ran : StepResult) : Type 0 where
  pub numbers : frame_numbers ran.outputs ≡ range_with_len frame count
  pub next : ran.state.frame ≡ frame + count

-- what is done puts out no frame, and leaves the next frame and the shares
pub record StaysAt (state : OperatorState) (ran : StepResult) : Type 0 where
  pub numbers : frame_numbers ran.outputs ≡ []
  pub frame : ran.state.frame ≡ state.frame
  pub share : ran.state.share ≡ state.share
  pub waits : ran.state.next ≡ state.next

module _ (op : Operator) where
  abbrev PutsNone : StepResult → Type 0
  PutsNone ran = StaysAt op.state ran

  transacted_none : (modem : Modem) (kind : Kind) (tid : ℕ) (v : Verdict) → PutsNone (transaction_result op modem kind tid v)
  transacted_none modem kind tid v = cond_both (is_of_cmts tid) _ _ PutsNone (λ _. record { numbers = refl; frame = refl; share = refl; waits = refl }) (λ _. by (find (is_of modem tid) op.state.kept))
    where
      by : (o : Option KeptEntry) → PutsNone (new_unless op modem kind tid v o)
      by None = cond_both (nat_le op.row.transactions (length op.state.kept)) _ _ PutsNone (λ _. record { numbers = refl; frame = refl; share = refl; waits = refl }) (λ _. record { numbers = refl; frame = refl; share = refl; waits = refl })
      by (Some entry) = cond_both (same_kind entry.kind kind) _ _ PutsNone (λ _. record { numbers = refl; frame = refl; share = refl; waits = refl }) (λ _. record { numbers = refl; frame = refl; share = refl; waits = refl })

  acked_none : (modem : Modem) (tid : ℕ) (kind : Kind) (code : ℕ) (o : Option ℕ) → PutsNone (acked_if op modem tid kind code o)
  acked_none modem tid kind code None = record { numbers = refl; frame = refl; share = refl; waits = refl }
  acked_none modem tid kind code (Some sfid) = record { numbers = refl; frame = refl; share = refl; waits = refl }

  message_none : (modem : Modem) (m : Result Message MessageFault) → PutsNone (message_handled op modem m)
  message_none modem (Err faults.Empty) = record { numbers = refl; frame = refl; share = refl; waits = refl }
  message_none modem (Err (faults.NotOurs mtype)) = record { numbers = refl; frame = refl; share = refl; waits = refl }
  message_none modem (Err faults.Short) = record { numbers = refl; frame = refl; share = refl; waits = refl }
  message_none modem (Err (faults.Tlv tid kind id fault)) = transacted_none modem kind tid (Refused (encoding_refusal kind tid id fault))
  message_none modem (Err (faults.LeftOut tid kind found)) = transacted_none modem kind tid (Refused (refusal kind tid codes.RejectUnrecognizedSetting))
  message_none modem (Err faults.NoMemory) = record { numbers = refl; frame = refl; share = refl; waits = refl }
  message_none modem (Ok (messages.Ack kind tid code)) = acked_none modem tid kind code (option_map (λ entry. entry.sfid) (find (waits_for modem tid kind) op.state.kept))
  message_none modem (Ok (messages.Request request)) = transacted_none modem (kind_of request) (tid_of request) (verdict op modem request)

  asked_none : (modem : Modem) (minislots : ℕ) (o : Option (ℕ × Flow)) → PutsNone (asked_of_flow op.state modem minislots o)
  asked_none modem minislots None = record { numbers = refl; frame = refl; share = refl; waits = refl }
  asked_none modem minislots (Some entry) =
      cond_both (not (same_modem entry.1.modem modem)) _ _ PutsNone (λ _. record { numbers = refl; frame = refl; share = refl; waits = refl })
      (λ _. cond_both (not (asks_for_grants entry.1.sets.active)) _ _ PutsNone (λ _. record { numbers = refl; frame = refl; share = refl; waits = refl }) (λ _. record { numbers = refl; frame = refl; share = refl; waits = refl }))

  handle_none : (modem : Modem) (heard : Heard) → PutsNone (handle op modem heard)
  handle_none modem (heards.Message bytes) = message_none modem (message_of bytes)
  handle_none modem (heards.Request sid minislots) = asked_none modem minislots (flow_with sid op.state.flows)

  pub worked_none : (inbox : List Arrival) → PutsNone (work_result op inbox)
  worked_none [] = record { numbers = refl; frame = refl; share = refl; waits = refl }
  worked_none (first ∷ others) = let ran = handle_none first.modem first.heard in record { numbers = ran.numbers; frame = ran.frame; share = ran.share; waits = ran.waits }

  pub arrived_none : (modem : Modem) (heard : Heard) → PutsNone (arrival_result op modem heard)
  arrived_none modem heard = cond_both (nat_le op.row.inbox (length op.state.inbox)) _ _ PutsNone (λ _. record { numbers = refl; frame = refl; share = refl; waits = refl }) (λ _. record { numbers = refl; frame = refl; share = refl; waits = refl })

  -- what is resent is no frame
  pub resent_none : (resends : List Resend) → frame_numbers (map resent resends) ≡ []
  resent_none [] = refl
  resent_none (resend ∷ resends) = resent_none resends

  -- a tick puts out one
  ticked_one : PutsOut op.state.frame 1 (tick_result op)
  ticked_one = record {
    numbers = filter_map-append frame_number (map resent (resent_in op.state.kept)) _ ∙ ap (λ (ns : List ℕ). ns ++ op.state.frame ∷ []) (resent_none (resent_in op.state.kept));
    next = refl;
  }

  pub step_puts : (action : Action) → PutsOut op.state.frame (cond {A = ℕ} (is_tick action) 1 0) (own_step op action)
  unfolding own_step
  step_puts (Arrive modem heard) = let stays = arrived_none modem heard in record { numbers = stays.numbers; next = omega (arith, stays.frame) }
  step_puts Work = let stays = worked_none op.state.inbox in record { numbers = stays.numbers; next = omega (arith, stays.frame) }
  step_puts Tick = ticked_one
  step_puts (Reslice from offered) = record { numbers = refl; next = omega arith }

-- ---- a run

range-then : (a n m : ℕ) → range_with_len a n ++ range_with_len (a + n) m ≡ range_with_len a (n + m)
range-then a zero m =
    let from : a + 0 ≡ a = omega arith in
    let long : m ≡ 0 + m = omega arith in
    ap (λ (b : ℕ). range_with_len b m) from ∙ ap (range_with_len a) long
range-then a (suc n) m =
    let from : a + suc n ≡ a + 1 + n = omega arith in
    let long : suc (n + m) ≡ suc n + m = omega arith in
    ap (λ (b : ℕ). a ∷ range_with_len (a + 1) n ++ range_with_len b m) from ∙ (ap (λ (ns : List ℕ). a ∷ ns) (range-then (a + 1) n m) ∙ ap (range_with_len a) long)

module _ (consts : ConstsFields) (row : RowFields) where
  pub run_puts : (state : OperatorState) (actions : List Action) → PutsOut state.frame (count_by is_tick actions) (own_run (operator consts row state) actions)
  run_puts state [] = record { numbers = refl; next = omega arith }
  run_puts state (action ∷ actions) =
      let first = step_puts (operator consts row state) action in
      let rest = run_puts (own_step (operator consts row state) action).state actions in
      let count : cond {A = ℕ} (is_tick action) 1 0 + count_by is_tick actions ≡ count_by is_tick (action ∷ actions) = sym (sum_by-cons (λ (a : Action). cond {A = ℕ} (is_tick a) 1 0) action actions) in
      record {
        numbers =
            filter_map-append frame_number (own_step (operator consts row state) action).outputs (own_run (operator consts row (own_step (operator consts row state) action).state) actions).outputs
            ∙ (ap (λ (ns : List ℕ). ns ++ frame_numbers (own_run (operator consts row (own_step (operator consts row state) action).state) actions).outputs) first.numbers
            ∙ (ap (λ (ns : List ℕ). range_with_len state.frame (cond (is_tick action) 1 0) ++ ns) rest.numbers
            ∙ (ap (λ (n : ℕ). range_with_len state.frame (cond (is_tick action) 1 0) ++ range_with_len n (count_by is_tick actions)) first.next
            ∙ (range-then state.frame (cond {A = ℕ} (is_tick action) 1 0) (count_by is_tick actions) ∙ ap (range_with_len state.frame) count))));
        next = omega (arith, rest.next, first.next, count);
      }

-- ---- a request that is repeated

module _ (op : Operator) where
  pub repeat_told : (modem : Modem) (kind : Kind) (tid : ℕ) (v : Verdict) (entry : KeptEntry) → find (is_of modem tid) op.state.kept ≡ Some entry → same_kind entry.kind kind ≡ true → tid < 32768
      → transaction_result op modem kind tid v ≡ reply_result op.state modem entry.reply
  repeat_told modem kind tid v entry kept same small =
      cond-false (is_of_cmts tid) _ _ (lt-leb 32768 tid small)
      ∙ (ap (new_unless op modem kind tid v) kept ∙ cond-true (same_kind entry.kind kind) _ _ same)
