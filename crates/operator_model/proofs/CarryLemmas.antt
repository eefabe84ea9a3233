-- A verdict that is carried out leaves a sound state, and so does all that is heard.
use Rattle.std.proofs.Common.{◌≡◌, ◌≢◌, ℕ, ◌<◌, ◌≤◌, true, false, List, [], ◌∷◌, ◌++◌, length, get_or, Option, Some, None, Result, Ok, Err, IfSome, IsSome, All, find, refl, sym, ap, ◌∙◌, subst, arith, nat_le}
use Rattle.operator_model.proofs.Common.{cond_both, leb-false, true≢false, length_push, All-push, Modem, Kind, Message, MessageFault, message_of, KeptEntry, same_kind, is_waiting, is_of, begun_entry, Flow, flow_at, with_flow, Heard, Verdict, Refused, Put, Deleted, Operator, operator, refusal, verdict, encoding_refusal, StepResult, without_flow, carried_out, is_of_cmts, new_unless, transaction_result, kind_of, tid_of, message_handled, handle, IsWaitingOf, HasItsFlow, HaveOwnFlows, IsSound}
use Rattle.std.proofs.lemmas.List.Quantifiers.{all_pairs_push}
use Rattle.dsx_messages.specs.declared.code.Code.TheVariants as codes
use Rattle.dsx_messages.specs.declared.message.Message.TheVariants as messages
use Rattle.dsx_messages.specs.declared.fault.MessageFault.TheVariants as faults
use Rattle.dsx_messages.specs.Spelling.{spell_reply}
use Rattle.operator_model.specs.declared.heard.Heard.TheVariants as heards
use Rattle.operator_model.proofs.MapLemmas.{at-insert_same, at-insert_other, at-remove_other}
use Rattle.operator_model.proofs.FlowsLemmas.{put-AreFlows}
use Rattle.operator_model.proofs.ChangeLemmas.{MayStep, stay-MayStep, without-MayStep}
use Rattle.operator_model.proofs.KeptLemmas.{AreApart, IsIdle, idle-apart, still-waiting}
use Rattle.operator_model.proofs.SoundLemmas.{sound-AreFlows, go_on, step_on}
use Rattle.operator_model.proofs.HandleLemmas.{acked_sound, asked_sound}
use Rattle.operator_model.proofs.VerdictLemmas.{IsRightPut, IsRight, right}

-- ---- one entry more

-- an entry that waits for nothing
held_has : (flows : List (ℕ × Flow)) (e : KeptEntry) → is_waiting e ≡ false → HasItsFlow flows e
held_has flows e held waits = absurd (true≢false (sym waits ∙ held))

-- apart from each that waits
apart-push : (kept : List KeptEntry) (e : KeptEntry) → HaveOwnFlows kept → All (λ old. is_waiting old ≡ true → is_waiting e ≡ true → old.sfid ≢ e.sfid) kept → HaveOwnFlows (kept ++ e ∷ [])
apart-push kept e own apart = all_pairs_push AreApart kept e own apart

module _ (op : Operator) (sound : IsSound op) (few : length op.state.kept < op.row.transactions) where
  longer : (e : KeptEntry) → length (op.state.kept ++ e ∷ []) ≤ op.row.transactions
  longer e = omega (arith, length_push op.state.kept e)

  -- an entry that waits for nothing, beside flows in which the others stand
  held_sound : (flows : List (ℕ × Flow)) (e : KeptEntry) → is_waiting e ≡ false → MayStep op.row op.consts.units op.state.frame op.state.flows flows → All (HasItsFlow flows) op.state.kept → IsSound (operator op.consts op.row (record op.state { flows = flows; kept = op.state.kept ++ e ∷ [] }))
  held_sound flows e held step has = step_on sound flows (op.state.kept ++ e ∷ []) step (longer e) (All-push (HasItsFlow flows) op.state.kept e has (held_has flows e held))
      (apart-push op.state.kept e sound.own_flows (λ k d lt waits waits_e. absurd (true≢false (sym waits_e ∙ held))))

  -- where no flow waits under an SFID, those that wait have other flows
  others : (sfid : ℕ) (flows : List (ℕ × Flow)) → IsIdle op.state.flows sfid → ((q : ℕ) → q ≢ sfid → flow_at q flows ≡ flow_at q op.state.flows) → All (HasItsFlow flows) op.state.kept
  others sfid flows idle same = still-waiting op.state.flows flows op.state.kept sound.waiting (λ k d lt waits. same (get_or op.state.kept k d).sfid (idle-apart op.state.flows sfid op.state.kept idle sound.waiting k d lt waits))

  put_sound : (kind : Kind) (sfid : ℕ) (flow : Flow) (e : KeptEntry) → e.kind ≡ kind → e.sfid ≡ sfid → IsRightPut op kind sfid flow → IsSound (operator op.consts op.row (record op.state { flows = with_flow sfid flow op.state.flows; kept = op.state.kept ++ e ∷ [] }))
  put_sound kind sfid flow e is_kind is_sfid is = go_on sound (with_flow sfid flow op.state.flows) (op.state.kept ++ e ∷ []) (record {
    are = put-AreFlows (sound-AreFlows sound) is.may;
    few = longer e;
    waiting = All-push (HasItsFlow (with_flow sfid flow op.state.flows)) op.state.kept e (others sfid (with_flow sfid flow op.state.flows) is.idle (λ q apart. at-insert_other q sfid apart op.state.flows flow)) has;
    own = apart-push op.state.kept e sound.own_flows (λ k d lt waits waits_e equal. idle-apart op.state.flows sfid op.state.kept is.idle sound.waiting k d lt waits (equal ∙ is_sfid));
    minislots = is.allowed.minislots;
    elements = is.allowed.elements;
  })
    where
      has : HasItsFlow (with_flow sfid flow op.state.flows) e
      has waits =
          subst (λ (o : Option Flow). IsSome o × IfSome o (IsWaitingOf e.kind)) (sym (ap (λ (n : ℕ). flow_at n (with_flow sfid flow op.state.flows)) is_sfid ∙ at-insert_same op.state.flows sfid flow))
          (refl, subst (λ (k : Kind). IsWaitingOf k flow) (sym is_kind) is.waits)

  carried_sound : (modem : Modem) (kind : Kind) (tid : ℕ) (v : Verdict) → IsRight op kind v → IsSound (operator op.consts op.row (carried_out op modem kind tid v).state)
  carried_sound modem kind tid (Refused reply) is =
      held_sound op.state.flows (begun_entry op.consts.timers modem tid kind (spell_reply reply) 0 false) refl (stay-MayStep (sound-AreFlows sound)) sound.waiting
  carried_sound modem kind tid (Put sfid flow reply) is =
      put_sound kind sfid flow (begun_entry op.consts.timers modem tid kind (spell_reply reply) sfid true) refl refl is
  carried_sound modem kind tid (Deleted sfid reply) is =
      held_sound (without_flow sfid op.state.flows) (begun_entry op.consts.timers modem tid kind (spell_reply reply) sfid false) refl (without-MayStep (sound-AreFlows sound) sfid)
      (others sfid (without_flow sfid op.state.flows) is (λ q apart. at-remove_other q sfid apart op.state.flows))

-- ---- what is heard

module _ (op : Operator) (sound : IsSound op) where
  abbrev LeavesSound : StepResult → Type 0
  LeavesSound ran = IsSound (operator op.consts op.row ran.state)

  transacted_sound : (modem : Modem) (kind : Kind) (tid : ℕ) (v : Verdict) → IsRight op kind v → LeavesSound (transaction_result op modem kind tid v)
  transacted_sound modem kind tid v is = cond_both (is_of_cmts tid) _ _ LeavesSound (λ _. sound) (λ _. by (find (is_of modem tid) op.state.kept))
    where
      by : (o : Option KeptEntry) → LeavesSound (new_unless op modem kind tid v o)
      by None = cond_both (nat_le op.row.transactions (length op.state.kept)) _ _ LeavesSound (λ _. sound) (λ room. carried_sound op sound (leb-false _ _ room) modem kind tid v is)
      by (Some entry) = cond_both (same_kind entry.kind kind) _ _ LeavesSound (λ _. sound) (λ _. sound)

  message_sound : (modem : Modem) (m : Result Message MessageFault) → LeavesSound (message_handled op modem m)
  message_sound modem (Err faults.Empty) = sound
  message_sound modem (Err (faults.NotOurs mtype)) = sound
  message_sound modem (Err faults.Short) = sound
  message_sound modem (Err (faults.Tlv tid kind id fault)) = transacted_sound modem kind tid (Refused (encoding_refusal kind tid id fault)) tt
  message_sound modem (Err (faults.LeftOut tid kind found)) = transacted_sound modem kind tid (Refused (refusal kind tid codes.RejectUnrecognizedSetting)) tt
  message_sound modem (Err faults.NoMemory) = sound
  message_sound modem (Ok (messages.Ack kind tid code)) = acked_sound op sound modem tid kind code
  message_sound modem (Ok (messages.Request request)) = transacted_sound modem (kind_of request) (tid_of request) (verdict op modem request) (right op sound modem request)

  pub handle_sound : (modem : Modem) (heard : Heard) → LeavesSound (handle op modem heard)
  handle_sound modem (heards.Message bytes) = message_sound modem (message_of bytes)
  handle_sound modem (heards.Request sid minislots) = asked_sound op sound modem sid minislots
