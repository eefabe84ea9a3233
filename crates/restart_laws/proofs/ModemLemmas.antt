-- Whatever an operator's machine does, all that it keeps is of modems that its row lists.
use Rattle.std.proofs.Common.{◌≡◌, ℕ, ◌==◌, Bool, true, false, not, cond, List, [], ◌∷◌, length, map, filter, Option, Some, None, option_map, IfSome, IfOk, Result, Ok, Err, refl, sym, subst, nat_le, nat_lt, find}
use Rattle.restart_laws.proofs.Common.{IsTrue, AllByRecursion, Ordering, Less, Equal, Greater, nat_cmp, match_ordering, remove_entry, lookup, cond_both, recursion_from_All, All-from_recursion, recursion-append, Modem, Kind, Dsa, Dsc, Dsd, KeptEntry, same_kind, is_of, waits_for, entry_after_ack, ConstsFields, RowFields, SetsFields, is_listed, same_modem, IsProvision, IsRowOf, Flow, Pending, flow_at, flow_with, is_sid, with_flow, sfids_of, sids_of, committed_elements, committed_minislots, IsListedIn, Action, Arrive, Work, Tick, Reslice, Heard, Arrival, OperatorState, Operator, operator, opened_flow, consts_from, opened_before, StepResult, without_flow, undone, flows_after, carried_out, is_of_cmts, new_unless, transaction_result, acked_if, ack_result, kind_of, tid_of, message_handled, asked_of_flow, bandwidth_request_result, handle, all_undone, flows_left, frame_grants, all_granted, tick_result, MayRun, IsOfItsModems}
use Rattle.std.specs.BTreeMap.{insert_entry, is_at}
use Rattle.admission.specs.Free.{least_free_of}
use Rattle.dsx_messages.specs.declared.code.Code.TheVariants as codes
use Rattle.dsx_messages.specs.declared.reply.ReplyFields.{ReplyFields}
use Rattle.dsx_messages.specs.declared.message.Request.{Request}
use Rattle.dsx_messages.specs.declared.message.Request.TheVariants as requests
use Rattle.dsx_messages.specs.declared.message.Message.{Message}
use Rattle.dsx_messages.specs.declared.message.Message.TheVariants as messages
use Rattle.dsx_messages.specs.declared.fault.MessageFault.{MessageFault}
use Rattle.dsx_messages.specs.declared.fault.MessageFault.TheVariants as faults
use Rattle.dsx_messages.specs.Reading.{message_of}
use Rattle.transactions.specs.declared.tick.GivenUp.{GivenUp}
use Rattle.transactions.specs.Waits.{Waits}
use Rattle.transactions.specs.Timers.{is_resent, is_forgotten, entry_after_tick, given_up_in, kept_after}
use Rattle.plant.specs.declared.provision.Provision.{Provision}
use Rattle.plant.specs.Provisioned.{OpenedFlow, opened_sfids, opened_sid, and_under, and_opened, all_opened, opened_flows, sets_of_encoding}
use Rattle.flow_table.specs.Flow.{asks_for_grants, with_pending, flow_after_ack, without_pending, taken_back, flow_after_request, flow_after_grant}
use Rattle.flow_table.specs.Moved.{change_if, change_at}
use Rattle.operator_model.specs.declared.heard.Heard.TheVariants as heards
use Rattle.operator_model.specs.declared.verdict.Verdict.{Verdict}
use Rattle.operator_model.specs.declared.verdict.Verdict.TheVariants.{Refused, Put, Deleted}
use Rattle.operator_model.specs.declared.verdict.Addition.{Addition}
use Rattle.operator_model.specs.declared.verdict.Change.{Change}
use Rattle.operator_model.specs.Asked.{refusal, transaction, addition_of, change_of, free_flow}
use Rattle.operator_model.specs.Verdict.{limit_of, put_within_limit, new_flow, added_reply, added_under, addition_within_limit, changed_flow, changed_reply, changed_with_new, wants_sid, change_within_limit, addition_verdict, change_verdict, deletion_verdict, verdict, encoding_refusal}
use Rattle.operator_model.specs.Machine.{arrival_result, work_result, own_step, own_run, IsAllowed}
use Rattle.operator_model.proofs.AskedLemmas.{IsChange, change-IsChange}

-- ---- entries under their numbers

put_each : {X : Type 0} (P : X → Type 0) (es : List (ℕ × X)) (k : ℕ) (v : X) → AllByRecursion (λ (e : ℕ × X). P e.1) es → P v → AllByRecursion (λ (e : ℕ × X). P e.1) (insert_entry nat_cmp es k v)
put_each P [] k v each p = (p, tt)
put_each {X = X} P (e ∷ es) k v each p = by (nat_cmp k e.0) (put_each P es k v each.1 p)
  where
    by : (o : Ordering) → AllByRecursion (λ (x : ℕ × X). P x.1) (insert_entry nat_cmp es k v) → AllByRecursion (λ (x : ℕ × X). P x.1) (match_ordering o ((k, v) ∷ e ∷ es) ((e.0, v) ∷ es) (e ∷ insert_entry nat_cmp es k v))
    by Less rest = (p, each)
    by Equal rest = (p, each.1)
    by Greater rest = (each.0, rest)

module _ (row : RowFields) where
  -- ---- flows

  abbrev AreListed : List (ℕ × Flow) → Type 0
  AreListed flows = AllByRecursion (λ (entry : ℕ × Flow). IsListedIn row entry.1.modem) flows

  abbrev IsMine : Flow → Type 0
  IsMine flow = IsListedIn row flow.modem

  put_listed : (flows : List (ℕ × Flow)) (sfid : ℕ) (flow : Flow) → AreListed flows → IsMine flow → AreListed (with_flow sfid flow flows)
  put_listed flows sfid flow listed mine = put_each IsMine flows sfid flow listed mine

  without_listed : (flows : List (ℕ × Flow)) (sfid : ℕ) → AreListed flows → AreListed (without_flow sfid flows)
  without_listed [] sfid listed = tt
  without_listed (e ∷ es) sfid listed = by (is_at (nat_cmp sfid) e.0) (without_listed es sfid listed.1)
    where
      by : (t : Bool) → AreListed (remove_entry (is_at (nat_cmp sfid)) es) → AreListed (cond t es (e ∷ remove_entry (is_at (nat_cmp sfid)) es))
      by true rest = listed.1
      by false rest = (listed.0, rest)

  mine_at : (flows : List (ℕ × Flow)) (sfid : ℕ) → AreListed flows → IfSome (flow_at sfid flows) IsMine
  mine_at [] sfid listed = tt
  mine_at (e ∷ es) sfid listed = by (is_at (nat_cmp sfid) e.0) (mine_at es sfid listed.1)
    where
      by : (t : Bool) → IfSome (lookup (is_at (nat_cmp sfid)) es) IsMine → IfSome (cond t (Some e.1) (lookup (is_at (nat_cmp sfid)) es)) IsMine
      by true rest = listed.0
      by false rest = rest

  mine_with : (flows : List (ℕ × Flow)) (sid : ℕ) → AreListed flows → IfSome (flow_with sid flows) (λ (entry : ℕ × Flow). IsMine entry.1)
  mine_with [] sid listed = tt
  mine_with (e ∷ es) sid listed = by (is_sid sid e.1.sid) (mine_with es sid listed.1)
    where
      by : (t : Bool) → IfSome (flow_with sid es) (λ (entry : ℕ × Flow). IsMine entry.1) → IfSome (cond t (Some e) (flow_with sid es)) (λ (entry : ℕ × Flow). IsMine entry.1)
      by true rest = listed.0
      by false rest = rest

  change_listed : (sfid : ℕ) (change : Flow → Flow) → ((flow : Flow) → (change flow).modem ≡ flow.modem) → (flows : List (ℕ × Flow)) → AreListed flows → AreListed (change_at sfid change flows)
  change_listed sfid change same flows listed = by (flow_at sfid flows) (mine_at flows sfid listed)
    where
      by : (o : Option Flow) → IfSome o IsMine → AreListed (change_if sfid change flows o)
      by None mine = listed
      by (Some flow) mine = put_listed flows sfid (change flow) listed (subst (IsListedIn row) (sym (same flow)) mine)

  back_same : (flow : Flow) → (taken_back flow).modem ≡ flow.modem
  back_same flow = by flow.pending
    where
      by : (o : Option Pending) → (without_pending flow o).modem ≡ flow.modem
      by None = refl
      by (Some pending) = refl

  ack_same : (frame : ℕ) (flow : Flow) → (flow_after_ack frame flow).modem ≡ flow.modem
  ack_same frame flow = by flow.pending
    where
      by : (o : Option Pending) → (with_pending frame flow o).modem ≡ flow.modem
      by None = refl
      by (Some pending) = refl

  undone_listed : (kind : Kind) (sfid : ℕ) (flows : List (ℕ × Flow)) → AreListed flows → AreListed (undone kind sfid flows)
  undone_listed Dsa sfid flows listed = without_listed flows sfid listed
  undone_listed Dsc sfid flows listed = change_listed sfid taken_back back_same flows listed
  undone_listed Dsd sfid flows listed = listed

  all_undone_listed : (given_up : List GivenUp) (flows : List (ℕ × Flow)) → AreListed flows → AreListed (all_undone given_up flows)
  all_undone_listed [] flows listed = listed
  all_undone_listed (g ∷ given_up) flows listed = all_undone_listed given_up (undone g.kind g.sfid flows) (undone_listed g.kind g.sfid flows listed)

  all_granted_listed : (frame : ℕ) (grants : List (ℕ × ℕ)) (flows : List (ℕ × Flow)) → AreListed flows → AreListed (all_granted frame grants flows)
  all_granted_listed frame [] flows listed = listed
  all_granted_listed frame (grant ∷ grants) flows listed =
      all_granted_listed frame grants (change_at grant.0 (flow_after_grant grant.1 frame) flows) (change_listed grant.0 (flow_after_grant grant.1 frame) (λ flow. refl) flows listed)

  -- ---- a verdict

  abbrev PutsMine : Verdict → Type 0
  PutsMine (Refused reply) = Unit {0}
  PutsMine (Put sfid flow reply) = IsMine flow
  PutsMine (Deleted sfid reply) = Unit {0}

  module _ (op : Operator) (listed : AreListed op.state.flows) where
    limited : (kind : Kind) (tid sfid : ℕ) (flow : Flow) (reply : ReplyFields) → IsMine flow → PutsMine (put_within_limit op kind tid sfid flow reply)
    limited kind tid sfid flow reply mine =
        cond_both (nat_lt (limit_of op).elements (committed_elements op.consts.units (with_flow sfid flow op.state.flows))) _ _ PutsMine (λ _. tt)
        (λ _. cond_both (nat_lt (limit_of op).minislots (committed_minislots op.consts.units (with_flow sfid flow op.state.flows))) _ _ PutsMine (λ _. tt) (λ _. mine))

    added : (modem : Modem) (tid : ℕ) (addition : Addition) → IsListedIn row modem → (sfid sid : Option ℕ) → PutsMine (added_under op modem tid addition sfid sid)
    added modem tid addition mine None sid = tt
    added modem tid addition mine (Some sfid) None = tt
    added modem tid addition mine (Some sfid) (Some sid) = limited Dsa tid sfid (new_flow modem op.state.frame addition.sets sid) (added_reply tid addition.reference sfid sid) mine

    addition_mine : (modem : Modem) (tid : ℕ) (addition : Addition) → IsListedIn row modem → PutsMine (addition_within_limit op modem tid addition)
    unfolding addition_within_limit
    addition_mine modem tid addition mine =
        cond_both (nat_le op.row.flows (length op.state.flows)) _ _ PutsMine (λ _. tt)
        (λ _. added modem tid addition mine (least_free_of op.row.sfids (sfids_of op.state.flows)) (least_free_of op.row.sids (sids_of op.state.flows)))

    change_mine : (tid : ℕ) (change : Change) → IsMine change.flow → PutsMine (change_within_limit op tid change)
    unfolding change_within_limit
    change_mine tid change mine =
        cond_both (wants_sid change) _ _ PutsMine (λ _. by (least_free_of op.row.sids (sids_of op.state.flows)))
        (λ _. limited Dsc tid change.sfid (changed_flow change change.flow.sid false) (changed_reply tid change.sfid change.sets change.flow.sid) mine)
      where
        by : (o : Option ℕ) → PutsMine (changed_with_new op tid change o)
        by None = tt
        by (Some sid) = limited Dsc tid change.sfid (changed_flow change (Some sid) true) (changed_reply tid change.sfid change.sets (Some sid)) mine

    of_addition : (modem : Modem) (tid : ℕ) (r : Result Addition ReplyFields) → IsListedIn row modem → PutsMine (addition_verdict op modem tid r)
    of_addition modem tid (Err reply) mine = tt
    of_addition modem tid (Ok addition) mine = addition_mine modem tid addition mine

    of_change : (tid : ℕ) (r : Result Change ReplyFields) → IfOk r (IsChange op.state.flows) → PutsMine (change_verdict op tid r)
    of_change tid (Err reply) is = tt
    of_change tid (Ok change) is = change_mine tid change (subst (λ (o : Option Flow). IfSome o IsMine) is.flow.there (mine_at op.state.flows change.sfid listed))

    of_deletion : (tid sfid : ℕ) (r : Result Flow ReplyFields) → PutsMine (deletion_verdict tid sfid r)
    of_deletion tid sfid (Err reply) = tt
    of_deletion tid sfid (Ok flow) = tt

    verdict_mine : (modem : Modem) (request : Request) → IsListedIn row modem → PutsMine (verdict op modem request)
    unfolding verdict
    verdict_mine modem (requests.Dsa tid encodings) mine = of_addition modem tid (addition_of op.consts (transaction modem Dsa tid) encodings) mine
    verdict_mine modem (requests.Dsc tid encodings) mine = of_change tid (change_of op.consts op.state.flows (transaction modem Dsc tid) encodings) (change-IsChange op.consts op.state.flows (transaction modem Dsc tid) encodings)
    verdict_mine modem (requests.Dsd tid sfid) mine = of_deletion tid sfid (free_flow (transaction modem Dsd tid) (flow_at sfid op.state.flows))

  -- ---- a state

  abbrev AreKeptListed : List KeptEntry → Type 0
  AreKeptListed entries = AllByRecursion (λ (entry : KeptEntry). IsListedIn row entry.modem) entries

  abbrev AreHeardListed : List Arrival → Type 0
  AreHeardListed inbox = AllByRecursion (λ (arrival : Arrival). IsListedIn row arrival.modem) inbox

  pub record IsListedState (state : OperatorState) : Type 0 where
    pub flows : AreListed state.flows
    pub kept : AreKeptListed state.kept
    pub inbox : AreHeardListed state.inbox

  acked_same : (waits : Waits) (modem : Modem) (tid : ℕ) (kind : Kind) (entry : KeptEntry) → (entry_after_ack waits modem tid kind entry).modem ≡ entry.modem
  acked_same waits modem tid kind entry = cond_both (waits_for modem tid kind entry) _ _ (λ (e : KeptEntry). e.modem ≡ entry.modem) (λ _. refl) (λ _. refl)

  acked_listed : (waits : Waits) (modem : Modem) (tid : ℕ) (kind : Kind) (entries : List KeptEntry) → AreKeptListed entries → AreKeptListed (map (entry_after_ack waits modem tid kind) entries)
  acked_listed waits modem tid kind [] listed = tt
  acked_listed waits modem tid kind (e ∷ es) listed = (subst (IsListedIn row) (sym (acked_same waits modem tid kind e)) listed.0, acked_listed waits modem tid kind es listed.1)

  ticked_same : (waits : Waits) (entry : KeptEntry) → (entry_after_tick waits entry).modem ≡ entry.modem
  ticked_same waits entry = cond_both (is_resent entry) _ _ (λ (e : KeptEntry). e.modem ≡ entry.modem) (λ _. refl) (λ _. refl)

  ticked_listed : (waits : Waits) (entries : List KeptEntry) → AreKeptListed entries → AreKeptListed (kept_after waits entries)
  ticked_listed waits [] listed = tt
  ticked_listed waits (e ∷ es) listed = by (not (is_forgotten e)) (ticked_listed waits es listed.1)
    where
      by : (t : Bool) → AreKeptListed (map (entry_after_tick waits) (filter (λ (x : KeptEntry). not (is_forgotten x)) es)) → AreKeptListed (map (entry_after_tick waits) (cond t (e ∷ filter (λ (x : KeptEntry). not (is_forgotten x)) es) (filter (λ (x : KeptEntry). not (is_forgotten x)) es)))
      by true rest = (subst (IsListedIn row) (sym (ticked_same waits e)) listed.0, rest)
      by false rest = rest

  module _ (op : Operator) (is : IsListedState op.state) where
    abbrev Leaves : StepResult → Type 0
    Leaves ran = IsListedState ran.state

    flows_listed : (v : Verdict) → PutsMine v → AreListed (flows_after v op.state.flows)
    flows_listed (Refused reply) mine = is.flows
    flows_listed (Put sfid flow reply) mine = put_listed op.state.flows sfid flow is.flows mine
    flows_listed (Deleted sfid reply) mine = without_listed op.state.flows sfid is.flows

    carried : (modem : Modem) (kind : Kind) (tid : ℕ) (v : Verdict) → IsListedIn row modem → PutsMine v → Leaves (carried_out op modem kind tid v)
    carried modem kind tid v mine puts = record {
      flows = flows_listed v puts;
      kept = recursion-append (λ (entry : KeptEntry). IsListedIn row entry.modem) op.state.kept _ is.kept (mine, tt);
      inbox = is.inbox;
    }

    transacted : (modem : Modem) (kind : Kind) (tid : ℕ) (v : Verdict) → IsListedIn row modem → PutsMine v → Leaves (transaction_result op modem kind tid v)
    transacted modem kind tid v mine puts = cond_both (is_of_cmts tid) _ _ Leaves (λ _. is) (λ _. by (find (is_of modem tid) op.state.kept))
      where
        by : (o : Option KeptEntry) → Leaves (new_unless op modem kind tid v o)
        by None = cond_both (nat_le op.row.transactions (length op.state.kept)) _ _ Leaves (λ _. is) (λ _. carried modem kind tid v mine puts)
        by (Some entry) = cond_both (same_kind entry.kind kind) _ _ Leaves (λ _. is) (λ _. is)

    acked : (modem : Modem) (tid : ℕ) (kind : Kind) (code : ℕ) → Leaves (ack_result op modem tid kind code)
    acked modem tid kind code = by (option_map (λ (entry : KeptEntry). entry.sfid) (find (waits_for modem tid kind) op.state.kept))
      where
        by : (o : Option ℕ) → Leaves (acked_if op modem tid kind code o)
        by None = is
        by (Some sfid) = record {
          flows = cond_both (code == 0) _ _ AreListed (λ _. change_listed sfid (flow_after_ack op.state.frame) (ack_same op.state.frame) op.state.flows is.flows) (λ _. undone_listed kind sfid op.state.flows is.flows);
          kept = acked_listed op.consts.timers modem tid kind op.state.kept is.kept;
          inbox = is.inbox;
        }

    by_message : (modem : Modem) (m : Result Message MessageFault) → IsListedIn row modem → Leaves (message_handled op modem m)
    by_message modem (Err faults.Empty) mine = is
    by_message modem (Err (faults.NotOurs mtype)) mine = is
    by_message modem (Err faults.Short) mine = is
    by_message modem (Err (faults.Tlv tid kind id fault)) mine = transacted modem kind tid (Refused (encoding_refusal kind tid id fault)) mine tt
    by_message modem (Err (faults.LeftOut tid kind found)) mine = transacted modem kind tid (Refused (refusal kind tid codes.RejectUnrecognizedSetting)) mine tt
    by_message modem (Err faults.NoMemory) mine = is
    by_message modem (Ok (messages.Ack kind tid code)) mine = acked modem tid kind code
    by_message modem (Ok (messages.Request request)) mine = transacted modem (kind_of request) (tid_of request) (verdict op modem request) mine (verdict_mine op is.flows modem request mine)

    by_request : (modem : Modem) (sid minislots : ℕ) → Leaves (bandwidth_request_result op modem sid minislots)
    by_request modem sid minislots = by (flow_with sid op.state.flows) (mine_with op.state.flows sid is.flows)
      where
        by : (o : Option (ℕ × Flow)) → IfSome o (λ (entry : ℕ × Flow). IsMine entry.1) → Leaves (asked_of_flow op.state modem minislots o)
        by None mine = is
        by (Some entry) mine =
            cond_both (not (same_modem entry.1.modem modem)) _ _ Leaves (λ _. is)
            (λ _. cond_both (not (asks_for_grants entry.1.sets.active)) _ _ Leaves (λ _. is)
            (λ _. record { flows = put_listed op.state.flows entry.0 (flow_after_request minislots op.state.frame entry.1) is.flows mine; kept = is.kept; inbox = is.inbox }))

    handled : (modem : Modem) (heard : Heard) → IsListedIn row modem → Leaves (handle op modem heard)
    handled modem (heards.Message bytes) mine = by_message modem (message_of bytes) mine
    handled modem (heards.Request sid minislots) mine = by_request modem sid minislots

    worked : (inbox : List Arrival) → AreHeardListed inbox → Leaves (work_result op inbox)
    worked [] listed = is
    worked (first ∷ others) listed =
        let ran = handled first.modem first.heard listed.0 in
        record { flows = ran.flows; kept = ran.kept; inbox = listed.1 }

    arrived : (modem : Modem) (heard : Heard) → IsListedIn row modem → Leaves (arrival_result op modem heard)
    arrived modem heard mine =
        cond_both (nat_le op.row.inbox (length op.state.inbox)) _ _ Leaves (λ _. is)
        (λ _. record { flows = is.flows; kept = is.kept; inbox = recursion-append (λ (arrival : Arrival). IsListedIn row arrival.modem) op.state.inbox _ is.inbox (mine, tt) })

    ticked : Leaves (tick_result op)
    ticked = record {
      flows = all_granted_listed op.state.frame (frame_grants op) (flows_left op.state) (all_undone_listed (given_up_in op.state.kept) op.state.flows is.flows);
      kept = ticked_listed op.consts.timers op.state.kept is.kept;
      inbox = is.inbox;
    }

    own_modem : (modem : Modem) → op.row ≡ row → cond (is_listed modem op.row.modems) None (Some modem) ≡ None → IsListedIn row modem
    own_modem modem same none = subst (λ (r : RowFields). is_listed modem r.modems ≡ true) same (by (is_listed modem op.row.modems) refl none)
      where
        by : (t : Bool) → is_listed modem op.row.modems ≡ t → ◌≡◌ {A = Option Modem} (cond t None (Some modem)) None → t ≡ true
        by true e none = refl
        by false e none = absurd cc

    stepped : (action : Action) → op.row ≡ row → IsAllowed op action → Leaves (own_step op action)
    unfolding own_step
    stepped (Arrive modem heard) same allowed = arrived modem heard (own_modem modem same allowed.mine)
    stepped Work same allowed = worked op.state.inbox is.inbox
    stepped Tick same allowed = ticked
    stepped (Reslice from slice_row) same allowed = record { flows = is.flows; kept = is.kept; inbox = is.inbox }

  -- ---- a run

  run_listed : (consts : ConstsFields) (state : OperatorState) (actions : List Action) → IsListedState state → MayRun (operator consts row state) actions → IsListedState (own_run (operator consts row state) actions).state
  run_listed consts state [] is may = is
  run_listed consts state (action ∷ actions) is may =
      run_listed consts (own_step (operator consts row state) action).state actions (stepped (operator consts row state) is action refl may.0) may.1

  to_listed : (state : OperatorState) → IsOfItsModems row state → IsListedState state
  to_listed state is = record {
    flows = recursion_from_All (λ (entry : ℕ × Flow). IsListedIn row entry.1.modem) state.flows is.flows;
    kept = recursion_from_All (λ (entry : KeptEntry). IsListedIn row entry.modem) state.kept is.responses;
    inbox = recursion_from_All (λ (arrival : Arrival). IsListedIn row arrival.modem) state.inbox is.messages;
  }

  from_listed : (state : OperatorState) → IsListedState state → IsOfItsModems row state
  from_listed state is = record {
    flows = All-from_recursion (λ (entry : ℕ × Flow). IsListedIn row entry.1.modem) state.flows is.flows;
    responses = All-from_recursion (λ (entry : KeptEntry). IsListedIn row entry.modem) state.kept is.kept;
    messages = All-from_recursion (λ (arrival : Arrival). IsListedIn row arrival.modem) state.inbox is.inbox;
  }

  pub run_of_its_modems : (consts : ConstsFields) (state : OperatorState) (actions : List Action) → IsOfItsModems row state → MayRun (operator consts row state) actions → IsOfItsModems row (own_run (operator consts row state) actions).state
  run_of_its_modems consts state actions is may = from_listed (own_run (operator consts row state) actions).state (run_listed consts state actions (to_listed state is) may)

  -- ---- an operator that is opened

  opened_each : (consts : ConstsFields) (flows : List (ℕ × OpenedFlow)) (provisions : List Provision) → AllByRecursion (λ (entry : ℕ × OpenedFlow). IsListedIn row entry.1.modem) flows
      → AllByRecursion (λ (p : Provision). IsTrue (is_listed p.modem row.modems)) provisions → AllByRecursion (λ (entry : ℕ × OpenedFlow). IsListedIn row entry.1.modem) (all_opened consts row flows provisions)
  opened_each consts flows [] listed mine = listed
  opened_each consts flows (p ∷ provisions) listed mine = opened_each consts (and_opened row flows p.modem (sets_of_encoding consts p.encoding)) provisions (with_sets (sets_of_encoding consts p.encoding)) mine.1
    where
      with_sfid : (sets : SetsFields) (o : Option ℕ) → AllByRecursion (λ (entry : ℕ × OpenedFlow). IsListedIn row entry.1.modem) (and_under row flows p.modem sets o)
      with_sfid sets None = listed
      with_sfid sets (Some sfid) = put_each (λ (flow : OpenedFlow). IsListedIn row flow.modem) flows sfid (record { modem = p.modem; sid = opened_sid row flows sets; sets = sets }) listed mine.0

      with_sets : (o : Option SetsFields) → AllByRecursion (λ (entry : ℕ × OpenedFlow). IsListedIn row entry.1.modem) (and_opened row flows p.modem o)
      with_sets None = listed
      with_sets (Some sets) = with_sfid sets (least_free_of row.sfids (opened_sfids flows))

  mapped : (frame : ℕ) (flows : List (ℕ × OpenedFlow)) → AllByRecursion (λ (entry : ℕ × OpenedFlow). IsListedIn row entry.1.modem) flows → AreListed (map (λ (entry : ℕ × OpenedFlow). (entry.0, opened_flow frame entry.1)) flows)
  mapped frame [] listed = tt
  mapped frame (e ∷ es) listed = (listed.0, mapped frame es listed.1)

  mine_each : (consts : ConstsFields) (provisions : List Provision) → AllByRecursion (IsProvision consts row) provisions → AllByRecursion (λ (p : Provision). IsTrue (is_listed p.modem row.modems)) provisions
  mine_each consts [] h = tt
  mine_each consts (p ∷ provisions) h = (h.0.mine, mine_each consts provisions h.1)

  pub opened_of_its_modems : (frame : ℕ) (consts : ConstsFields) → IsRowOf consts row → IsOfItsModems row (opened_before frame consts row)
  opened_of_its_modems frame consts is =
      from_listed (opened_before frame consts row) (record {
        flows = mapped frame (opened_flows (consts_from frame consts) row) (opened_each (consts_from frame consts) [] row.provisions tt (mine_each consts row.provisions (recursion_from_All (IsProvision consts row) row.provisions is.provisions)));
        kept = tt;
        inbox = tt;
      })
