-- A state of which no fault is found is sound under its row.
use Rattle.std.proofs.Common.{◌≡◌, ◌≢◌, ℕ, ◌+◌, ◌≤◌, ◌==◌, ◌&&◌, ◌||◌, Bool, true, false, not, nat_le, nat_lt, List, [], ◌∷◌, length, get_or, All, Option, Some, None, IsSome, IfSome, is_some, refl, sym, ap, ◌∙◌, arith}
use Rattle.operator_book.proofs.Common.{cons_option, list_any, option_or, ltb-false, leb-false, eqb-true, eq-eqb, and_parts, or_parts, not-false, not-true, true≢false, and_from, All-nil, All-cons, All-map, All-head, All-tail, All-weaker, Numbers, IsIn, Kind, Dsa, Dsc, Dsd, scheduling_number, Scheduling, ParamFields, SetsFields, ConstsFields, RowFields, is_listed, KeptEntry, is_waiting, Flow, Pending, asks_for_grants, sids_of, flow_at, committed_minislots, committed_elements, HaveOwnSids, Share, NextShare, OperatorState, operator, IsSoundFlow, IsSoundPending, IsWaitingOf, HasItsFlow, HaveOwnFlows, IsShare, IsNextShare, IsSound, first_fault_in, modem_fault, is_out_of, sid_fault, lacks_sid, has_stray_backlog, same_params, same_set, pending_fault, standing_fault, flow_fault, order_fault, HasTypedSets, IsTypedFlow, is_unset, does_await, response_fault, awaits_flow, pairs_fault, share_fault, next_fault, counts_fault, committed_fault, parts_fault, table_fault}
use Rattle.std.proofs.lemmas.List.Kept.{AllPairs-cons}
use Rattle.param_sets.specs.declared.scheduling.Scheduling.TheVariants.{BestEffort, NonRealTimePolling, RealTimePolling, UnsolicitedGrant}
use Rattle.operator_book.specs.declared.state_fault.StateFault.TheVariants as faults
use Rattle.operator_book.proofs.Resumes.{or_none, where_none, where_or_none, each_none, ascending}

-- ---- sets that are the same

same_kinds : (a b : Scheduling) → (scheduling_number a == scheduling_number b) ≡ true → a ≡ b
same_kinds BestEffort BestEffort e = refl
same_kinds BestEffort NonRealTimePolling e = absurd (true≢false (sym e))
same_kinds BestEffort RealTimePolling e = absurd (true≢false (sym e))
same_kinds BestEffort UnsolicitedGrant e = absurd (true≢false (sym e))
same_kinds NonRealTimePolling BestEffort e = absurd (true≢false (sym e))
same_kinds NonRealTimePolling NonRealTimePolling e = refl
same_kinds NonRealTimePolling RealTimePolling e = absurd (true≢false (sym e))
same_kinds NonRealTimePolling UnsolicitedGrant e = absurd (true≢false (sym e))
same_kinds RealTimePolling BestEffort e = absurd (true≢false (sym e))
same_kinds RealTimePolling NonRealTimePolling e = absurd (true≢false (sym e))
same_kinds RealTimePolling RealTimePolling e = refl
same_kinds RealTimePolling UnsolicitedGrant e = absurd (true≢false (sym e))
same_kinds UnsolicitedGrant BestEffort e = absurd (true≢false (sym e))
same_kinds UnsolicitedGrant NonRealTimePolling e = absurd (true≢false (sym e))
same_kinds UnsolicitedGrant RealTimePolling e = absurd (true≢false (sym e))
same_kinds UnsolicitedGrant UnsolicitedGrant e = refl

pub params_are : (a b : ParamFields) → same_params a b ≡ true → a ≡ b
params_are a b e =
    let p11 = and_parts _ _ e in
    let p10 = and_parts _ _ p11.0 in
    let p9 = and_parts _ _ p10.0 in
    let p8 = and_parts _ _ p9.0 in
    let p7 = and_parts _ _ p8.0 in
    let p6 = and_parts _ _ p7.0 in
    let p5 = and_parts _ _ p6.0 in
    let p4 = and_parts _ _ p5.0 in
    let p3 = and_parts _ _ p4.0 in
    let p2 = and_parts _ _ p3.0 in
    let p1 = and_parts _ _ p2.0 in
    λ i. record {
      scheduling = same_kinds a.scheduling b.scheduling p1.0 i;
      priority = eqb-true a.priority b.priority p1.1 i;
      max_sustained_rate = eqb-true a.max_sustained_rate b.max_sustained_rate p2.1 i;
      max_burst = eqb-true a.max_burst b.max_burst p3.1 i;
      min_reserved_rate = eqb-true a.min_reserved_rate b.min_reserved_rate p4.1 i;
      request_policy = eqb-true a.request_policy b.request_policy p5.1 i;
      polling_interval = eqb-true a.polling_interval b.polling_interval p6.1 i;
      poll_jitter = eqb-true a.poll_jitter b.poll_jitter p7.1 i;
      grant_size = eqb-true a.grant_size b.grant_size p8.1 i;
      grant_interval = eqb-true a.grant_interval b.grant_interval p9.1 i;
      grant_jitter = eqb-true a.grant_jitter b.grant_jitter p10.1 i;
      grants_per_interval = eqb-true a.grants_per_interval b.grants_per_interval p11.1 i;
    }

set_is : (a b : Option ParamFields) → same_set a b ≡ true → a ≡ b
set_is None None e = refl
set_is (Some a) (Some b) e = ap (λ (s : ParamFields). Some s) (params_are a b e)
set_is None (Some b) e = absurd (true≢false (sym e))
set_is (Some a) None e = absurd (true≢false (sym e))

-- ---- one flow

not_some : {A : Type 0} (o : Option A) → is_some o ≡ false → o ≡ None
not_some None e = refl
not_some (Some x) e = absurd (true≢false e)

has : {A : Type 0} (o : Option A) → (b : Bool) → (b && not (is_some o)) ≡ false → b ≡ true → IsSome o
has (Some x) b e some = refl
has None true e some = absurd (true≢false e)
has None false e some = absurd (true≢false (sym some))

both_not : (a b : Bool) → (a && b) ≡ false → a ≡ true → b ≡ false
both_not true b e is = e
both_not false b e is = absurd (true≢false (sym is))

pending_sound : (sfid : ℕ) (flow : Flow) (o : Option Pending) → IfSome o (λ pending. HasTypedSets pending.sets) → pending_fault sfid flow o ≡ None → IfSome o (IsSoundPending flow)
pending_sound sfid flow None typed none = tt
pending_sound sfid flow (Some pending) typed none =
    let first = where_or_none (not (same_set pending.sets.provisioned flow.sets.provisioned)) (faults.OtherProvisioned sfid) _ none in
    let second = where_or_none (pending.sid_is_new && is_some flow.sets.admitted) (faults.SidNotNew sfid) _ first.1 in
    let third = where_none (lacks_sid pending.sets.admitted flow.sid) (faults.NoSid sfid) second.1 in
    record {
      nested = typed.0;
      kinds = typed.1;
      provisioned = set_is pending.sets.provisioned flow.sets.provisioned (not-false _ first.0);
      new_sid = λ new. not_some flow.sets.admitted (both_not pending.sid_is_new (is_some flow.sets.admitted) second.0 new);
      has_sid = λ admitted. has flow.sid (is_some pending.sets.admitted) third admitted;
    }

no_backlog : (asks : Bool) (backlog : ℕ) → (not asks && nat_lt 0 backlog) ≡ false → asks ≡ false → backlog ≡ 0
no_backlog true backlog e quiet = absurd (true≢false quiet)
no_backlog false backlog e quiet = let low : backlog ≤ 0 = ltb-false 0 backlog e in omega arith

flow_sound : (frame sfid : ℕ) (flow : Flow) → IsTypedFlow flow → standing_fault frame sfid flow ≡ None → pending_fault sfid flow flow.pending ≡ None → IsSoundFlow frame flow
flow_sound frame sfid flow typed none pending =
    let first = where_or_none (lacks_sid flow.sets.admitted flow.sid) (faults.NoSid sfid) _ none in
    let second = where_or_none (has_stray_backlog flow) (faults.StrayBacklog sfid) _ first.1 in
    let times = or_parts _ _ (where_none (nat_lt frame flow.start || nat_lt frame flow.since) (faults.LaterFlow sfid) second.1) in
    record {
      nested = typed.sets.0;
      kinds = typed.sets.1;
      has_sid = λ admitted. has flow.sid (is_some flow.sets.admitted) first.0 admitted;
      no_backlog = λ quiet. no_backlog (asks_for_grants flow.sets.active) flow.backlog second.0 quiet;
      start = ltb-false frame flow.start times.0;
      since = ltb-false frame flow.since times.1;
      pending = pending_sound sfid flow flow.pending typed.pending pending;
    }

in_range : (range : Numbers) (n : ℕ) → is_out_of range n ≡ false → IsIn range n
in_range range n e = let parts = or_parts _ _ e in (ltb-false n range.first parts.0, ltb-false range.last n parts.1)

record IsFlowUnder (row : RowFields) (frame : ℕ) (entry : ℕ × Flow) : Type 0 where
  modem : is_listed entry.1.modem row.modems ≡ true
  sfid : IsIn row.sfids entry.0
  sid : IfSome entry.1.sid (IsIn row.sids)
  sound : IsSoundFlow frame entry.1

sid_under : (row : RowFields) (sfid : ℕ) (o : Option ℕ) → sid_fault row sfid o ≡ None → IfSome o (IsIn row.sids)
sid_under row sfid None none = tt
sid_under row sfid (Some sid) none = in_range row.sids sid (where_none (is_out_of row.sids sid) (faults.SidOutOfRange sfid sid) none)

flow_under : (row : RowFields) (frame : ℕ) (entry : ℕ × Flow) → IsTypedFlow entry.1 → flow_fault row frame entry ≡ None → IsFlowUnder row frame entry
flow_under row frame entry typed none =
    let first = where_or_none (not (is_listed entry.1.modem row.modems)) (faults.ModemInUse entry.1.modem) _ none in
    let second = where_or_none (is_out_of row.sfids entry.0) (faults.SfidOutOfRange entry.0) _ first.1 in
    let third = or_none (sid_fault row entry.0 entry.1.sid) _ second.1 in
    let fourth = or_none (standing_fault frame entry.0 entry.1) _ third.1 in
    record {
      modem = not-false _ first.0;
      sfid = in_range row.sfids entry.0 second.0;
      sid = sid_under row entry.0 entry.1.sid third.0;
      sound = flow_sound frame entry.0 entry.1 typed fourth.0 fourth.1;
    }

all_sids : (row : RowFields) (frame : ℕ) (flows : List (ℕ × Flow)) → All (IsFlowUnder row frame) flows → All (IsIn row.sids) (sids_of flows)
all_sids row frame [] all = All-nil (IsIn row.sids)
all_sids row frame (e ∷ es) all = by e.1.sid (All-head (IsFlowUnder row frame) e es all).sid (all_sids row frame es (All-tail (IsFlowUnder row frame) e es all))
  where
    by : (o : Option ℕ) → IfSome o (IsIn row.sids) → All (IsIn row.sids) (sids_of es) → All (IsIn row.sids) (cons_option o (sids_of es))
    by None is rest = rest
    by (Some sid) is rest = All-cons (IsIn row.sids) sid (sids_of es) is rest

-- ---- responses

unset : (sets : SetsFields) → is_unset sets ≡ true → sets ≡ record { provisioned = None; admitted = None; active = None }
unset sets e =
    let last = and_parts _ _ e in
    let first = and_parts _ _ last.0 in
    λ i. record {
      provisioned = not_some sets.provisioned (not-true _ first.0) i;
      admitted = not_some sets.admitted (not-true _ first.1) i;
      active = not_some sets.active (not-true _ last.1) i;
    }

awaited : (kind : Kind) (o : Option Flow) → does_await kind o ≡ true → IsSome o × IfSome o (IsWaitingOf kind)
awaited Dsa None e = absurd (true≢false (sym e))
awaited Dsc None e = absurd (true≢false (sym e))
awaited Dsd None e = absurd (true≢false (sym e))
awaited Dsa (Some flow) e = let parts = and_parts _ _ e in (refl, (parts.0, unset flow.sets parts.1))
awaited Dsc (Some flow) e = (refl, e)
awaited Dsd (Some flow) e = absurd (true≢false (sym e))

response_under : (row : RowFields) (flows : List (ℕ × Flow)) (entry : KeptEntry) → response_fault row flows entry ≡ None → HasItsFlow flows entry
response_under row flows entry none waits =
    let rest = (or_none (modem_fault row entry.modem) _ none).1 in
    let e = where_none (is_waiting entry && not (does_await entry.kind (flow_at entry.sfid flows))) (faults.NotAwaited entry.sfid) rest in
    awaited entry.kind (flow_at entry.sfid flows) (not-false _ (both_not (is_waiting entry) _ e waits))

none_again : (sfid : ℕ) (entries : List KeptEntry) → list_any (awaits_flow sfid) entries ≡ false → All (λ x. awaits_flow sfid x ≡ false) entries
none_again sfid [] e = All-nil (λ y. awaits_flow sfid y ≡ false)
none_again sfid (x ∷ xs) e = let parts = or_parts _ _ e in All-cons (λ y. awaits_flow sfid y ≡ false) x xs parts.0 (none_again sfid xs parts.1)

pub own_flows : (entries : List KeptEntry) → pairs_fault entries ≡ None → HaveOwnFlows entries
own_flows [] none = λ i j d lt within. absurd (omega arith)
own_flows (x ∷ xs) none =
    let parts = where_or_none (is_waiting x && list_any (awaits_flow x.sfid) xs) (faults.AwaitedTwice x.sfid) (pairs_fault xs) none in
    AllPairs-cons (λ a b. is_waiting a ≡ true → is_waiting b ≡ true → a.sfid ≢ b.sfid) x xs
    (λ k d lt x_waits y_waits same. true≢false (sym (and_from _ _ y_waits (eq-eqb _ _ (sym same))) ∙ none_again x.sfid xs (both_not (is_waiting x) _ parts.0 x_waits) k d lt))
    (own_flows xs parts.1)

-- ---- shares

share_is : (consts : ConstsFields) (share : Share) → 1 ≤ share.slice.length → share_fault consts share ≡ None → IsShare consts share
share_is consts share some none =
    let first = where_or_none (nat_lt share.slice.start consts.channel.head || nat_lt consts.channel.frame_minislots (share.slice.start + share.slice.length)) (faults.NoSuchSlice share.slice.start share.slice.length) _ none in
    let parts = or_parts _ _ first.0 in
    record {
      some = some;
      behind_head = ltb-false share.slice.start consts.channel.head parts.0;
      within_frame = ltb-false consts.channel.frame_minislots (share.slice.start + share.slice.length) parts.1;
      budget = ltb-false share.slice.length share.budget (where_none (nat_lt share.slice.length share.budget) (faults.BudgetOverSlice share.budget) first.1);
    }

next_is : (consts : ConstsFields) (frame committed : ℕ) (o : Option NextShare) → IfSome o (λ next. 1 ≤ next.share.slice.length) → next_fault consts frame committed o ≡ None → IfSome o (IsNextShare consts frame committed)
next_is consts frame committed None some none = tt
next_is consts frame committed (Some next) some none =
    let first = or_none (share_fault consts next.share) _ none in
    let second = where_or_none (nat_le next.from frame) (faults.NextNotLater next.from) _ first.1 in
    record {
      share = share_is consts next.share some first.0;
      to_come = leb-false next.from frame second.0;
      fits = ltb-false next.share.budget committed (where_none (nat_lt next.share.budget committed) (faults.OverNextBudget committed) second.1);
    }

-- ---- the whole state

pub sound_state : (consts : ConstsFields) (row : RowFields) (state : OperatorState) → All (λ entry. IsTypedFlow entry.1) state.flows → HaveOwnSids state.flows
    → 1 ≤ state.share.slice.length → IfSome state.next (λ next. 1 ≤ next.share.slice.length)
    → parts_fault consts row state ≡ None → table_fault consts row state ≡ None → IsSound (operator consts row state)
sound_state consts row state typed own some next_some parts table =
    let counts = or_none (counts_fault row state) _ parts in
    let order = or_none (order_fault None state.flows) _ counts.1 in
    let flows = or_none (first_fault_in (flow_fault row state.frame) state.flows) _ order.1 in
    let messages = or_none (first_fault_in (λ arrival. modem_fault row arrival.modem) state.inbox) _ flows.1 in
    let few_flows = where_or_none (nat_lt row.flows (length state.flows)) (faults.TooManyFlows (length state.flows)) _ counts.0 in
    let few_kept = where_or_none (nat_lt row.transactions (length state.kept)) (faults.TooManyResponses (length state.kept)) _ few_flows.1 in
    let few_heard = where_none (nat_lt row.inbox (length state.inbox)) (faults.TooManyMessages (length state.inbox)) few_kept.1 in
    let committed = or_none (committed_fault consts row state) _ table in
    let elements = where_or_none (nat_lt row.elements (committed_elements consts.units state.flows)) (faults.OverElements (committed_elements consts.units state.flows)) _ committed.0 in
    let minislots = where_none (nat_lt state.share.budget (committed_minislots consts.units state.flows)) (faults.OverCommitted (committed_minislots consts.units state.flows)) elements.1 in
    let next = or_none (next_fault consts state.frame (committed_minislots consts.units state.flows) state.next) _ committed.1 in
    let responses = or_none (first_fault_in (response_fault row state.flows) state.kept) _ next.1 in
    let none = each_none (flow_fault row state.frame) state.flows flows.0 in
    let under : All (IsFlowUnder row state.frame) state.flows = λ k d lt. flow_under row state.frame (get_or state.flows k d) (typed k d lt) (none k d lt) in
    record {
      ascending = ascending None state.flows order.0;
      sfids = All-map (IsIn row.sfids) (λ (entry : ℕ × Flow). entry.0) state.flows (λ k d lt. (under k d lt).sfid);
      sids = all_sids row state.frame state.flows under;
      own_sids = own;
      flows = All-map (IsSoundFlow state.frame) (λ (entry : ℕ × Flow). entry.1) state.flows (λ k d lt. (under k d lt).sound);
      few_flows = ltb-false row.flows (length state.flows) few_flows.0;
      few_kept = ltb-false row.transactions (length state.kept) few_kept.0;
      few_heard = ltb-false row.inbox (length state.inbox) few_heard;
      waiting = All-weaker (λ entry. response_fault row state.flows entry ≡ None) (HasItsFlow state.flows) (response_under row state.flows) state.kept (each_none (response_fault row state.flows) state.kept responses.0);
      own_flows = own_flows state.kept responses.1;
      elements = ltb-false row.elements (committed_elements consts.units state.flows) elements.0;
      minislots = ltb-false state.share.budget (committed_minislots consts.units state.flows) minislots;
      share = share_is consts state.share some messages.1;
      next = next_is consts state.frame (committed_minislots consts.units state.flows) state.next next_some next.0;
    }

module _ (consts : ConstsFields) (row : RowFields) (state : OperatorState) (none : parts_fault consts row state ≡ None) where
  counts_none : (counts_fault row state ≡ None) × (option_or (order_fault None state.flows) (option_or (first_fault_in (flow_fault row state.frame) state.flows) (option_or (first_fault_in (λ arrival. modem_fault row arrival.modem) state.inbox) (share_fault consts state.share))) ≡ None)
  counts_none = or_none (counts_fault row state) _ none

  pub few_flows_in : length state.flows ≤ row.flows
  few_flows_in = ltb-false row.flows (length state.flows) (where_or_none (nat_lt row.flows (length state.flows)) (faults.TooManyFlows (length state.flows)) _ counts_none.0).0

  pub few_kept_in : length state.kept ≤ row.transactions
  few_kept_in =
      ltb-false row.transactions (length state.kept) (where_or_none (nat_lt row.transactions (length state.kept)) (faults.TooManyResponses (length state.kept)) _
      (where_or_none (nat_lt row.flows (length state.flows)) (faults.TooManyFlows (length state.flows)) _ counts_none.0).1).0

  pub ordered_in : order_fault None state.flows ≡ None
  ordered_in = (or_none (order_fault None state.flows) _ counts_none.1).0
