-- Records that were written are read again.
use Rattle.std.proofs.Common.{◌≡◌, ◌≢◌, ℕ, ◌<◌, ◌^◌, ◌==◌, ◌||◌, Bool, true, false, List, [], ◌∷◌, ◌++◌, length, Option, Some, None, Ok, refl, sym, ap, ◌∙◌, append_assoc, append-nil, arith, rules, codes}
use Rattle.snapshot_format.proofs.Common.{IfSome, flat_map, AllByRecursion, decimal, digit_value, le-leb, eq-eqb, Modem, KeptEntry, is_waiting, Pending, Share, NextShare, SavedFlow, SavedOperator, Taken, take_items, AllFollow, IsModem, IsPending, IsSavedFlow, IsSavedEntry, IsHeard, IsSavedArrival, IsSavedShare, IsSavedNext, IsSavedOperator}
use Rattle.hex.specs.Hex.{IsBytes}
use Rattle.dsx_messages.specs.declared.kind.Kind.{Kind}
use Rattle.dsx_messages.specs.declared.kind.Kind.TheVariants.{Dsa, Dsc, Dsd}
use Rattle.transactions.specs.declared.entry.ResponseState.{ResponseState}
use Rattle.transactions.specs.declared.entry.ResponseState.TheVariants.{Waiting, Held}
use Rattle.transactions.specs.Keeping.{HasTicks, IsHeldUnsent}
use Rattle.operator_model.specs.declared.heard.Heard.{Heard}
use Rattle.operator_model.specs.declared.heard.Heard.TheVariants.{Message, Request}
use Rattle.operator_model.specs.declared.heard.Arrival.{Arrival}
use Rattle.snapshot_format.specs.Fields.{take_literal, take_presence, take_number, take_bytes}
use Rattle.snapshot_format.specs.Records.{take_sid, take_waiting, take_pending, take_flow, flow_follows, take_flows, take_kind, take_state, is_timed, take_entry, entry_follows, take_entries, take_message, take_request, take_arrival, arrival_follows, take_arrivals, take_share, take_slice, take_next_share, take_next, take_head, take_operator, operator_follows, take_operators}
use Rattle.snapshot_format.specs.Text.{address_field, bytes_text, sets_text, sid_text, flag_text, pending_record, flow_text, kind_text, state_text, entry_text, heard_text, arrival_text, share_text, next_text, head_text, operator_text}
use Rattle.snapshot_format.proofs.FieldLemmas.{IsOutside, field_back, name_back, modem_back, bytes_back}
use Rattle.snapshot_format.proofs.SetLemmas.{long_back, short_back, byte_back, sets_back}

-- ---- the bytes that end a field

space : 10 < digit_value 32
space = omega arith

line_end : 10 < digit_value 10
line_end = omega arith

space_outside : IsOutside 32
space_outside = search rules

end_outside : IsOutside 10
end_outside = search rules

dash_inside : ◌≢◌ {A = ℕ} 45 10
dash_inside = omega arith

-- bytes that end a line
last_back : (bytes rest : List ℕ) → IsBytes bytes → take_bytes 10 (bytes_text bytes ++ 10 ∷ rest) ≡ Ok (bytes, rest)
last_back bytes rest is = bytes_back 10 bytes rest end_outside dash_inside is

-- ---- a flow

sid_back : (sid : Option ℕ) (rest : List ℕ) → IfSome sid (λ n. n < 2 ^ 16) → take_sid (sid_text sid ++ rest) ≡ Ok (sid, rest)
unfolding take_sid sid_text take_presence take_literal
sid_back None rest is = refl
sid_back (Some sid) rest is =
    let whole : decimal sid ++ codes " " ++ rest ≡ decimal sid ++ 32 ∷ rest = append_assoc (decimal sid) (codes " ") rest in
    rw (whole, short_back 32 sid rest space is) refl

flag_back : (flag : Bool) (rest : List ℕ) → (n : ℕ) × (take_number 1 32 (flag_text flag ++ rest) ≡ Ok (n, rest)) × ((n == 1) ≡ flag)
unfolding take_number
flag_back false rest = (0, rw (field_back 32 (48 ∷ []) rest (search rules)) refl, refl)
flag_back true rest = (1, rw (field_back 32 (49 ∷ []) rest (search rules)) refl, refl)

waiting_back : (pending : Pending) (rest : List ℕ) → IsPending pending → take_waiting ((flag_text pending.sid_is_new ++ sets_text pending.sets) ++ rest) ≡ Ok (pending, rest)
unfolding take_waiting
waiting_back pending rest is =
    let flag = flag_back pending.sid_is_new (sets_text pending.sets ++ rest) in
    rw (append_assoc (flag_text pending.sid_is_new) (sets_text pending.sets) rest, flag.1, sets_back pending.sets rest is, flag.2) refl

pending_back : (pending : Option Pending) (rest : List ℕ) → IfSome pending IsPending → take_pending (pending_record pending ++ rest) ≡ Ok (pending, rest)
unfolding take_pending pending_record take_presence take_literal
pending_back None rest is = refl
pending_back (Some pending) rest is = rw (waiting_back pending rest is) refl

flow_back : (saved : SavedFlow) (rest : List ℕ) → IsSavedFlow saved → take_flow (flow_text saved ++ rest) ≡ Ok (saved, rest)
unfolding take_flow flow_text take_literal
flow_back saved rest is =
    let t7 : List ℕ = decimal saved.flow.since ++ 10 ∷ rest in
    let t6 : List ℕ = decimal saved.flow.backlog ++ 32 ∷ t7 in
    let t5 : List ℕ = decimal saved.flow.start ++ 32 ∷ t6 in
    let t4 : List ℕ = pending_record saved.flow.pending ++ t5 in
    let t3 : List ℕ = sets_text saved.flow.sets ++ t4 in
    let t2 : List ℕ = sid_text saved.flow.sid ++ t3 in
    let t1 : List ℕ = address_field saved.flow.modem ++ 32 ∷ t2 in
    let whole : flow_text saved ++ rest ≡ codes "flow " ++ (decimal saved.sfid ++ 32 ∷ t1) = simp append_assoc in
    ap take_flow whole
    ∙ rw (
      long_back 32 saved.sfid t1 space is.sfid,
      modem_back 32 saved.flow.modem t2 space_outside is.modem,
      sid_back saved.flow.sid t3 is.sid,
      sets_back saved.flow.sets t4 is.sets,
      pending_back saved.flow.pending t5 is.pending,
      long_back 32 saved.flow.start t6 space is.start,
      short_back 32 saved.flow.backlog t7 space is.backlog,
      long_back 10 saved.flow.since rest line_end is.since,
    ) refl

items_back : {A : Type 0} (text : A → List ℕ) (item_at : List ℕ → Taken A) (may_follow : List A → A → Bool) (Is : A → Type 0)
    → ((item : A) (rest : List ℕ) → Is item → item_at (text item ++ rest) ≡ Ok (item, rest))
    → (before items : List A) (rest : List ℕ) → AllByRecursion Is items → AllFollow may_follow before items
    → take_items item_at may_follow (length items) before (flat_map text items ++ rest) ≡ Ok (before ++ items, rest)
items_back {A = A} text item_at may_follow Is back before [] rest are follow = ap (λ (all : List A). Ok (all, rest)) (sym (append-nil before))
items_back {A = A} text item_at may_follow Is back before (item ∷ items) rest are follow =
    rw (append_assoc (text item) (flat_map text items) rest, back item (flat_map text items ++ rest) are.0, follow.0)
    (items_back text item_at may_follow Is back (before ++ item ∷ []) items rest are.1 follow.1 ∙ ap (λ (all : List A). Ok (all, rest)) (append_assoc before (item ∷ []) items))

flows_back : (flows : List SavedFlow) (rest : List ℕ) → AllByRecursion IsSavedFlow flows → AllFollow flow_follows [] flows
    → take_flows (length flows) (flat_map flow_text flows ++ rest) ≡ Ok (flows, rest)
unfolding take_flows
flows_back flows rest are follow = items_back flow_text take_flow flow_follows IsSavedFlow flow_back [] flows rest are follow

-- ---- a cached response

kind_back : (kind : Kind) (rest : List ℕ) → take_kind (kind_text kind ++ 32 ∷ rest) ≡ Ok (kind, rest)
unfolding take_kind
kind_back Dsa rest = rw (field_back 32 (kind_text Dsa) rest (search rules)) refl
kind_back Dsc rest = rw (field_back 32 (kind_text Dsc) rest (search rules)) refl
kind_back Dsd rest = rw (field_back 32 (kind_text Dsd) rest (search rules)) refl

state_back : (standing : ResponseState) (rest : List ℕ) → take_state (state_text standing ++ 32 ∷ rest) ≡ Ok (standing, rest)
unfolding take_state
state_back Waiting rest = rw (field_back 32 (state_text Waiting) rest (search rules)) refl
state_back Held rest = rw (field_back 32 (state_text Held) rest (search rules)) refl

timed : (entry : KeptEntry) → HasTicks entry → IsHeldUnsent entry → is_timed entry ≡ true
timed entry ticking held = rw (le-leb _ _ ticking) (by (is_waiting entry) held)
  where
    by : (waits : Bool) → (waits ≡ false → entry.resends_left ≡ 0) → (waits || entry.resends_left == 0) ≡ true
    by true none = refl
    by false none = eq-eqb _ _ (none refl)

entry_back : (entry : KeptEntry) (rest : List ℕ) → IsSavedEntry entry → take_entry (entry_text entry ++ rest) ≡ Ok (entry, rest)
unfolding take_entry entry_text take_literal
entry_back entry rest is =
    let t7 : List ℕ = bytes_text entry.reply ++ 10 ∷ rest in
    let t6 : List ℕ = decimal entry.resends_left ++ 32 ∷ t7 in
    let t5 : List ℕ = decimal entry.ticks_left ++ 32 ∷ t6 in
    let t4 : List ℕ = state_text entry.standing ++ 32 ∷ t5 in
    let t3 : List ℕ = decimal entry.sfid ++ 32 ∷ t4 in
    let t2 : List ℕ = kind_text entry.kind ++ 32 ∷ t3 in
    let t1 : List ℕ = decimal entry.tid ++ 32 ∷ t2 in
    let whole : entry_text entry ++ rest ≡ codes "response " ++ (address_field entry.modem ++ 32 ∷ t1) = simp append_assoc in
    ap take_entry whole
    ∙ rw (
      modem_back 32 entry.modem t1 space_outside is.modem,
      short_back 32 entry.tid t2 space is.tid,
      kind_back entry.kind t3,
      long_back 32 entry.sfid t4 space is.sfid,
      state_back entry.standing t5,
      short_back 32 entry.ticks_left t6 space is.ticks,
      byte_back 32 entry.resends_left t7 space is.resends,
      last_back entry.reply rest is.reply,
      timed entry is.ticking is.held,
    ) refl

entries_back : (entries : List KeptEntry) (rest : List ℕ) → AllByRecursion IsSavedEntry entries → AllFollow entry_follows [] entries
    → take_entries (length entries) (flat_map entry_text entries ++ rest) ≡ Ok (entries, rest)
unfolding take_entries
entries_back entries rest are follow = items_back entry_text take_entry entry_follows IsSavedEntry entry_back [] entries rest are follow

-- ---- what was received

heard_back : (modem : Modem) (heard : Heard) (rest : List ℕ) → IsModem modem → IsHeard heard → take_arrival (heard_text modem heard ++ rest) ≡ Ok (record { modem = modem; heard = heard }, rest)
unfolding take_arrival take_message take_request take_literal
heard_back modem (Message bytes) rest is heard =
    let t1 : List ℕ = bytes_text bytes ++ 10 ∷ rest in
    let whole : heard_text modem (Message bytes) ++ rest ≡ codes "message " ++ (address_field modem ++ 32 ∷ t1) = simp append_assoc in
    ap take_arrival whole ∙ rw (modem_back 32 modem t1 space_outside is, last_back bytes rest heard) refl
heard_back modem (Request sid minislots) rest is heard =
    let t2 : List ℕ = decimal minislots ++ 10 ∷ rest in
    let t1 : List ℕ = decimal sid ++ 32 ∷ t2 in
    let whole : heard_text modem (Request sid minislots) ++ rest ≡ codes "request " ++ (address_field modem ++ 32 ∷ t1) = simp append_assoc in
    ap take_arrival whole ∙ rw (modem_back 32 modem t1 space_outside is, short_back 32 sid t2 space heard.0, short_back 10 minislots rest line_end heard.1) refl

arrival_back : (arrival : Arrival) (rest : List ℕ) → IsSavedArrival arrival → take_arrival (arrival_text arrival ++ rest) ≡ Ok (arrival, rest)
unfolding arrival_text
arrival_back arrival rest is = heard_back arrival.modem arrival.heard rest is.modem is.heard

any_follow : (before arrivals : List Arrival) → AllFollow arrival_follows before arrivals
any_follow before [] = tt
any_follow before (arrival ∷ arrivals) = (refl, any_follow (before ++ arrival ∷ []) arrivals)

arrivals_back : (arrivals : List Arrival) (rest : List ℕ) → AllByRecursion IsSavedArrival arrivals
    → take_arrivals (length arrivals) (flat_map arrival_text arrivals ++ rest) ≡ Ok (arrivals, rest)
unfolding take_arrivals
arrivals_back arrivals rest are = items_back arrival_text take_arrival arrival_follows IsSavedArrival arrival_back [] arrivals rest are (any_follow [] arrivals)

-- ---- slices and budgets

share_back : (share : Share) (rest : List ℕ) → IsSavedShare share → take_share (share_text share ++ rest) ≡ Ok (share, rest)
unfolding take_share share_text
share_back share rest is =
    let t2 : List ℕ = decimal share.budget ++ 10 ∷ rest in
    let t1 : List ℕ = decimal share.slice.length ++ 32 ∷ t2 in
    let whole : share_text share ++ rest ≡ decimal share.slice.start ++ 32 ∷ t1 = simp append_assoc in
    let some = is.slice.some in
    let in_range = is.slice.in_range in
    ap take_share whole
    ∙ rw (
      short_back 32 share.slice.start t1 space (omega (arith, some, in_range)),
      short_back 32 share.slice.length t2 space (omega (arith, some, in_range)),
      short_back 10 share.budget rest line_end is.budget,
      le-leb _ _ some,
      le-leb _ _ in_range,
    ) refl

next_back : (next : Option NextShare) (rest : List ℕ) → IfSome next IsSavedNext → take_next (next_text next ++ rest) ≡ Ok (next, rest)
unfolding take_next next_text take_next_share take_presence take_literal
next_back None rest is = refl
next_back (Some next) rest is =
    let t1 : List ℕ = share_text next.share ++ rest in
    let whole : next_text (Some next) ++ rest ≡ codes "next =" ++ (decimal next.from ++ 32 ∷ t1) = simp append_assoc in
    ap take_next whole ∙ rw (long_back 32 next.from t1 space is.from, share_back next.share rest is.share) refl

-- ---- an operator

head_back : (saved : SavedOperator) (rest : List ℕ) → IsSavedOperator saved
    → take_head (head_text saved ++ rest) ≡ Ok (record { name = saved.name; flows = length saved.flows; kept = length saved.kept; inbox = length saved.inbox }, rest)
unfolding take_head head_text take_literal
head_back saved rest is =
    let t3 : List ℕ = decimal (length saved.inbox) ++ 10 ∷ rest in
    let t2 : List ℕ = decimal (length saved.kept) ++ 32 ∷ t3 in
    let t1 : List ℕ = decimal (length saved.flows) ++ 32 ∷ t2 in
    let whole : head_text saved ++ rest ≡ codes "operator " ++ (saved.name ++ 32 ∷ t1) = simp append_assoc in
    ap take_head whole
    ∙ rw (
      name_back 32 saved.name t1 refl is.name,
      short_back 32 (length saved.flows) t2 space is.few_flows,
      short_back 32 (length saved.kept) t3 space is.few_kept,
      short_back 10 (length saved.inbox) rest line_end is.few_heard,
    ) refl

operator_back : (saved : SavedOperator) (rest : List ℕ) → IsSavedOperator saved → take_operator (operator_text saved ++ rest) ≡ Ok (saved, rest)
unfolding take_operator operator_text take_slice take_literal
operator_back saved rest is =
    let t5 : List ℕ = flat_map arrival_text saved.inbox ++ rest in
    let t4 : List ℕ = flat_map entry_text saved.kept ++ t5 in
    let t3 : List ℕ = flat_map flow_text saved.flows ++ t4 in
    let t2 : List ℕ = next_text saved.next ++ t3 in
    let t1 : List ℕ = share_text saved.share ++ t2 in
    let whole : operator_text saved ++ rest ≡ head_text saved ++ (codes "slice " ++ t1) = simp append_assoc in
    ap take_operator whole
    ∙ rw (
      head_back saved (codes "slice " ++ t1) is,
      share_back saved.share t2 is.share,
      next_back saved.next t3 is.next,
      flows_back saved.flows t4 is.flows is.ascending,
      entries_back saved.kept t5 is.kept is.one_each,
      arrivals_back saved.inbox rest is.inbox,
    ) refl

pub operators_back : (operators : List SavedOperator) (rest : List ℕ) → AllByRecursion IsSavedOperator operators → AllFollow operator_follows [] operators
    → take_operators (length operators) (flat_map operator_text operators ++ rest) ≡ Ok (operators, rest)
unfolding take_operators
operators_back operators rest are follow = items_back operator_text take_operator operator_follows IsSavedOperator operator_back [] operators rest are follow
