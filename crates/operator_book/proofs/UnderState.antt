-- A state that a machine can go on from has no fault.
use Rattle.std.proofs.Common.{◌≡◌, ◌≢◌, ℕ, zero, suc, ◌+◌, ◌<◌, ◌≤◌, ◌==◌, ◌&&◌, Bool, true, false, not, cond, nat_lt, List, [], ◌∷◌, ◌++◌, length, map, get_or, All, ◌⊎◌, Option, Some, None, IsSome, IfSome, is_some, count_by, refl, sym, ap, ◌∙◌, subst, arith, inl, inr}
use Rattle.operator_book.proofs.Common.{find, Contains, cons_option, list_any, option_or, Ordering, Less, Equal, Greater, nat_cmp, match_ordering, MatchOrdering, keys_of, insert_entry, le-ltb, lt-leb, eq-eqb, eqb-true, ne_eqb, and_from, and_parts, or_from, not_from_true, true≢false, false_from_ne_true, none-some, All-nil, All-cons, All-head, All-tail, Contains-append_right, append_assoc, sum_by-cons, sum_by-append, Contains-tail, ranked, Numbers, IsIn, Kind, Dsa, Dsc, Dsd, Modem, scheduling_number, ParamFields, SetsFields, ConstsFields, RowFields, is_listed, KeptEntry, is_waiting, is_of, OneEach, HasTicks, IsHeldUnsent, Flow, Pending, asks_for_grants, sids_of, flow_at, flow_with, sid_if, is_sid, with_flow, committed_minislots, committed_elements, HaveOwnSids, cases_sid, none_of, Share, NextShare, Arrival, OperatorState, IsSoundFlow, IsSoundPending, IsWaitingOf, HasItsFlow, HaveOwnFlows, IsShare, IsNextShare, StateFault, IsStateUnder, fault_where, first_fault_in, modem_fault, is_out_of, sid_fault, same_params, same_set, pending_fault, standing_fault, flow_fault, order_fault, sid_twice_fault, sids_fault, is_unset, does_await, response_fault, awaits_flow, pairs_fault, is_off_time, entries_fault, share_fault, next_fault, counts_fault, committed_fault, parts_fault, table_fault, state_fault}
use Rattle.std.specs.List.Sorted.{IsStrictlySortedBy}
use Rattle.std.specs.Str.{bytes_eq}
use Rattle.std.proofs.lemmas.Slice.Eq.{bytes_eq-Decides}
use Rattle.std.proofs.lemmas.List.Folds.{list_any_none}
use Rattle.std.proofs.lemmas.Map.Keys.{sorted_tail}
use Rattle.flow_table.proofs.EntryLemmas.{looked_first, looked_past}
use Rattle.operator_book.specs.declared.state_fault.StateFault.TheVariants as faults

-- ---- no fault

either : (a b : Option StateFault) → a ≡ None → b ≡ None → option_or a b ≡ None
either a b none more = ap (λ (o : Option StateFault). option_or o b) none ∙ more

unless : (b : Bool) (f : StateFault) → b ≡ false → fault_where b f ≡ None
unless b f e = ap (λ (c : Bool). fault_where c f) e

none_each : {A : Type 0} (fault_of : A → Option StateFault) (xs : List A) → All (λ x. fault_of x ≡ None) xs → first_fault_in fault_of xs ≡ None
none_each fault_of [] all = refl
none_each fault_of (x ∷ xs) all = either _ _ (All-head (λ y. fault_of y ≡ None) x xs all) (none_each fault_of xs (All-tail (λ y. fault_of y ≡ None) x xs all))

map_All : {A B : Type 0} (P : B → Type 0) (f : A → B) (xs : List A) → All P (map f xs) → All (λ x. P (f x)) xs
map_All P f [] all = All-nil (λ y. P (f y))
map_All P f (x ∷ xs) all = All-cons (λ y. P (f y)) x xs (All-head P (f x) (map f xs) all) (map_All P f xs (All-tail P (f x) (map f xs) all))

-- ---- one flow

listed : (row : RowFields) (modem : Modem) → is_listed modem row.modems ≡ true → modem_fault row modem ≡ None
listed row modem e = unless _ _ (not_from_true _ e)

in_range : (range : Numbers) (n : ℕ) → IsIn range n → is_out_of range n ≡ false
in_range range n is = or_from _ _ (le-ltb n range.first is.0) (le-ltb range.last n is.1)

sid_in : (row : RowFields) (sfid : ℕ) (o : Option ℕ) → IfSome o (IsIn row.sids) → sid_fault row sfid o ≡ None
sid_in row sfid None is = refl
sid_in row sfid (Some sid) is = unless _ _ (in_range row.sids sid is)

has_both : {A : Type 0} (b : Bool) (o : Option A) → (b ≡ true → IsSome o) → (b && not (is_some o)) ≡ false
has_both false o has = refl
has_both true None has = absurd (true≢false (sym (has refl)))
has_both true (Some x) has = refl

same_self : (a : ParamFields) → same_params a a ≡ true
same_self a =
    and_from _ _ (and_from _ _ (and_from _ _ (and_from _ _ (and_from _ _ (and_from _ _ (and_from _ _ (and_from _ _ (and_from _ _ (and_from _ _ (and_from _ _ (eq-eqb (scheduling_number a.scheduling) (scheduling_number a.scheduling) refl) (eq-eqb a.priority a.priority refl)) (eq-eqb a.max_sustained_rate a.max_sustained_rate refl))
    (eq-eqb a.max_burst a.max_burst refl)) (eq-eqb a.min_reserved_rate a.min_reserved_rate refl)) (eq-eqb a.request_policy a.request_policy refl))
    (eq-eqb a.polling_interval a.polling_interval refl)) (eq-eqb a.poll_jitter a.poll_jitter refl)) (eq-eqb a.grant_size a.grant_size refl))
    (eq-eqb a.grant_interval a.grant_interval refl)) (eq-eqb a.grant_jitter a.grant_jitter refl)) (eq-eqb a.grants_per_interval a.grants_per_interval refl)

set_self : (o : Option ParamFields) → same_set o o ≡ true
set_self None = refl
set_self (Some a) = same_self a

new_only : (new : Bool) (o : Option ParamFields) → (new ≡ true → o ≡ None) → (new && is_some o) ≡ false
new_only false o h = refl
new_only true None h = refl
new_only true (Some x) h = absurd (none-some x (sym (h refl)))

pending_none : (sfid : ℕ) (flow : Flow) (o : Option Pending) → IfSome o (IsSoundPending flow) → pending_fault sfid flow o ≡ None
pending_none sfid flow None is = refl
pending_none sfid flow (Some pending) is =
    either _ _ (unless _ _ (not_from_true _ (subst (λ (s : Option ParamFields). same_set pending.sets.provisioned s ≡ true) is.provisioned (set_self pending.sets.provisioned))))
    (either _ _ (unless _ _ (new_only pending.sid_is_new flow.sets.admitted is.new_sid))
    (unless _ _ (has_both (is_some pending.sets.admitted) flow.sid is.has_sid)))

no_stray : (asks : Bool) (backlog : ℕ) → (asks ≡ false → backlog ≡ 0) → (not asks && nat_lt 0 backlog) ≡ false
no_stray true backlog h = refl
no_stray false backlog h = le-ltb 0 backlog (let none = h refl in omega arith)

standing_none : (frame sfid : ℕ) (flow : Flow) → IsSoundFlow frame flow → standing_fault frame sfid flow ≡ None
standing_none frame sfid flow is =
    either _ _ (unless _ _ (has_both (is_some flow.sets.admitted) flow.sid is.has_sid))
    (either _ _ (unless _ _ (no_stray (asks_for_grants flow.sets.active) flow.backlog is.no_backlog))
    (unless _ _ (or_from _ _ (le-ltb frame flow.start is.start) (le-ltb frame flow.since is.since))))

sids_each : (row : RowFields) (flows : List (ℕ × Flow)) → All (IsIn row.sids) (sids_of flows) → All (λ entry. IfSome entry.1.sid (IsIn row.sids)) flows
sids_each row [] all = All-nil (λ entry. IfSome entry.1.sid (IsIn row.sids))
sids_each row (e ∷ es) all = by e.1.sid refl all (sids_each row es)
  where
    by : (o : Option ℕ) → e.1.sid ≡ o → All (IsIn row.sids) (cons_option o (sids_of es)) → (All (IsIn row.sids) (sids_of es) → All (λ entry. IfSome entry.1.sid (IsIn row.sids)) es)
        → All (λ entry. IfSome entry.1.sid (IsIn row.sids)) (e ∷ es)
    by None is all rest = All-cons (λ entry. IfSome entry.1.sid (IsIn row.sids)) e es (subst (λ (o : Option ℕ). IfSome o (IsIn row.sids)) (sym is) tt) (rest all)
    by (Some sid) is all rest =
        All-cons (λ entry. IfSome entry.1.sid (IsIn row.sids)) e es
        (subst (λ (o : Option ℕ). IfSome o (IsIn row.sids)) (sym is) (All-head (IsIn row.sids) sid (sids_of es) all))
        (rest (All-tail (IsIn row.sids) sid (sids_of es) all))

flow_none : (row : RowFields) (frame : ℕ) (entry : ℕ × Flow) → is_listed entry.1.modem row.modems ≡ true → IsIn row.sfids entry.0 → IfSome entry.1.sid (IsIn row.sids) → IsSoundFlow frame entry.1
    → flow_fault row frame entry ≡ None
flow_none row frame entry mine sfid sid sound =
    either _ _ (listed row entry.1.modem mine) (either _ _ (unless _ _ (in_range row.sfids entry.0 sfid)) (either _ _ (sid_in row entry.0 entry.1.sid sid)
    (either _ _ (standing_none frame entry.0 entry.1 sound) (pending_none entry.0 entry.1 entry.1.pending sound.pending))))

-- ---- the order of the flows

less_is : (k n : ℕ) → nat_cmp k n ≡ Less → k < n
less_is k n e = subst (λ (o : Ordering). MatchOrdering o (k < n) (k ≡ n) (n < k)) e (ranked k n (nat_cmp k n) refl)

order_from : (k : ℕ) (flows : List (ℕ × Flow)) → IsStrictlySortedBy nat_cmp (k ∷ keys_of flows) → order_fault (Some k) flows ≡ None
unfolding IsStrictlySortedBy
order_from k [] sorted = refl
order_from k (e ∷ es) sorted = either _ _ (unless _ _ (lt-leb e.0 k (less_is k e.0 sorted.0.0))) (order_from e.0 es sorted.1)

order_none : (flows : List (ℕ × Flow)) → IsStrictlySortedBy nat_cmp (keys_of flows) → order_fault None flows ≡ None
order_none [] sorted = refl
order_none (e ∷ es) sorted = order_from e.0 es sorted

-- ---- SIDs of their own

past_first : (o : Option ℕ) (xs : List ℕ) (x : ℕ) → o ≢ Some x → Contains (cons_option o xs) x → Contains xs x
past_first None xs x d h = h
past_first (Some n) xs x d h = Contains-tail n xs x (λ e. d (ap (λ (m : ℕ). Some m) e)) h

sid_had : (flows : List (ℕ × Flow)) (sid : ℕ) → IsStrictlySortedBy nat_cmp (keys_of flows) → Contains (sids_of flows) sid → (sfid : ℕ) × (sid_if (flow_at sfid flows) ≡ Some sid)
sid_had [] sid s h = absurd (omega (arith, h.1))
sid_had (e ∷ es) sid s h = elim (cases_sid sid e.1.sid) [
  | inl this_one ↦ (e.0, ap sid_if (looked_first e es e.0 refl) ∙ this_one)
  | inr another ↦
      let rest = sid_had es sid (sorted_tail nat_cmp e.0 (keys_of es) s) (past_first e.1.sid (sids_of es) sid another h) in
      (rest.0, ap sid_if (looked_past e es rest.0 (λ same. none_of e es sid rest.0 s same rest.1)) ∙ rest.1)
]

in_rest : (e : ℕ × Flow) (es : List (ℕ × Flow)) (sid a : ℕ) → IsStrictlySortedBy nat_cmp (keys_of (e ∷ es)) → sid_if (flow_at a es) ≡ Some sid → sid_if (flow_at a (e ∷ es)) ≡ Some sid
in_rest e es sid a s h = ap sid_if (looked_past e es a (λ same. none_of e es sid a s same h)) ∙ h

abbrev AreDistinct : List (ℕ × Flow) → Type 0
AreDistinct [] = Unit {0}
AreDistinct (e ∷ es) = IfSome e.1.sid (λ sid. ¬ Contains (sids_of es) sid) × AreDistinct es

distinct : (flows : List (ℕ × Flow)) → IsStrictlySortedBy nat_cmp (keys_of flows) → HaveOwnSids flows → AreDistinct flows
distinct [] s own = tt
distinct (e ∷ es) s own =
    (by e.1.sid refl, distinct es (sorted_tail nat_cmp e.0 (keys_of es) s) (λ sid a b at_a at_b. own sid a b (in_rest e es sid a s at_a) (in_rest e es sid b s at_b)))
  where
    by : (o : Option ℕ) → e.1.sid ≡ o → IfSome o (λ sid. ¬ Contains (sids_of es) sid)
    by None is = tt
    by (Some sid) is = λ used.
        let there = sid_had es sid (sorted_tail nat_cmp e.0 (keys_of es) s) used in
        let same : there.0 ≡ e.0 = own sid there.0 e.0 (in_rest e es sid there.0 s there.1) (ap sid_if (looked_first e es e.0 refl) ∙ is) in
        none_of e es sid there.0 s same there.1

none_with : (flows : List (ℕ × Flow)) (sid : ℕ) → ¬ Contains (sids_of flows) sid → flow_with sid flows ≡ None
none_with [] sid unused = refl
none_with (e ∷ es) sid unused = by e.1.sid unused (none_with es sid)
  where
    by : (o : Option ℕ) → ¬ Contains (cons_option o (sids_of es)) sid → (¬ Contains (sids_of es) sid → flow_with sid es ≡ None) → cond (is_sid sid o) (Some e) (flow_with sid es) ≡ None
    by None unused rest = rest unused
    by (Some n) unused rest =
        ap (λ (b : Bool). cond b (Some e) (flow_with sid es)) (ne_eqb n sid (λ same. unused (subst (λ (m : ℕ). Contains (m ∷ sids_of es) sid) (sym same) (0, omega arith, refl))))
        ∙ rest (λ used. unused (Contains-append_right (n ∷ []) (sids_of es) sid used))

first_or : (o : Option ℕ) (xs : List ℕ) (x : ℕ) → Contains (cons_option o xs) x → Contains xs x ⊎ (o ≡ Some x)
first_or o xs x h = elim (cases_sid x o) [ inl same ↦ inr same | inr other ↦ inl (past_first o xs x other h) ]

also_first : (o : Option ℕ) (xs : List ℕ) (x : ℕ) → Contains xs x → Contains (cons_option o xs) x
also_first None xs x h = h
also_first (Some n) xs x h = Contains-append_right (n ∷ []) xs x h

is_first : (o : Option ℕ) (xs : List ℕ) (x : ℕ) → o ≡ Some x → Contains (cons_option o xs) x
is_first o xs x e = subst (λ (p : Option ℕ). Contains (cons_option p xs) x) (sym e) (0, omega arith, refl)

put_sids : (flows : List (ℕ × Flow)) (k : ℕ) (v : Flow) (sid : ℕ) → Contains (sids_of (insert_entry nat_cmp flows k v)) sid → Contains (sids_of flows) sid ⊎ (v.sid ≡ Some sid)
put_sids [] k v sid h = first_or v.sid [] sid h
put_sids (e ∷ es) k v sid h = by (nat_cmp k e.0) h (put_sids es k v sid)
  where
    by : (o : Ordering) → Contains (sids_of (match_ordering o ((k, v) ∷ e ∷ es) ((e.0, v) ∷ es) (e ∷ insert_entry nat_cmp es k v))) sid
        → (Contains (sids_of (insert_entry nat_cmp es k v)) sid → Contains (sids_of es) sid ⊎ (v.sid ≡ Some sid)) → Contains (sids_of (e ∷ es)) sid ⊎ (v.sid ≡ Some sid)
    by Less h rest = first_or v.sid (sids_of (e ∷ es)) sid h
    by Equal h rest = elim (first_or v.sid (sids_of es) sid h) [ inl there ↦ inl (also_first e.1.sid (sids_of es) sid there) | inr same ↦ inr same ]
    by Greater h rest = elim (first_or e.1.sid (sids_of (insert_entry nat_cmp es k v)) sid h) [
      | inl there ↦ elim (rest there) [ inl before ↦ inl (also_first e.1.sid (sids_of es) sid before) | inr same ↦ inr same ]
      | inr same ↦ inl (is_first e.1.sid (sids_of es) sid same)
    ]

sids_from : (before flows : List (ℕ × Flow)) → ((sid : ℕ) → Contains (sids_of before) sid → ¬ Contains (sids_of flows) sid) → AreDistinct flows → sids_fault before flows ≡ None
sids_from before [] apart own = refl
sids_from before (e ∷ es) apart own =
    either _ _ (by e.1.sid refl) (sids_from (with_flow e.0 e.1 before) es (λ sid used later. elim (put_sids before e.0 e.1 sid used) [
      | inl there ↦ apart sid there (also_first e.1.sid (sids_of es) sid later)
      | inr same ↦ subst (λ (o : Option ℕ). IfSome o (λ n. ¬ Contains (sids_of es) n)) same own.0 later
    ]) own.1)
  where
    by : (o : Option ℕ) → e.1.sid ≡ o → sid_twice_fault before e.0 o ≡ None
    by None is = refl
    by (Some sid) is = unless _ _ (ap is_some (none_with before sid (λ used. apart sid used (is_first e.1.sid (sids_of es) sid is))))

-- ---- responses

unset : (sets : SetsFields) → sets ≡ record { provisioned = None; admitted = None; active = None } → is_unset sets ≡ true
unset sets e = ap is_unset e

awaited : (kind : Kind) (o : Option Flow) → IsSome o → IfSome o (IsWaitingOf kind) → does_await kind o ≡ true
awaited kind None some waits = absurd (true≢false (sym some))
awaited Dsa (Some flow) some waits = and_from _ _ waits.0 (unset flow.sets waits.1)
awaited Dsc (Some flow) some waits = waits
awaited Dsd (Some flow) some waits = absurd waits

not_awaited : (b : Bool) (c : Bool) → (b ≡ true → c ≡ true) → (b && not c) ≡ false
not_awaited false c h = refl
not_awaited true c h = not_from_true c (h refl)

response_none : (row : RowFields) (flows : List (ℕ × Flow)) (entry : KeptEntry) → is_listed entry.modem row.modems ≡ true → HasItsFlow flows entry → response_fault row flows entry ≡ None
response_none row flows entry mine has =
    either _ _ (listed row entry.modem mine) (unless _ _ (not_awaited (is_waiting entry) (does_await entry.kind (flow_at entry.sfid flows))
    (λ waits. let it = has waits in awaited entry.kind (flow_at entry.sfid flows) it.0 it.1)))

pairs_none : (entries : List KeptEntry) → HaveOwnFlows entries → pairs_fault entries ≡ None
pairs_none [] own = refl
pairs_none (x ∷ xs) own = either _ _ (unless _ _ (by (is_waiting x) refl)) (pairs_none xs (λ i j d lt within. own (suc i) (suc j) d (omega arith) (omega arith)))
  where
    by : (b : Bool) → is_waiting x ≡ b → (b && list_any (awaits_flow x.sfid) xs) ≡ false
    by false is = refl
    by true is = list_any_none (awaits_flow x.sfid) xs (λ k d lt. false_from_ne_true (awaits_flow x.sfid (get_or xs k d)) (λ both.
        let parts = and_parts (is_waiting (get_or xs k d)) ((get_or xs k d).sfid == x.sfid) both in
        own zero (suc k) d (omega arith) (omega arith) is parts.0 (sym (eqb-true (get_or xs k d).sfid x.sfid parts.1))))

find_none : {A : Type 0} (p : A → Bool) (xs : List A) → count_by p xs ≡ 0 → find p xs ≡ None
find_none p [] e = refl
find_none {A} p (x ∷ xs) e = by (p x) (sym (sum_by-cons (λ y. cond (p y) 1 0) x xs) ∙ e) (find_none p xs)
  where
    by : (b : Bool) → cond {A = ℕ} b 1 0 + count_by p xs ≡ 0 → (count_by p xs ≡ 0 → find p xs ≡ None) → cond b (Some x) (find p xs) ≡ None
    by true e rest = absurd (omega arith)
    by false e rest = rest (omega arith)

same_bytes : (xs : List ℕ) → bytes_eq xs xs ≡ true
same_bytes xs = (bytes_eq-Decides xs xs).1 refl

one_found : (before es : List KeptEntry) (e : KeptEntry) → OneEach (before ++ e ∷ es) → find (is_of e.modem e.tid) before ≡ None
one_found before es e one =
    let test : KeptEntry → Bool = is_of e.modem e.tid in
    let self : test e ≡ true = and_from _ _ (same_bytes e.modem.0) (eq-eqb e.tid e.tid refl) in
    let here : cond {A = ℕ} (test e) 1 0 ≡ 1 = ap (λ (b : Bool). cond {A = ℕ} b 1 0) self in
    let all = sum_by-append (λ x. cond {A = ℕ} (test x) 1 0) before (e ∷ es) in
    let first = sum_by-cons (λ x. cond {A = ℕ} (test x) 1 0) e es in
    let most : count_by test (before ++ e ∷ es) ≤ 1 = one e.modem e.tid in
    let zero : count_by test before ≡ 0 = omega (arith, here, all, first, most) in
    find_none test before zero

not_zero : (n : ℕ) → 1 ≤ n → (n == 0) ≡ false
not_zero n some = ne_eqb n 0 (λ e. omega (arith, some, e))

timed : (entry : KeptEntry) → HasTicks entry → IsHeldUnsent entry → is_off_time entry ≡ false
timed entry ticks held = or_from _ _ (not_zero entry.ticks_left ticks) (by (is_waiting entry) held)
  where
    by : (b : Bool) → (b ≡ false → entry.resends_left ≡ 0) → (not b && nat_lt 0 entry.resends_left) ≡ false
    by true h = refl
    by false h = le-ltb 0 entry.resends_left (let none = h refl in omega arith)

entries_none : (before entries : List KeptEntry) → OneEach (before ++ entries) → All HasTicks entries → All IsHeldUnsent entries → entries_fault before entries ≡ None
entries_none before [] one ticks held = refl
entries_none before (e ∷ es) one ticks held =
    either _ _ (either _ _ (unless _ _ (ap is_some (one_found before es e one))) (unless _ _ (timed e (All-head HasTicks e es ticks) (All-head IsHeldUnsent e es held))))
    (entries_none (before ++ e ∷ []) es (subst OneEach (sym (append_assoc before (e ∷ []) es)) one) (All-tail HasTicks e es ticks) (All-tail IsHeldUnsent e es held))

-- ---- shares

share_none : (consts : ConstsFields) (share : Share) → IsShare consts share → share_fault consts share ≡ None
share_none consts share is =
    either _ _ (unless _ _ (or_from _ _ (le-ltb share.slice.start consts.channel.head is.behind_head) (le-ltb consts.channel.frame_minislots (share.slice.start + share.slice.length) is.within_frame))) (unless _ _ (le-ltb share.slice.length share.budget is.budget))

next_none : (consts : ConstsFields) (frame committed : ℕ) (o : Option NextShare) → IfSome o (IsNextShare consts frame committed) → next_fault consts frame committed o ≡ None
next_none consts frame committed None is = refl
next_none consts frame committed (Some next) is =
    either _ _ (share_none consts next.share is.share) (either _ _ (unless _ _ (lt-leb next.from frame is.to_come)) (unless _ _ (le-ltb next.share.budget committed is.fits)))

-- ---- the whole state

pub none_under : (consts : ConstsFields) (row : RowFields) (state : OperatorState) → IsStateUnder consts row state → state_fault consts row state ≡ None
none_under consts row state is =
    let s = is.sound in
    let sfids = map_All (IsIn row.sfids) (λ (entry : ℕ × Flow). entry.0) state.flows s.sfids in
    let sids = sids_each row state.flows s.sids in
    let flows = map_All (IsSoundFlow state.frame) (λ (entry : ℕ × Flow). entry.1) state.flows s.flows in
    let each : All (λ entry. flow_fault row state.frame entry ≡ None) state.flows = λ k d lt.
    flow_none row state.frame (get_or state.flows k d) (is.flow_modems k d lt) (sfids k d lt) (sids k d lt) (flows k d lt) in
    let counts : counts_fault row state ≡ None = either _ _ (unless _ _ (le-ltb row.flows (length state.flows) s.few_flows)) (either _ _ (unless _ _ (le-ltb row.transactions (length state.kept) s.few_kept)) (unless _ _ (le-ltb row.inbox (length state.inbox) s.few_heard))) in
    let messages = none_each (λ (arrival : Arrival). modem_fault row arrival.modem) state.inbox (λ k d lt. listed row (get_or state.inbox k d).modem (is.message_modems k d lt)) in
    let parts : parts_fault consts row state ≡ None = either _ _ counts (either _ _ (order_none state.flows s.ascending) (either _ _ (none_each (flow_fault row state.frame) state.flows each) (either _ _ messages (share_none consts state.share s.share)))) in
    let committed : committed_fault consts row state ≡ None = either _ _ (unless _ _ (le-ltb row.elements (committed_elements consts.units state.flows) s.elements)) (unless _ _ (le-ltb state.share.budget (committed_minislots consts.units state.flows) s.minislots)) in
    let responses = none_each (response_fault row state.flows) state.kept (λ k d lt. response_none row state.flows (get_or state.kept k d) (is.response_modems k d lt) (s.waiting k d lt)) in
    let table : table_fault consts row state ≡ None = either _ _ committed (either _ _ (next_none consts state.frame (committed_minislots consts.units state.flows) state.next s.next) (either _ _ responses (pairs_none state.kept s.own_flows))) in
    either _ _ parts (either _ _ (sids_from [] state.flows (λ sid used later. absurd (omega (arith, used.1))) (distinct state.flows s.ascending s.own_sids))
    (either _ _ table (entries_none [] state.kept is.one_each is.ticking is.held)))

-- where a machine can go on, only memory can be wanting
pub only_memory : (consts : ConstsFields) (row : RowFields) (state : OperatorState) (fault : StateFault) → (fault ≡ faults.NoMemory) ⊎ (state_fault consts row state ≡ Some fault)
    → IsStateUnder consts row state → fault ≡ faults.NoMemory
only_memory consts row state fault (inl memory) is = memory
only_memory consts row state fault (inr there) is = absurd (none-some fault (sym (none_under consts row state is) ∙ there))
