-- Where a flow may stand.
use Rattle.std.proofs.Common.{◌≡◌, ℕ, ◌+◌, ◌<◌, ◌≤◌, suc, List, [], ◌∷◌, length, Option, Some, None, refl, sym, ap, ◌∙◌, subst, arith, inl, inr}
use Rattle.operator_book.proofs.Common.{IfSome, All, unwrap_or, sum_by, ◌⊎◌, Contains, option_map, nat_cmp, lookup, keys_of, values_of, insert_entry, is_at, nat_cmp_total, sum_by-cons, All-contains, Numbers, IsLeastFree, IsIn, Flow, FlowTable, sids_of, flow_at, sid_if, with_flow, HasRoomFor, sid_used}
use Rattle.std.specs.List.Sorted.{IsStrictlySortedBy}
use Rattle.std.proofs.lemmas.Map.Entries.{sum_by-insert_entry}

-- ---- how many flows there are with one more, or with another in its place

abbrev one : {X : Type 0} → X → ℕ
one x = 1

ones : {X : Type 0} → (es : List (ℕ × X)) → sum_by one (values_of es) ≡ length es
ones [] = refl
ones (e ∷ es) = omega (arith, sum_by-cons one e.1 (values_of es), ones es)

pub longer : {X : Type 0} → (es : List (ℕ × X)) (k : ℕ) (v : X) → IsStrictlySortedBy nat_cmp (keys_of es) → length (insert_entry nat_cmp es k v) ≤ suc (length es)
longer es k v sorted =
    let sums : sum_by one (values_of (insert_entry nat_cmp es k v)) + unwrap_or (option_map one (lookup (is_at (nat_cmp k)) es)) 0 ≡ sum_by one (values_of es) + 1 = sum_by-insert_entry one nat_cmp_total es k v sorted in
    omega (arith, sums, ones es, ones (insert_entry nat_cmp es k v))

as_long : {X : Type 0} → (es : List (ℕ × X)) (k : ℕ) (v old : X) → IsStrictlySortedBy nat_cmp (keys_of es) → lookup (is_at (nat_cmp k)) es ≡ Some old
    → length (insert_entry nat_cmp es k v) ≡ length es
as_long es k v old sorted there =
    let sums : sum_by one (values_of (insert_entry nat_cmp es k v)) + unwrap_or (option_map one (lookup (is_at (nat_cmp k)) es)) 0 ≡ sum_by one (values_of es) + 1 = sum_by-insert_entry one nat_cmp_total es k v sorted in
    let found : unwrap_or (option_map one (lookup (is_at (nat_cmp k)) es)) 0 ≡ 1 = ap (λ o. unwrap_or (option_map one o) 0) there in
    omega (arith, sums, found, ones es, ones (insert_entry nat_cmp es k v))

-- ---- flows that may stand

-- a SID that no flow has
pub with_free_sid : (table : FlowTable) (sfid sid : ℕ) (range : Numbers) (flow : Flow) → flow.sid ≡ Some sid
    → IsLeastFree range (sids_of table.flows) sid → length (with_flow sfid flow table.flows) ≤ table.capacity → HasRoomFor table sfid flow
with_free_sid table sfid sid range flow is free room = record { sid = rw is (inl free.free.unused); room = room }

-- a new flow, where there is room for one more
pub new_may_stand : (table : FlowTable) (sfid sid : ℕ) (range : Numbers) (flow : Flow) → IsStrictlySortedBy nat_cmp (keys_of table.flows)
    → length table.flows < table.capacity → flow.sid ≡ Some sid → IsLeastFree range (sids_of table.flows) sid → HasRoomFor table sfid flow
new_may_stand table sfid sid range flow sorted room is free =
    with_free_sid table sfid sid range flow is free (omega (arith, room, longer table.flows sfid flow sorted))

-- a flow that changes, and gets a SID
pub given_may_stand : (table : FlowTable) (sfid sid : ℕ) (range : Numbers) (old flow : Flow) → IsStrictlySortedBy nat_cmp (keys_of table.flows)
    → length table.flows ≤ table.capacity → flow_at sfid table.flows ≡ Some old → flow.sid ≡ Some sid → IsLeastFree range (sids_of table.flows) sid → HasRoomFor table sfid flow
given_may_stand table sfid sid range old flow sorted room there is free =
    with_free_sid table sfid sid range flow is free (omega (arith, room, as_long table.flows sfid flow old sorted there))

own_sid : (o : Option ℕ) (flows : List (ℕ × Flow)) (old : Option Flow) → o ≡ sid_if old → IfSome o (λ sid. (¬ Contains (sids_of flows) sid) ⊎ (sid_if old ≡ Some sid))
own_sid None flows old same = tt
own_sid (Some sid) flows old same = inr (sym same)

-- a flow that changes, and keeps its SID
pub same_may_stand : (table : FlowTable) (sfid : ℕ) (old flow : Flow) → IsStrictlySortedBy nat_cmp (keys_of table.flows)
    → length table.flows ≤ table.capacity → flow_at sfid table.flows ≡ Some old → flow.sid ≡ old.sid → HasRoomFor table sfid flow
same_may_stand table sfid old flow sorted room there same = record {
  sid = own_sid flow.sid table.flows (flow_at sfid table.flows) (same ∙ sym (ap sid_if there));
  room = omega (arith, room, as_long table.flows sfid flow old sorted there);
}

-- ---- SIDs in the row's range

bounded : (o : Option ℕ) (most : ℕ) → ((sid : ℕ) → o ≡ Some sid → sid ≤ most) → IfSome o (λ sid. sid ≤ most)
bounded None most all = tt
bounded (Some sid) most all = all sid refl

-- the SID of a flow that is there is one of the row's
pub sid_in_range : (flows : List (ℕ × Flow)) (range : Numbers) (sfid : ℕ) (flow : Flow) → All (IsIn range) (sids_of flows)
    → flow_at sfid flows ≡ Some flow → IfSome flow.sid (λ sid. sid ≤ range.last)
sid_in_range flows range sfid flow all there =
    bounded flow.sid range.last (λ sid is. (All-contains (IsIn range) (sids_of flows) sid all (sid_used flows sfid sid (ap sid_if there ∙ is))).1)

pub few_sids : (o : Option ℕ) (last : ℕ) → last ≤ 8191 → IfSome o (λ sid. sid ≤ last) → IfSome o (λ sid. sid ≤ 8191)
few_sids None last few in_range = tt
few_sids (Some sid) last few in_range = omega arith

-- a table of the same flows and the same room
pub may_stand_same : (t u : FlowTable) (sfid : ℕ) (flow : Flow) → t.flows ≡ u.flows → t.capacity ≡ u.capacity → HasRoomFor t sfid flow → HasRoomFor u sfid flow
may_stand_same t u sfid flow flows capacity h = record {
  sid = subst (λ (fs : List (ℕ × Flow)). IfSome flow.sid (λ sid. (¬ Contains (sids_of fs) sid) ⊎ (sid_if (flow_at sfid fs) ≡ Some sid))) flows h.sid;
  room = subst (λ (n : ℕ). length (with_flow sfid flow u.flows) ≤ n) capacity (subst (λ (fs : List (ℕ × Flow)). length (with_flow sfid flow fs) ≤ t.capacity) flows h.room);
}

-- a flow that is opened
pub opened_may_stand : (table : FlowTable) (sfid : ℕ) (range : Numbers) (flow : Flow) → IsStrictlySortedBy nat_cmp (keys_of table.flows)
    → length table.flows < table.capacity → IfSome flow.sid (IsLeastFree range (sids_of table.flows)) → HasRoomFor table sfid flow
opened_may_stand table sfid range flow sorted room free = record {
  sid = unused_sid flow.sid free;
  room = omega (arith, room, longer table.flows sfid flow sorted);
}
  where
    unused_sid : (o : Option ℕ) → IfSome o (IsLeastFree range (sids_of table.flows)) → IfSome o (λ sid. (¬ Contains (sids_of table.flows) sid) ⊎ (sid_if (flow_at sfid table.flows) ≡ Some sid))
    unused_sid None h = tt
    unused_sid (Some sid) h = inl h.free.unused
