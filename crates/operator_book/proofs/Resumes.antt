-- A state of which no fault is found is sound under its row.
use Rattle.std.proofs.Common.{◌≡◌, ℕ, ◌<◌, ◌≤◌, ◌==◌, ◌&&◌, Bool, true, false, not, cond, nat_le, nat_lt, List, [], ◌∷◌, ◌++◌, length, All, Option, Some, None, IsNone, IfSome, is_some, refl, sym, ap, ◌∙◌, subst, arith, inl, inr}
use Rattle.operator_book.proofs.Common.{find, Contains, AllByRecursion, cons_option, option_or, Ordering, Less, Equal, Greater, nat_cmp, match_ordering, keys_of, insert_entry, ltb-false, leb-false, eqb-false, lt-ltb, le-ltb, eq-eqb, ne_eqb, or_parts, true≢false, cases_Bool, none-some, append-nil, append_assoc, All-nil, All-cons, Contains-tail, KeptEntry, is_waiting, is_of, HasTicks, IsHeldUnsent, Flow, FlowTable, HasRoomFor, sids_of, flow_with, is_sid, StateFault, fault_where, first_fault_in, is_not_after, order_fault, sid_twice_fault, all_put_back, is_off_time, entry_fault}
use Rattle.std.specs.List.Sorted.{IsStrictlySortedBy}
use Rattle.flow_table.proofs.StandLemmas.{new_with_unused_sid}
use Rattle.operator_book.specs.declared.state_fault.StateFault.TheVariants as faults

-- ---- no fault

pub or_none : (a b : Option StateFault) → option_or a b ≡ None → (a ≡ None) × (b ≡ None)
or_none None b e = (refl, e)
or_none (Some f) b e = absurd (none-some f (sym e))

pub where_none : (b : Bool) (f : StateFault) → fault_where b f ≡ None → b ≡ false
where_none true f e = absurd (none-some f (sym e))
where_none false f e = refl

pub where_or_none : (b : Bool) (f : StateFault) (r : Option StateFault) → option_or (fault_where b f) r ≡ None → (b ≡ false) × (r ≡ None)
where_or_none b f r e = let parts = or_none (fault_where b f) r e in (where_none b f parts.0, parts.1)

pub each_none : {A : Type 0} (fault_of : A → Option StateFault) (xs : List A) → first_fault_in fault_of xs ≡ None → All (λ x. fault_of x ≡ None) xs
each_none fault_of [] e = All-nil (λ y. fault_of y ≡ None)
each_none fault_of (x ∷ xs) e = let parts = or_none (fault_of x) (first_fault_in fault_of xs) e in All-cons (λ y. fault_of y ≡ None) x xs parts.0 (each_none fault_of xs parts.1)

-- ---- flows that are put one after the other

insert_end : (before : List (ℕ × Flow)) (k : ℕ) (v : Flow) → AllByRecursion (λ e. e.0 < k) before → insert_entry nat_cmp before k v ≡ before ++ (k, v) ∷ []
insert_end [] k v below = refl
insert_end (e ∷ es) k v below =
    let first : nat_lt k e.0 ≡ false = le-ltb k e.0 (omega (arith, below.0)) in
    let other : (k == e.0) ≡ false = ne_eqb k e.0 (λ same. omega (arith, below.0, same)) in
    let greater : nat_cmp k e.0 ≡ Greater = λ i. cond (first i) Less (cond (other i) Equal Greater) in
    ap (λ (o : Ordering). match_ordering o ((k, v) ∷ e ∷ es) ((e.0, v) ∷ es) (e ∷ insert_entry nat_cmp es k v)) greater
    ∙ ap (λ (xs : List (ℕ × Flow)). e ∷ xs) (insert_end es k v below.1)

all_below : (before : List (ℕ × Flow)) (k n : ℕ) → k < n → AllByRecursion (λ e. e.0 ≤ k) before → AllByRecursion (λ e. e.0 < n) before
all_below [] k n lt all = tt
all_below (e ∷ es) k n lt all = (omega (arith, all.0), all_below es k n lt all.1)

up_to : (before : List (ℕ × Flow)) (n : ℕ) (e : ℕ × Flow) → e.0 ≤ n → AllByRecursion (λ x. x.0 < n) before → AllByRecursion (λ x. x.0 ≤ n) (before ++ e ∷ [])
up_to [] n e le all = (le, tt)
up_to (x ∷ xs) n e le all = (omega (arith, all.0), up_to xs n e le all.1)

back_from : (before flows : List (ℕ × Flow)) (k : ℕ) → order_fault (Some k) flows ≡ None → AllByRecursion (λ e. e.0 ≤ k) before → all_put_back before flows ≡ before ++ flows
back_from before [] k none below = sym (append-nil before)
back_from before (e ∷ es) k none below =
    let parts = where_or_none (nat_le e.0 k) (faults.FlowOrder e.0) (order_fault (Some e.0) es) none in
    let later : k < e.0 = leb-false e.0 k parts.0 in
    let all = all_below before k e.0 later below in
    ap (λ (xs : List (ℕ × Flow)). all_put_back xs es) (insert_end before e.0 e.1 all)
    ∙ (back_from (before ++ e ∷ []) es e.0 parts.1 (up_to before e.0 e (omega arith) all)
    ∙ append_assoc before (e ∷ []) es)

-- flows that follow one another are the list that they are put from
pub put_back_all : (flows : List (ℕ × Flow)) → order_fault None flows ≡ None → all_put_back [] flows ≡ flows
put_back_all [] none = refl
put_back_all (e ∷ es) none = back_from (e ∷ []) es e.0 (where_or_none false (faults.FlowOrder e.0) (order_fault (Some e.0) es) none).1 (omega arith, tt)

less : (x y : ℕ) → x < y → nat_cmp x y ≡ Less
less x y lt = ap (λ (b : Bool). cond b Less (cond (x == y) Equal Greater)) (lt-ltb x y lt)

all_after : (k n : ℕ) (flows : List (ℕ × Flow)) → k ≤ n → order_fault (Some n) flows ≡ None → AllByRecursion (λ y. nat_cmp k y ≡ Less) (keys_of flows)
all_after k n [] le none = tt
all_after k n (e ∷ es) le none =
    let parts = where_or_none (nat_le e.0 n) (faults.FlowOrder e.0) (order_fault (Some e.0) es) none in
    let later : n < e.0 = leb-false e.0 n parts.0 in
    (less k e.0 (omega (arith, later, le)), all_after k e.0 es (omega (arith, later, le)) parts.1)

pub ascending : (p : Option ℕ) (flows : List (ℕ × Flow)) → order_fault p flows ≡ None → IsStrictlySortedBy nat_cmp (keys_of flows)
unfolding IsStrictlySortedBy
ascending p [] none = tt
ascending p (e ∷ es) none =
    let parts = where_or_none (is_not_after p e.0) (faults.FlowOrder e.0) (order_fault (Some e.0) es) none in
    (all_after e.0 e.0 es (omega arith) parts.1, ascending (Some e.0) es parts.1)

-- ---- a flow whose SID no flow has

unused : (flows : List (ℕ × Flow)) (sid : ℕ) → flow_with sid flows ≡ None → ¬ Contains (sids_of flows) sid
unused [] sid none h = absurd (omega (arith, h.1))
unused (e ∷ es) sid none h = by e.1.sid none h (unused es sid)
  where
    by : (o : Option ℕ) → cond (is_sid sid o) (Some e) (flow_with sid es) ≡ None → Contains (cons_option o (sids_of es)) sid → (flow_with sid es ≡ None → ¬ Contains (sids_of es) sid) → ⊥
    by None none h rest = rest none h
    by (Some n) none h rest = elim (cases_Bool (n == sid)) [
      | inl same ↦ none-some e (sym (ap (λ b. cond b (Some e) (flow_with sid es)) (sym same) ∙ none))
      | inr other ↦ rest (ap (λ b. cond b (Some e) (flow_with sid es)) (sym other) ∙ none)
          (Contains-tail n (sids_of es) sid (λ is. true≢false (sym (subst (λ (m : ℕ). (m == sid) ≡ true) (sym is) (eq-eqb sid sid refl)) ∙ other)) h)
    ]

pub once_may_stand : (table : FlowTable) (sfid : ℕ) (flow : Flow) → sid_twice_fault table.flows sfid flow.sid ≡ None → length table.flows < table.capacity → HasRoomFor table sfid flow
once_may_stand table sfid flow once room = new_with_unused_sid table sfid flow (by flow.sid once) room
  where
    by : (o : Option ℕ) → sid_twice_fault table.flows sfid o ≡ None → IfSome o (λ n. ¬ Contains (sids_of table.flows) n)
    by None once = tt
    by (Some sid) once = unused table.flows sid (gone (flow_with sid table.flows) (where_none (is_some (flow_with sid table.flows)) (faults.SidTwice sfid sid) once))
      where
        gone : (o : Option (ℕ × Flow)) → is_some o ≡ false → o ≡ None
        gone None e = refl
        gone (Some x) e = absurd (true≢false e)

-- ---- a response that the cache takes

not_some : {A : Type 0} (o : Option A) → is_some o ≡ false → o ≡ None
not_some None e = refl
not_some (Some x) e = absurd (true≢false e)

module _ (before : List KeptEntry) (entry : KeptEntry) (none : entry_fault before entry ≡ None) where
  on_time : is_off_time entry ≡ false
  on_time = where_none (is_off_time entry) (faults.ResponseTimer entry.modem entry.tid) (where_or_none (is_some (find (is_of entry.modem entry.tid) before)) (faults.ResponseTwice entry.modem entry.tid) (fault_where (is_off_time entry) (faults.ResponseTimer entry.modem entry.tid)) none).1

  time_parts : ((entry.ticks_left == 0) ≡ false) × ((not (is_waiting entry) && nat_lt 0 entry.resends_left) ≡ false)
  time_parts = or_parts _ _ on_time

  pub entry_is_free : IsNone (find (is_of entry.modem entry.tid) before)
  entry_is_free = (where_or_none (is_some (find (is_of entry.modem entry.tid) before)) (faults.ResponseTwice entry.modem entry.tid) (fault_where (is_off_time entry) (faults.ResponseTimer entry.modem entry.tid)) none).0

  pub entry_has_ticks : HasTicks entry
  entry_has_ticks = by (entry.ticks_left) time_parts.0
    where
      by : (n : ℕ) → (n == 0) ≡ false → 1 ≤ n
      by n e = omega (arith, eqb-false n 0 e)

  pub entry_is_unsent : IsHeldUnsent entry
  entry_is_unsent held = zero_if (ltb-false 0 entry.resends_left (sym (ap (λ (b : Bool). not b && nat_lt 0 entry.resends_left) held) ∙ time_parts.1))
    where
      zero_if : entry.resends_left ≤ 0 → entry.resends_left ≡ 0
      zero_if le = omega arith
