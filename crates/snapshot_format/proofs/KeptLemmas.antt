-- Whatever text is read, the states keep what the machine's types keep.
use Rattle.std.proofs.Common.{◌≡◌, ℕ, zero, suc, ◌+◌, ◌-◌, ◌==◌, ◌&&◌, ◌||◌, Bool, true, false, cond, nat_le, List, [], ◌∷◌, ◌++◌, length, take, Option, Some, None, Result, Ok, Err, refl, sym, ap, subst, ◌∙◌, append_assoc, append-nil, codes}
use Rattle.snapshot_format.proofs.Common.{IfSome, IfOk, AllByRecursion, list_all, is_ascii_alphanumeric, and_parts, leb-true, eqb-true, ◌>>=◌, Gives, ParamFields, SetsFields, IsParameterSet, IsWithinProvisioned, failing_in_provisioned, failing_in_admitted, sets_unless, first_failing, is_within, KeptEntry, is_waiting, Pending, Share, NextShare, Repeated, NotWithin, SnapshotFault, SavedFlow, SavedOperator, Snapshot, Taken, place_result, stop_at, take_items, AllFollow}
use Rattle.dsx_messages.specs.declared.code.Code.TheVariants.{RejectAuthorizationFailure, RejectInvalidForContext}
use Rattle.slice_scheduler.specs.Minislots.{IsSlice}
use Rattle.plant.specs.Name.{IsOperatorName, is_operator_name}
use Rattle.snapshot_format.specs.declared.fault.Wrong.{Wrong}
use Rattle.snapshot_format.specs.declared.fault.ReadStop.{ReadStop}
use Rattle.snapshot_format.specs.declared.operator_records.OperatorHead.{OperatorHead}
use Rattle.snapshot_format.specs.Fields.{take_literal, take_presence, take_field, take_number, parse_name, take_name, take_modem, take_bytes}
use Rattle.snapshot_format.specs.Sets.{take_params, is_parameter_set, checked_set, take_set, take_optional_set, within, with_active, checked_sets, take_sets}
use Rattle.snapshot_format.specs.Records.{take_sid, take_waiting, take_pending, take_flow, flow_follows, take_flows, take_kind, take_state, is_timed, checked_entry, take_entry, entry_follows, take_entries, take_arrivals, checked_share, take_share, take_slice, take_next_share, take_next, take_head, take_operator, operator_follows, take_operators}
use Rattle.snapshot_format.specs.Snapshot.{take_plant, take_frame, take_body, checked_end, by_line, snapshot_of, snapshot_cause}
use Rattle.snapshot_format.specs.Kept.{AreKeptSets, IsKeptPending, IsKeptFlow, IsKeptEntry, IsKeptNext, IsKeptOperator, IsKeptSnapshot}
use Rattle.snapshot_format.proofs.SetLemmas.{set_from}

-- ---- what holds of whatever is taken

abbrev Keeps : {A : Type 0} → (A → Type 0) → Taken A → Type 0
Keeps P (Ok x) = P x.0
Keeps P (Err stop) = Unit {0}

module _ {A B : Type 0} where
  -- a step of which nothing is known
  bind_any : (r : Result A ReadStop) (f : A → Taken B) (P : B → Type 0) → ((x : A) → Keeps P (f x)) → Keeps P (r >>= f)
  bind_any (Ok x) f P h = h x
  bind_any (Err stop) f P h = tt

  -- a step of which something is known
  bind_keeps : (r : Taken A) (f : A × List ℕ → Taken B) (Q : A → Type 0) (P : B → Type 0) → Keeps Q r → ((x : A × List ℕ) → Q x.0 → Keeps P (f x)) → Keeps P (r >>= f)
  bind_keeps (Ok x) f Q P q h = h x q
  bind_keeps (Err stop) f Q P q h = tt

placed_keeps : {A : Type 0} (r : Result A Wrong) (bytes rest : List ℕ) (P : A → Type 0) → ((x : A) → r ≡ Ok x → P x) → Keeps P (place_result r bytes rest)
placed_keeps (Ok x) bytes rest P h = h x refl
placed_keeps (Err wrong) bytes rest P h = tt

if_keeps : {A : Type 0} (b : Bool) (x y : Taken A) (P : A → Type 0) → Keeps P x → Keeps P y → Keeps P (cond b x y)
if_keeps true x y P h k = h
if_keeps false x y P h k = k

-- a test that did not fail
tested : {A : Type 0} (b : Bool) (x y : A) (wrong : Wrong) → cond b (Ok x) (Err wrong) ≡ Ok y → (b ≡ true) × (x ≡ y)
tested true x y wrong e = (refl, cc)
tested false x y wrong e = absurd cc

-- ---- records one after the other

all_more : {A : Type 0} (P : A → Type 0) (items : List A) (item : A) → AllByRecursion P items → P item → AllByRecursion P (items ++ item ∷ [])
all_more P [] item all is = (is, tt)
all_more P (x ∷ items) item all is = (all.0, all_more P items item all.1 is)

follow_more : {A : Type 0} (may_follow : List A → A → Bool) (before items : List A) (item : A) → AllFollow may_follow before items → may_follow (before ++ items) item ≡ true
    → AllFollow may_follow before (items ++ item ∷ [])
follow_more {A = A} may_follow before [] item all is = (ap (λ (xs : List A). may_follow xs item) (sym (append-nil before)) ∙ is, tt)
follow_more {A = A} may_follow before (x ∷ items) item all is =
    (all.0, follow_more may_follow (before ++ x ∷ []) items item all.1 (ap (λ (xs : List A). may_follow xs item) (append_assoc before (x ∷ []) items) ∙ is))

module _ {A : Type 0} (item_at : List ℕ → Taken A) (may_follow : List A → A → Bool) (P : A → Type 0) (keep : (bytes : List ℕ) → Keeps P (item_at bytes)) where
  abbrev AreKept : List A → Type 0
  AreKept items = AllByRecursion P items × AllFollow may_follow [] items

  items_keep : (count : ℕ) (before : List A) (bytes : List ℕ) → AreKept before → Keeps AreKept (take_items item_at may_follow count before bytes)
  items_keep zero before bytes are = are
  items_keep (suc n) before bytes are =
      bind_keeps (item_at bytes) (λ item. cond (may_follow before item.0) (take_items item_at may_follow n (before ++ item.0 ∷ []) item.1) (stop_at Repeated bytes)) P AreKept (keep bytes)
      (λ item is. next item is (items_keep n (before ++ item.0 ∷ []) item.1) (may_follow before item.0) refl)
    where
      next : (item : A × List ℕ) → P item.0 → (AreKept (before ++ item.0 ∷ []) → Keeps AreKept (take_items item_at may_follow n (before ++ item.0 ∷ []) item.1))
          → (b : Bool) → may_follow before item.0 ≡ b → Keeps AreKept (cond b (take_items item_at may_follow n (before ++ item.0 ∷ []) item.1) (stop_at Repeated bytes))
      next item is more true e = more (all_more P before item.0 are.0 is, follow_more may_follow [] before item.0 are.1 e)
      next item is more false e = tt

-- ---- sets

set_kept : (set kept : ParamFields) → checked_set set ≡ Ok kept → IsParameterSet kept
set_kept set kept e = let t = tested (is_parameter_set set) set kept _ e in subst IsParameterSet t.1 (set_from set t.0)

set_keeps : (bytes : List ℕ) → Keeps IsParameterSet (take_set bytes)
unfolding take_set
set_keeps bytes =
    bind_any (take_params bytes) _ IsParameterSet (λ set. placed_keeps (checked_set set.0) bytes set.1 IsParameterSet (set_kept set.0))

abbrev IsKeptOption : Option ParamFields → Type 0
IsKeptOption set = IfSome set IsParameterSet

optional_keeps : (bytes : List ℕ) → Keeps IsKeptOption (take_optional_set bytes)
unfolding take_optional_set
optional_keeps bytes =
    bind_any (take_presence 32 bytes) _ IsKeptOption (λ presence.
    if_keeps presence.0 _ _ IsKeptOption (bind_keeps (take_set presence.1) _ IsParameterSet IsKeptOption (set_keeps presence.1) (λ set is. is)) tt)

abbrev three : Option ParamFields → Option ParamFields → Option ParamFields → SetsFields
three provisioned admitted active = record { provisioned = provisioned; admitted = admitted; active = active }

abbrev done : SetsFields → Result SetsFields Wrong
done x = Ok x

abbrev failed : Result SetsFields Wrong
failed = Err NotWithin

ok_is : (x y : SetsFields) → done x ≡ done y → x ≡ y
ok_is x y e = cc

null_within : (provisioned : Option ParamFields) → IsWithinProvisioned None provisioned
null_within None = tt
null_within (Some p) = tt

from_none : (a : ParamFields) (provisioned : Option ParamFields) → failing_in_provisioned a provisioned ≡ None → IsWithinProvisioned (Some a) provisioned
from_none a None e = tt
from_none a (Some p) e = is_within a p e

-- sets that admitting and activating made keep what sets keep
sets_kept : (provisioned admitted active : Option ParamFields) (sets : SetsFields) → IfSome provisioned IsParameterSet → IfSome admitted IsParameterSet → IfSome active IsParameterSet
    → checked_sets provisioned admitted active ≡ Ok sets → AreKeptSets sets
sets_kept p None None sets hp ha hc e =
    subst AreKeptSets (ok_is (three p None None) sets e) (record { provisioned = hp; admitted = tt; active = tt; nested = record { active = tt; admitted = null_within p } })
sets_kept p None (Some c) sets hp ha hc e = absurd cc
sets_kept p (Some a) None sets hp ha hc e = by (failing_in_provisioned a p) refl e
  where
    by : (o : Option ℕ) → failing_in_provisioned a p ≡ o → (within (sets_unless o RejectAuthorizationFailure (three p (Some a) None)) >>= λ made. with_active made None) ≡ Ok sets → AreKeptSets sets
    by None f e = subst AreKeptSets (ok_is (three p (Some a) None) sets e) (record { provisioned = hp; admitted = ha; active = tt; nested = record { active = tt; admitted = from_none a p f } })
    by (Some k) f e = absurd cc
sets_kept p (Some a) (Some c) sets hp ha hc e = by (failing_in_provisioned a p) refl (first_failing c a) refl e
  where
    by : (o : Option ℕ) → failing_in_provisioned a p ≡ o → (i : Option ℕ) → first_failing c a ≡ i
        → (within (sets_unless o RejectAuthorizationFailure (three p (Some a) None)) >>= λ made. within (sets_unless (failing_in_admitted c made.admitted) RejectInvalidForContext (record made { active = Some c }))) ≡ Ok sets → AreKeptSets sets
    by (Some k) f i g e = absurd cc
    by None f (Some k) g e = absurd (fails (rw g at e))
      where
        fails : failed ≡ Ok sets → ⊥
        fails h = cc
    by None f None g e =
        subst AreKeptSets (ok_is (three p (Some a) (Some c)) sets (rw g at e)) (record { provisioned = hp; admitted = ha; active = hc; nested = record { active = is_within c a g; admitted = from_none a p f } })

sets_keep : (bytes : List ℕ) → Keeps AreKeptSets (take_sets bytes)
unfolding take_sets
sets_keep bytes =
    bind_keeps (take_optional_set bytes) _ IsKeptOption AreKeptSets (optional_keeps bytes) (λ p hp.
    bind_keeps (take_optional_set p.1) _ IsKeptOption AreKeptSets (optional_keeps p.1) (λ a ha.
    bind_keeps (take_optional_set a.1) _ IsKeptOption AreKeptSets (optional_keeps a.1) (λ c hc.
    placed_keeps (checked_sets p.0 a.0 c.0) bytes c.1 AreKeptSets (λ sets e. sets_kept p.0 a.0 c.0 sets hp ha hc e))))

-- ---- flows

waiting_keeps : (bytes : List ℕ) → Keeps IsKeptPending (take_waiting bytes)
unfolding take_waiting
waiting_keeps bytes =
    bind_any (take_number 1 32 bytes) _ IsKeptPending (λ new. bind_keeps (take_sets new.1) _ AreKeptSets IsKeptPending (sets_keep new.1) (λ sets is. is))

abbrev IsKeptWaiting : Option Pending → Type 0
IsKeptWaiting pending = IfSome pending IsKeptPending

pending_keeps : (bytes : List ℕ) → Keeps IsKeptWaiting (take_pending bytes)
unfolding take_pending
pending_keeps bytes =
    bind_any (take_presence 32 bytes) _ IsKeptWaiting (λ presence.
    if_keeps presence.0 _ _ IsKeptWaiting (bind_keeps (take_waiting presence.1) _ IsKeptPending IsKeptWaiting (waiting_keeps presence.1) (λ pending is. is)) tt)

flow_keeps : (bytes : List ℕ) → Keeps IsKeptFlow (take_flow bytes)
unfolding take_flow
flow_keeps bytes =
    bind_any (take_literal (codes "flow ") bytes) _ IsKeptFlow (λ head.
    bind_any (take_number 4294967295 32 head) _ IsKeptFlow (λ sfid.
    bind_any (take_modem 32 sfid.1) _ IsKeptFlow (λ modem.
    bind_any (take_sid modem.1) _ IsKeptFlow (λ sid.
    bind_keeps (take_sets sid.1) _ AreKeptSets IsKeptFlow (sets_keep sid.1) (λ sets are.
    bind_keeps (take_pending sets.1) _ IsKeptWaiting IsKeptFlow (pending_keeps sets.1) (λ pending is.
    bind_any (take_number 4294967295 32 pending.1) _ IsKeptFlow (λ start.
    bind_any (take_number 65535 32 start.1) _ IsKeptFlow (λ backlog.
    bind_any (take_number 4294967295 10 backlog.1) _ IsKeptFlow (λ since. record { sets = are; pending = is })))))))))

abbrev AreKeptFlows : List SavedFlow → Type 0
AreKeptFlows flows = AllByRecursion IsKeptFlow flows × AllFollow flow_follows [] flows

flows_keep : (count : ℕ) (bytes : List ℕ) → Keeps AreKeptFlows (take_flows count bytes)
unfolding take_flows
flows_keep count bytes = items_keep take_flow flow_follows IsKeptFlow flow_keeps count [] bytes (tt, tt)

-- ---- cached responses

entry_kept : (entry kept : KeptEntry) → checked_entry entry ≡ Ok kept → IsKeptEntry kept
entry_kept entry kept e =
    let t = tested (is_timed entry) entry kept _ e in
    let p = and_parts (nat_le 1 entry.ticks_left) (is_waiting entry || entry.resends_left == 0) t.0 in
    let P : KeptEntry → Type 0 = λ x. IsKeptEntry x in
    subst P t.1 (record { ticking = leb-true _ _ p.0; held = by (is_waiting entry) p.1 })
  where
    by : (waits : Bool) → (waits || entry.resends_left == 0) ≡ true → waits ≡ false → entry.resends_left ≡ 0
    by true h e = absurd cc
    by false h e = eqb-true _ _ h

entry_keeps : (bytes : List ℕ) → Keeps IsKeptEntry (take_entry bytes)
unfolding take_entry
entry_keeps bytes =
    bind_any (take_literal (codes "response ") bytes) _ IsKeptEntry (λ head.
    bind_any (take_modem 32 head) _ IsKeptEntry (λ modem.
    bind_any (take_number 65535 32 modem.1) _ IsKeptEntry (λ tid.
    bind_any (take_kind tid.1) _ IsKeptEntry (λ kind.
    bind_any (take_number 4294967295 32 kind.1) _ IsKeptEntry (λ sfid.
    bind_any (take_state sfid.1) _ IsKeptEntry (λ standing.
    bind_any (take_number 65535 32 standing.1) _ IsKeptEntry (λ ticks.
    bind_any (take_number 255 32 ticks.1) _ IsKeptEntry (λ resends.
    bind_any (take_bytes 10 resends.1) _ IsKeptEntry (λ reply.
    let entry : KeptEntry = record { modem = modem.0; tid = tid.0; kind = kind.0; reply = reply.0; sfid = sfid.0; standing = standing.0; ticks_left = ticks.0; resends_left = resends.0 } in
    placed_keeps (checked_entry entry) bytes reply.1 IsKeptEntry (entry_kept entry))))))))))

abbrev AreKeptEntries : List KeptEntry → Type 0
AreKeptEntries entries = AllByRecursion IsKeptEntry entries × AllFollow entry_follows [] entries

entries_keep : (count : ℕ) (bytes : List ℕ) → Keeps AreKeptEntries (take_entries count bytes)
unfolding take_entries
entries_keep count bytes = items_keep take_entry entry_follows IsKeptEntry entry_keeps count [] bytes (tt, tt)

-- ---- slices and names

share_kept : (start length budget : ℕ) (share : Share) → checked_share start length budget ≡ Ok share → IsSlice share.slice
share_kept start length budget share e =
    let made : Share = record { slice = record { start = start; length = length }; budget = budget } in
    let t = tested (nat_le 1 length && nat_le (start + length) 4096) made share _ e in
    let p = and_parts (nat_le 1 length) (nat_le (start + length) 4096) t.0 in
    let P : Share → Type 0 = λ x. IsSlice x.slice in
    subst P t.1 (record { some = leb-true _ _ p.0; in_range = leb-true _ _ p.1 })

abbrev HasSlice : Share → Type 0
HasSlice share = IsSlice share.slice

share_keeps : (bytes : List ℕ) → Keeps HasSlice (take_share bytes)
unfolding take_share
share_keeps bytes =
    bind_any (take_number 65535 32 bytes) _ HasSlice (λ start.
    bind_any (take_number 65535 32 start.1) _ HasSlice (λ length.
    bind_any (take_number 65535 10 length.1) _ HasSlice (λ budget.
    placed_keeps (checked_share start.0 length.0 budget.0) bytes budget.1 HasSlice (λ share e. share_kept start.0 length.0 budget.0 share e))))

slice_keeps : (bytes : List ℕ) → Keeps HasSlice (take_slice bytes)
unfolding take_slice
slice_keeps bytes =
    bind_any (take_literal (codes "slice ") bytes) _ HasSlice (λ rest. share_keeps rest)

next_share_keeps : (bytes : List ℕ) → Keeps IsKeptNext (take_next_share bytes)
unfolding take_next_share
next_share_keeps bytes =
    bind_any (take_number 4294967295 32 bytes) _ IsKeptNext (λ from. bind_keeps (take_share from.1) _ HasSlice IsKeptNext (share_keeps from.1) (λ share is. is))

abbrev IsKeptChange : Option NextShare → Type 0
IsKeptChange next = IfSome next IsKeptNext

next_keeps : (bytes : List ℕ) → Keeps IsKeptChange (take_next bytes)
unfolding take_next
next_keeps bytes =
    bind_any (take_literal (codes "next ") bytes) _ IsKeptChange (λ head.
    bind_any (take_presence 10 head) _ IsKeptChange (λ presence.
    if_keeps presence.0 _ _ IsKeptChange (bind_keeps (take_next_share presence.1) _ IsKeptNext IsKeptChange (next_share_keeps presence.1) (λ next is. is)) tt))

name_kept : (field name : List ℕ) → parse_name field ≡ Ok name → IsOperatorName name
unfolding is_operator_name
name_kept field name e =
    let t = tested (is_operator_name field) field name _ e in
    let p = and_parts (nat_le 1 (length field) && nat_le (length field) 16) (list_all is_ascii_alphanumeric field) t.0 in
    let q = and_parts (nat_le 1 (length field)) (nat_le (length field) 16) p.0 in
    let P : List ℕ → Type 0 = λ x. IsOperatorName x in
    subst P t.1 (record { some = leb-true _ _ q.0; few = leb-true _ _ q.1; letters = p.1 })

name_keeps : (mark : ℕ) (bytes : List ℕ) → Keeps IsOperatorName (take_name mark bytes)
unfolding take_name
name_keeps mark bytes =
    bind_any (take_field mark bytes) _ IsOperatorName (λ field. placed_keeps (parse_name field.0) bytes field.1 IsOperatorName (name_kept field.0))

-- ---- operators

abbrev HasName : OperatorHead → Type 0
HasName head = IsOperatorName head.name

head_keeps : (bytes : List ℕ) → Keeps HasName (take_head bytes)
unfolding take_head
head_keeps bytes =
    bind_any (take_literal (codes "operator ") bytes) _ HasName (λ head.
    bind_keeps (take_name 32 head) _ IsOperatorName HasName (name_keeps 32 head) (λ name is.
    bind_any (take_number 65535 32 name.1) _ HasName (λ flows.
    bind_any (take_number 65535 32 flows.1) _ HasName (λ kept.
    bind_any (take_number 65535 10 kept.1) _ HasName (λ inbox. is)))))

operator_keeps : (bytes : List ℕ) → Keeps IsKeptOperator (take_operator bytes)
unfolding take_operator
operator_keeps bytes =
    bind_keeps (take_head bytes) _ HasName IsKeptOperator (head_keeps bytes) (λ head named.
    bind_keeps (take_slice head.1) _ HasSlice IsKeptOperator (slice_keeps head.1) (λ share has.
    bind_keeps (take_next share.1) _ IsKeptChange IsKeptOperator (next_keeps share.1) (λ next waits.
    bind_keeps (take_flows head.0.flows next.1) _ AreKeptFlows IsKeptOperator (flows_keep head.0.flows next.1) (λ flows are.
    bind_keeps (take_entries head.0.kept flows.1) _ AreKeptEntries IsKeptOperator (entries_keep head.0.kept flows.1) (λ kept held.
    bind_any (take_arrivals head.0.inbox kept.1) _ IsKeptOperator (λ inbox. record { name = named; slice = has; next = waits; flows = are.0; ascending = are.1; kept = held.0; one_each = held.1 }))))))

abbrev AreKeptOperators : List SavedOperator → Type 0
AreKeptOperators operators = AllByRecursion IsKeptOperator operators × AllFollow operator_follows [] operators

operators_keep : (count : ℕ) (bytes : List ℕ) → Keeps AreKeptOperators (take_operators count bytes)
unfolding take_operators
operators_keep count bytes = items_keep take_operator operator_follows IsKeptOperator operator_keeps count [] bytes (tt, tt)

-- ---- the whole

body_keeps : (text : List ℕ) → Keeps IsKeptSnapshot (take_body text)
unfolding take_body
body_keeps text =
    bind_any (take_plant text) _ IsKeptSnapshot (λ plant.
    bind_any (take_frame plant.1) _ IsKeptSnapshot (λ frame.
    bind_keeps (take_operators frame.0.1 frame.1) _ AreKeptOperators IsKeptSnapshot (operators_keep frame.0.1 frame.1) (λ operators are. record { operators = are.0; own_names = are.1 })))

pub snapshot_keeps : (text : List ℕ) (saved : Snapshot) → snapshot_of text ≡ Ok saved → IsKeptSnapshot saved
snapshot_keeps text saved e = by (take_body text) (body_keeps text) e
  where
    checked : (body : Snapshot) (r : Result (List ℕ) ReadStop) → by_line text (r >>= λ rest. Ok body) ≡ Ok saved → body ≡ saved
    checked body (Ok rest) e = cc
    checked body (Err stop) e = absurd cc

    by : (r : Taken Snapshot) → Keeps IsKeptSnapshot r → by_line text (r >>= λ body. checked_end (take (length text - length body.1) text) body.1 >>= λ rest. Ok body.0) ≡ Ok saved → IsKeptSnapshot saved
    by (Ok body) is e = subst IsKeptSnapshot (checked body.0 (checked_end (take (length text - length body.1) text) body.1) e) is
    by (Err stop) is e = absurd cc

pub answer_keeps : (text : List ℕ) (answer : Result Snapshot SnapshotFault) → Gives snapshot_cause (λ saved. saved) answer (snapshot_of text) → IfOk answer (λ saved. IsKeptSnapshot saved)
answer_keeps text (Ok saved) exact = snapshot_keeps text saved exact
answer_keeps text (Err fault) exact = tt
