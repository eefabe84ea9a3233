-- When a flow may stand under an SFID, what is found there then, and that an edit of a flow keeps its SID.
use Rattle.std.proofs.Common.{◌≡◌, ◌≢◌, ℕ, ◌<◌, ◌≤◌, ◌↔◌, true, false, cond, List, [], ◌∷◌, length, ◌⊎◌, Option, Some, None, IsSome, IfSome, is_some, refl, sym, ap, ◌∙◌, subst, arith, inl, inr}
use Rattle.flow_table.proofs.Common.{Contains, IsStrictlySortedBy, nat_cmp, keys_of, sorted_tail, none-some, same_Some, IfSome_then, Numbers, least_free_of, least_free_iff, Flow, flow_after_ack, taken_back, with_pending, without_pending, FlowTable, HasRoomFor, HaveOwnSids, flow_at, flow_with, sid_if, sids_of, with_flow}
use Rattle.flow_table.specs.declared.flow.Pending.{Pending}
use Rattle.flow_table.proofs.EntryLemmas.{looked_first, looked_past, none_later, put_here, put_elsewhere, length_put, length_put_there}
use Rattle.flow_table.proofs.IndexLemmas.{cases_sid, is_sid_yes, is_sid_no, found}

-- ---- when a flow may stand

pub free_is_unused : (range : Numbers) (used : List ℕ) (n : ℕ) → least_free_of range used ≡ Some n → ¬ Contains used n
free_is_unused range used n e = ((least_free_iff range used n).0 e).free.unused

unused_sid : (sids : Numbers) (flows : List (ℕ × Flow)) (sfid : ℕ) (flow : Flow) → IfSome flow.sid (λ sid. least_free_of sids (sids_of flows) ≡ Some sid)
    → IfSome flow.sid (λ sid. (¬ Contains (sids_of flows) sid) ⊎ (sid_if (flow_at sfid flows) ≡ Some sid))
unused_sid sids flows sfid flow free = IfSome_then flow.sid free (λ sid e. inl (free_is_unused sids (sids_of flows) sid e))

-- where there is room for one more, with an unused SID or none
pub new_may_stand : (table : FlowTable) (sids : Numbers) (sfid : ℕ) (flow : Flow) → length table.flows < table.capacity → IfSome flow.sid (λ sid. least_free_of sids (sids_of table.flows) ≡ Some sid)
    → HasRoomFor table sfid flow
new_may_stand table sids sfid flow room free = record {
  sid = unused_sid sids table.flows sfid flow free;
  room = omega (arith, length_put table.flows sfid flow);
}

-- in place of the flow of this SFID, with its SID or none
pub known_may_stand : (table : FlowTable) (sfid : ℕ) (flow : Flow) → IsStrictlySortedBy nat_cmp (keys_of table.flows) → length table.flows ≤ table.capacity → IsSome (flow_at sfid table.flows)
    → IfSome flow.sid (λ sid. sid_if (flow_at sfid table.flows) ≡ Some sid) → HasRoomFor table sfid flow
known_may_stand table sfid flow ascending within there own = record {
  sid = IfSome_then flow.sid own (λ sid e. inr e);
  room = omega (arith, length_put_there table.flows sfid flow ascending there);
}

-- in place of the flow of this SFID, with an unused SID or none
pub known_may_stand_anew : (table : FlowTable) (sids : Numbers) (sfid : ℕ) (flow : Flow) → IsStrictlySortedBy nat_cmp (keys_of table.flows) → length table.flows ≤ table.capacity → IsSome (flow_at sfid table.flows)
    → IfSome flow.sid (λ sid. least_free_of sids (sids_of table.flows) ≡ Some sid) → HasRoomFor table sfid flow
known_may_stand_anew table sids sfid flow ascending within there free = record {
  sid = unused_sid sids table.flows sfid flow free;
  room = omega (arith, length_put_there table.flows sfid flow ascending there);
}

-- the same, with premises that a search by these lemmas meets from what a caller has
unused_or : (o : Option ℕ) (flows : List (ℕ × Flow)) (sfid : ℕ) → IfSome o (λ n. ¬ Contains (sids_of flows) n) → IfSome o (λ n. (¬ Contains (sids_of flows) n) ⊎ (sid_if (flow_at sfid flows) ≡ Some n))
unused_or None flows sfid h = tt
unused_or (Some sid) flows sfid h = inl h

pub new_with_unused_sid : (table : FlowTable) (sfid : ℕ) (flow : Flow) → IfSome flow.sid (λ n. ¬ Contains (sids_of table.flows) n) → length table.flows < table.capacity → HasRoomFor table sfid flow
new_with_unused_sid table sfid flow unused room = record {
  sid = unused_or flow.sid table.flows sfid unused;
  room = omega (arith, length_put table.flows sfid flow);
}

-- ---- what is found

pub flow_put : (flows : List (ℕ × Flow)) (sfid : ℕ) (flow : Flow) → flow_at sfid (with_flow sfid flow flows) ≡ Some flow
flow_put flows sfid flow = put_here flows sfid flow

pub flow_elsewhere : (flows : List (ℕ × Flow)) (sfid : ℕ) (flow : Flow) (other : ℕ) → other ≢ sfid → flow_at other (with_flow sfid flow flows) ≡ flow_at other flows
flow_elsewhere flows sfid flow other apart = put_elsewhere flows sfid flow other apart

found_is : (sid : ℕ) (flows : List (ℕ × Flow)) (sfid : ℕ) (flow : Flow) → IsStrictlySortedBy nat_cmp (keys_of flows) → flow_with sid flows ≡ Some (sfid, flow) → (flow_at sfid flows ≡ Some flow) × (flow.sid ≡ Some sid)
found_is sid [] sfid flow s h = absurd (none-some (sfid, flow) h)
found_is sid (e ∷ es) sfid flow s h = elim (cases_sid sid e.1.sid) [
  | inl this_one ↦
      let this : e ≡ (sfid, flow) = same_Some e (sfid, flow) (sym (ap (λ b. cond b (Some e) (flow_with sid es)) (is_sid_yes sid e.1.sid this_one)) ∙ h) in
      subst (λ (x : ℕ × Flow). (flow_at x.0 (e ∷ es) ≡ Some x.1) × (x.1.sid ≡ Some sid)) this (looked_first e es e.0 refl, this_one)
  | inr another ↦
      let later = found_is sid es sfid flow (sorted_tail nat_cmp e.0 (keys_of es) s) (sym (ap (λ b. cond b (Some e) (flow_with sid es)) (is_sid_no sid e.1.sid another)) ∙ h) in
      let apart : sfid ≢ e.0 = λ same. none-some flow (sym (ap (λ (n : ℕ). flow_at n es) same ∙ none_later e es s) ∙ later.0) in
      (looked_past e es sfid apart ∙ later.0, later.1)
]

pub found_iff : (flows : List (ℕ × Flow)) (sid sfid : ℕ) (flow : Flow) → IsStrictlySortedBy nat_cmp (keys_of flows) → HaveOwnSids flows
    → (flow_with sid flows ≡ Some (sfid, flow)) ↔ ((flow_at sfid flows ≡ Some flow) × (flow.sid ≡ Some sid))
found_iff flows sid sfid flow s own = (
  found_is sid flows sfid flow s,
  λ h. found sid flows sfid flow s h.0 h.1 (λ b at. own sid b sfid at (ap sid_if h.0 ∙ h.1)),
)

-- ---- an edit keeps the SID or frees it

sid_of_flow : (flows : List (ℕ × Flow)) (sfid : ℕ) (flow : Flow) → flow_at sfid flows ≡ Some flow → IfSome flow.sid (λ sid. sid_if (flow_at sfid flows) ≡ Some sid)
sid_of_flow flows sfid flow at = subst (λ (o : Option Flow). IfSome flow.sid (λ sid. sid_if o ≡ Some sid)) (sym at) (itself flow.sid)
  where
    itself : (o : Option ℕ) → IfSome o (λ sid. o ≡ Some sid)
    itself None = tt
    itself (Some sid) = refl

pub acknowledged_keeps : (flows : List (ℕ × Flow)) (sfid : ℕ) (flow : Flow) (frame : ℕ) → flow_at sfid flows ≡ Some flow → IfSome (flow_after_ack frame flow).sid (λ sid. sid_if (flow_at sfid flows) ≡ Some sid)
acknowledged_keeps flows sfid flow frame at =
    elim flow.pending as (λ (p : Option Pending). IfSome (with_pending frame flow p).sid (λ sid. sid_if (flow_at sfid flows) ≡ Some sid)) [
      | None ↦ sid_of_flow flows sfid flow at
      | Some pending ↦ elim (is_some pending.sets.admitted) as (λ b. IfSome (cond b flow.sid None) (λ sid. sid_if (flow_at sfid flows) ≡ Some sid)) [ true ↦ sid_of_flow flows sfid flow at | false ↦ tt ]
    ]

pub taken_back_keeps : (flows : List (ℕ × Flow)) (sfid : ℕ) (flow : Flow) → flow_at sfid flows ≡ Some flow → IfSome (taken_back flow).sid (λ sid. sid_if (flow_at sfid flows) ≡ Some sid)
taken_back_keeps flows sfid flow at =
    elim flow.pending as (λ (p : Option Pending). IfSome (without_pending flow p).sid (λ sid. sid_if (flow_at sfid flows) ≡ Some sid)) [
      | None ↦ sid_of_flow flows sfid flow at
      | Some pending ↦ elim pending.sid_is_new as (λ b. IfSome (cond b None flow.sid) (λ sid. sid_if (flow_at sfid flows) ≡ Some sid)) [ true ↦ tt | false ↦ sid_of_flow flows sfid flow at ]
    ]
