-- A verdict is right: the flow that it puts is sound, has identifiers of its own, and what is committed with it is allowed.
use Rattle.std.proofs.Common.{◌≡◌, ℕ, ◌&&◌, ◌<◌, ◌≤◌, Bool, true, false, List, length, Option, Some, None, Result, Ok, Err, IfOk, IfSome, IsSome, is_some, is_none, refl, sym, subst, arith, nat_le, nat_lt}
use Rattle.operator_model.proofs.Common.{cond_both, leb-false, ltb-false, and_parts, true≢false, false≢true, Modem, Kind, Dsa, Dsc, Dsd, ReplyFields, IsIn, least_free_of, Flow, sfids_of, sids_of, flow_at, with_flow, committed_minislots, committed_elements, Addition, Change, Verdict, Refused, Put, Deleted, Operator, transaction, free_flow, addition_of, change_of, kind_of, IsSoundFlow, IsWaitingOf, IsSound}
use Rattle.dsx_messages.specs.declared.message.Request.{Request}
use Rattle.dsx_messages.specs.declared.message.Request.TheVariants as requests
use Rattle.operator_model.specs.Verdict.{limit_of, minislots_allowed, within_limit, new_flow, added_reply, added_under, addition_within_limit, changed_flow, changed_reply, changed_with, changed_with_new, wants_sid, change_within_limit, addition_verdict, change_verdict, deletion_verdict, verdict}
use Rattle.operator_model.proofs.OrderLemmas.{length-insert, length-insert_there}
use Rattle.operator_model.proofs.EntryLemmas.{All-at}
use Rattle.operator_model.proofs.FlowsLemmas.{MayPut, MayPut-again, sound-there}
use Rattle.operator_model.proofs.FreshLemmas.{MayPut-fresh, none-there}
use Rattle.operator_model.proofs.RoomLemmas.{given-free}
use Rattle.operator_model.proofs.KeptLemmas.{IsIdle}
use Rattle.operator_model.proofs.SoundLemmas.{sound-AreFlows}
use Rattle.operator_model.proofs.AskedLemmas.{IsFreeFlow, free-IsFreeFlow, IsAddition, addition-IsAddition, IsChange, change-IsChange}

-- what is committed with these flows is allowed
pub record AreAllowed (op : Operator) (flows : List (ℕ × Flow)) : Type 0 where
  pub minislots : committed_minislots op.consts.units flows ≤ minislots_allowed op.state.share.budget op.state.next
  pub elements : committed_elements op.consts.units flows ≤ op.row.elements

-- a flow that is put, and waits for an acknowledgement of this kind
pub record IsRightPut (op : Operator) (kind : Kind) (sfid : ℕ) (flow : Flow) : Type 0 where
  pub may : MayPut op.row op.state.frame op.state.flows sfid flow
  pub allowed : AreAllowed op (with_flow sfid flow op.state.flows)
  pub waits : IsWaitingOf kind flow
  pub idle : IsIdle op.state.flows sfid

abbrev pub IsRight : Operator → Kind → Verdict → Type 0
IsRight op kind (Refused reply) = Unit {0}
IsRight op kind (Put sfid flow reply) = IsRightPut op kind sfid flow
IsRight op kind (Deleted sfid reply) = IsIdle op.state.flows sfid

none_admitted : {X : Type 0} (admitted : Option X) (sid : Option ℕ) → (IsSome admitted → IsSome sid) → is_none sid ≡ true → admitted ≡ None
none_admitted None sid has none = refl
none_admitted (Some set) None has none = absurd (false≢true (has refl))
none_admitted (Some set) (Some n) has none = absurd (false≢true none)

sid_wanted : {X : Type 0} (admitted : Option X) (sid : Option ℕ) → (is_some admitted && is_none sid) ≡ false → IsSome admitted → IsSome sid
sid_wanted None sid not_wanted some = absurd (false≢true some)
sid_wanted (Some set) None not_wanted some = absurd (true≢false not_wanted)
sid_wanted (Some set) (Some n) not_wanted some = refl

module _ (op : Operator) (sound : IsSound op) where
  abbrev Right : Kind → Verdict → Type 0
  Right kind v = IsRight op kind v

  right-within : (kind told : Kind) (tid : ℕ) (flows : List (ℕ × Flow)) (v : Verdict) → (AreAllowed op flows → Right kind v) → Right kind (within_limit told tid op.consts.units (limit_of op) flows v)
  right-within kind told tid flows v right =
      cond_both (nat_lt op.row.elements (committed_elements op.consts.units flows)) _ _ (Right kind) (λ _. tt)
      (λ few. cond_both (nat_lt (minislots_allowed op.state.share.budget op.state.next) (committed_minislots op.consts.units flows)) _ _ (Right kind) (λ _. tt)
      (λ small. right (record { minislots = ltb-false _ _ small; elements = ltb-false _ _ few })))

  -- ---- an addition

  module _ (modem : Modem) (tid : ℕ) (addition : Addition) (is : IsAddition addition) where
    new_sound : (sid : ℕ) → IsSoundFlow op.state.frame (new_flow modem op.state.frame addition.sets sid)
    new_sound sid = record {
      nested = record { active = tt; admitted = tt };
      kinds = record { admitted = tt; active = tt };
      no_backlog = λ _. refl;
      has_sid = λ some. refl;
      start = omega arith;
      since = omega arith;
      pending = record { nested = is.nested; kinds = is.kinds; provisioned = is.same; new_sid = λ _. refl; has_sid = λ _. refl };
    }

    right-added_under : length op.state.flows < op.row.flows → (o p : Option ℕ) → least_free_of op.row.sfids (sfids_of op.state.flows) ≡ o → least_free_of op.row.sids (sids_of op.state.flows) ≡ p → Right Dsa (added_under op modem tid addition o p)
    right-added_under few None p is_o is_p = tt
    right-added_under few (Some sfid) None is_o is_p = tt
    right-added_under few (Some sfid) (Some sid) is_o is_p =
        let flow : Flow = new_flow modem op.state.frame addition.sets sid in
        let free = given-free op.row.sfids (sfids_of op.state.flows) sfid is_o in
        let own = given-free op.row.sids (sids_of op.state.flows) sid is_p in
        right-within Dsa Dsa tid (with_flow sfid flow op.state.flows) (Put sfid flow (added_reply tid addition.reference sfid sid)) (λ allowed. record {
          may = MayPut-fresh op.row op.state.frame op.state.flows sfid flow (free.first_at_most, free.at_most_last) own (new_sound sid) (omega (arith, length-insert op.state.flows sfid flow));
          allowed = allowed;
          waits = (refl, refl);
          idle = subst (λ (o : Option Flow). IfSome o (λ (f : Flow). f.pending ≡ None)) (sym (none-there op.row.sfids op.state.flows sfid free)) tt;
        })

    right-added : Right Dsa (addition_within_limit op modem tid addition)
    unfolding addition_within_limit
    right-added = cond_both (nat_le op.row.flows (length op.state.flows)) _ _ (Right Dsa) (λ _. tt)
        (λ few. right-added_under (leb-false _ _ few) (least_free_of op.row.sfids (sfids_of op.state.flows)) (least_free_of op.row.sids (sids_of op.state.flows)) refl refl)

  -- ---- a change

  module _ (tid : ℕ) (change : Change) (is : IsChange op.state.flows change) where
    old_sound : IsSoundFlow op.state.frame change.flow
    old_sound = sound-there (sound-AreFlows sound) change.sfid change.flow is.flow.there

    changed_sound : (sid : Option ℕ) (new : Bool) → (IsSome change.flow.sets.admitted → IsSome sid) → (IsSome change.sets.admitted → IsSome sid) → (new ≡ true → change.flow.sets.admitted ≡ None) → IsSoundFlow op.state.frame (changed_flow change sid new)
    changed_sound sid new had has none = record {
      nested = old_sound.nested;
      kinds = old_sound.kinds;
      no_backlog = old_sound.no_backlog;
      has_sid = had;
      start = old_sound.start;
      since = old_sound.since;
      pending = record { nested = is.sets.nested; kinds = is.sets.kinds; provisioned = is.sets.same; new_sid = none; has_sid = has };
    }

    right-changed_with : (sid : Option ℕ) (new : Bool) → MayPut op.row op.state.frame op.state.flows change.sfid (changed_flow change sid new) → Right Dsc (changed_with op tid change sid new)
    right-changed_with sid new may =
        right-within Dsc Dsc tid (with_flow change.sfid (changed_flow change sid new) op.state.flows) (Put change.sfid (changed_flow change sid new) (changed_reply tid change.sfid change.sets sid)) (λ allowed. record {
          may = may;
          allowed = allowed;
          waits = refl;
          idle = subst (λ (o : Option Flow). IfSome o (λ (f : Flow). f.pending ≡ None)) (sym is.flow.there) is.flow.free;
        })

    -- with a SID that is free
    right-changed_with_new : wants_sid change ≡ true → (o : Option ℕ) → least_free_of op.row.sids (sids_of op.state.flows) ≡ o → Right Dsc (changed_with_new op tid change o)
    right-changed_with_new wants None is_o = tt
    right-changed_with_new wants (Some sid) is_o =
        let flow : Flow = changed_flow change (Some sid) true in
        let none = none_admitted change.flow.sets.admitted change.flow.sid old_sound.has_sid (and_parts (is_some change.sets.admitted) (is_none change.flow.sid) wants).1 in
        right-changed_with (Some sid) true (MayPut-fresh op.row op.state.frame op.state.flows change.sfid flow
        (All-at (IsIn op.row.sfids) op.state.flows change.sfid change.flow sound.sfids is.flow.there)
        (given-free op.row.sids (sids_of op.state.flows) sid is_o)
        (changed_sound (Some sid) true (λ _. refl) (λ _. refl) (λ _. none))
        (omega (arith, length-insert_there op.state.flows change.sfid flow change.flow sound.ascending is.flow.there, sound.few_flows)))

    right-changed : Right Dsc (change_within_limit op tid change)
    unfolding change_within_limit
    right-changed = cond_both (wants_sid change) _ _ (Right Dsc)
        (λ wants. right-changed_with_new wants (least_free_of op.row.sids (sids_of op.state.flows)) refl)
        (λ content. right-changed_with change.flow.sid false (MayPut-again (sound-AreFlows sound) change.sfid change.flow is.flow.there (changed_flow change change.flow.sid false) (λ n same. same)
        (changed_sound change.flow.sid false old_sound.has_sid (sid_wanted change.sets.admitted change.flow.sid content) (λ no. absurd (false≢true no)))))

  -- ---- requests

  right-addition : (modem : Modem) (tid : ℕ) (r : Result Addition ReplyFields) → IfOk r IsAddition → Right Dsa (addition_verdict op modem tid r)
  right-addition modem tid (Err reply) is = tt
  right-addition modem tid (Ok addition) is = right-added modem tid addition is

  right-change : (tid : ℕ) (r : Result Change ReplyFields) → IfOk r (IsChange op.state.flows) → Right Dsc (change_verdict op tid r)
  right-change tid (Err reply) is = tt
  right-change tid (Ok change) is = right-changed tid change is

  right-deletion : (tid sfid : ℕ) (r : Result Flow ReplyFields) → IfOk r (IsFreeFlow (flow_at sfid op.state.flows)) → Right Dsd (deletion_verdict tid sfid r)
  right-deletion tid sfid (Err reply) is = tt
  right-deletion tid sfid (Ok flow) is = subst (λ (o : Option Flow). IfSome o (λ (f : Flow). f.pending ≡ None)) (sym is.there) is.free

  pub right : (modem : Modem) (request : Request) → IsRight op (kind_of request) (verdict op modem request)
  unfolding verdict
  right modem (requests.Dsa tid encodings) = right-addition modem tid (addition_of op.consts (transaction modem Dsa tid) encodings) (addition-IsAddition op.consts (transaction modem Dsa tid) encodings)
  right modem (requests.Dsc tid encodings) = right-change tid (change_of op.consts op.state.flows (transaction modem Dsc tid) encodings) (change-IsChange op.consts op.state.flows (transaction modem Dsc tid) encodings)
  right modem (requests.Dsd tid sfid) = right-deletion tid sfid (free_flow (transaction modem Dsd tid) (flow_at sfid op.state.flows)) (free-IsFreeFlow (transaction modem Dsd tid) (flow_at sfid op.state.flows))
