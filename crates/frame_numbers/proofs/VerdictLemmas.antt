-- The verdict on a request does not ask how frames are numbered.
use Rattle.std.proofs.Common.{◌≡◌, ℕ, Bool, true, false, cond, not, is_some, List, length, option_map, Option, Some, None, Result, Ok, Err, refl, ap, ◌∙◌, nat_le, nat_lt}
use Rattle.lists.specs.Results.{◌>>=◌, result_map}
use Rattle.frame_numbers.proofs.Common.{Modem, Kind, Dsa, Dsc, Dsd, least_free_of, UnitSizes, same_modem, ConstsFields, Flow, sfids_of, sids_of, flow_at, with_flow, committed_minislots, committed_elements, NextShare, Verdict, Refused, Put, Deleted, Operator, operator, flow_seen, next_seen, state_as_seen}
use Rattle.dsx_messages.specs.declared.code.Code.TheVariants as codes
use Rattle.dsx_messages.specs.declared.reply.ReplyFields.{ReplyFields}
use Rattle.dsx_messages.specs.declared.message.Request.{Request}
use Rattle.dsx_messages.specs.declared.message.Request.TheVariants as requests
use Rattle.tlv24.specs.declared.fields.FlowFields.{FlowFields}
use Rattle.tlv24.specs.Subtype.{sfid_subtype}
use Rattle.admission.specs.declared.budget.Budget.{Budget}
use Rattle.operator_model.specs.declared.verdict.Transaction.{Transaction}
use Rattle.operator_model.specs.declared.verdict.AskedSets.{AskedSets}
use Rattle.operator_model.specs.declared.verdict.Addition.{Addition}
use Rattle.operator_model.specs.declared.verdict.Change.{Change}
use Rattle.operator_model.specs.Asked.{transaction, refusal, refusal_naming, stated_or_refusal, first_encoding, free_flow, asked_sets, nested_sets, addition_of, change_of}
use Rattle.operator_model.specs.Verdict.{limit_of, minislots_allowed, no_room, within_limit, put_within_limit, new_flow, added_reply, added_under, addition_within_limit, changed_flow, changed_reply, changed_with, changed_with_new, wants_sid, change_within_limit, addition_verdict, change_verdict, deletion_verdict, verdict}
use Rattle.frame_numbers.proofs.FlowLemmas.{new-seen}
use Rattle.frame_numbers.proofs.TableLemmas.{flows_seen, at-seen, sfids-seen, sids-seen, length-seen, minislots-seen, elements-seen, with-seen}

-- an operator whose state is as it is seen
abbrev pub operator_seen : Operator → Operator
operator_seen op = operator op.consts op.row (state_as_seen op.consts.units op.state)

abbrev pub verdict_seen : UnitSizes → ℕ → Verdict → Verdict
verdict_seen units frame (Refused reply) = Refused reply
verdict_seen units frame (Put sfid flow reply) = Put sfid (flow_seen units frame flow) reply
verdict_seen units frame (Deleted sfid reply) = Deleted sfid reply

-- ---- one step after another

module _ {A B C E : Type 0} where
  map-then : (r : Result A E) (view : B → C) (k : A → Result B E) (other : A → Result C E) → ((x : A) → other x ≡ result_map view (k x)) → (r >>= other) ≡ result_map view (r >>= k)
  map-then (Ok x) view k other same = same x
  map-then (Err fault) view k other same = refl

  then-map : (r : Result A E) (view : A → B) (k : B → Result C E) → (result_map view r >>= k) ≡ (r >>= λ x. k (view x))
  then-map (Ok x) view k = refl
  then-map (Err fault) view k = refl

-- ---- what a change asks for

module _ (units : UnitSizes) (frame : ℕ) where
  abbrev change_seen : Change → Change
  change_seen change = record change { flow = flow_seen units frame change.flow }

  free-seen : (t : Transaction) (o : Option Flow) → free_flow t (option_map (flow_seen units frame) o) ≡ result_map (flow_seen units frame) (free_flow t o)
  free-seen t None = refl
  free-seen t (Some flow) = by (not (same_modem flow.modem t.modem)) (is_some flow.pending)
    where
      by : (b c : Bool) →
          cond b (Err (refusal t.kind t.tid codes.RejectNotOwner)) (cond c (Err (refusal t.kind t.tid codes.RejectTemporary)) (Ok (flow_seen units frame flow)))
          ≡ result_map (flow_seen units frame) (cond b (Err (refusal t.kind t.tid codes.RejectNotOwner)) (cond c (Err (refusal t.kind t.tid codes.RejectTemporary)) (Ok flow)))
      by true c = refl
      by false true = refl
      by false false = refl

  free_at-seen : (t : Transaction) (sfid : ℕ) (flows : List (ℕ × Flow)) → free_flow t (flow_at sfid (flows_seen units frame flows)) ≡ result_map (flow_seen units frame) (free_flow t (flow_at sfid flows))
  free_at-seen t sfid flows = ap (free_flow t) (at-seen units frame sfid flows) ∙ free-seen t (flow_at sfid flows)

  module _ (consts : ConstsFields) (t : Transaction) (encodings : List FlowFields) where
    abbrev sets_then : ℕ → FlowFields → Flow → AskedSets → Result Change ReplyFields
    sets_then sfid first flow asked = nested_sets t first flow.sets.provisioned asked >>= λ sets. Ok (record { sfid = sfid; flow = flow; sets = sets })

    abbrev flow_then : ℕ → FlowFields → Flow → Result Change ReplyFields
    flow_then sfid first flow = asked_sets t consts encodings >>= sets_then sfid first flow

    abbrev sfid_then : List (ℕ × Flow) → FlowFields → ℕ → Result Change ReplyFields
    sfid_then flows first sfid = free_flow t (flow_at sfid flows) >>= flow_then sfid first

    abbrev first_then : List (ℕ × Flow) → FlowFields → Result Change ReplyFields
    first_then flows first = stated_or_refusal first.sfid (refusal_naming t codes.RejectRequiredParameterNotPresent first sfid_subtype) >>= sfid_then flows first

    sets_then-seen : (sfid : ℕ) (first : FlowFields) (flow : Flow) (asked : AskedSets) → sets_then sfid first (flow_seen units frame flow) asked ≡ result_map change_seen (sets_then sfid first flow asked)
    sets_then-seen sfid first flow asked =
        map-then (nested_sets t first flow.sets.provisioned asked) change_seen (λ sets. Ok (record { sfid = sfid; flow = flow; sets = sets })) (λ sets. Ok (record { sfid = sfid; flow = flow_seen units frame flow; sets = sets })) (λ sets. refl)

    flow_then-seen : (sfid : ℕ) (first : FlowFields) (flow : Flow) → flow_then sfid first (flow_seen units frame flow) ≡ result_map change_seen (flow_then sfid first flow)
    flow_then-seen sfid first flow = map-then (asked_sets t consts encodings) change_seen (sets_then sfid first flow) (sets_then sfid first (flow_seen units frame flow)) (sets_then-seen sfid first flow)

    sfid_then-seen : (flows : List (ℕ × Flow)) (first : FlowFields) (sfid : ℕ) → sfid_then (flows_seen units frame flows) first sfid ≡ result_map change_seen (sfid_then flows first sfid)
    sfid_then-seen flows first sfid =
        ap (λ (r : Result Flow ReplyFields). r >>= flow_then sfid first) (free_at-seen t sfid flows)
        ∙ (then-map (free_flow t (flow_at sfid flows)) (flow_seen units frame) (flow_then sfid first)
        ∙ map-then (free_flow t (flow_at sfid flows)) change_seen (flow_then sfid first) (λ flow. flow_then sfid first (flow_seen units frame flow)) (flow_then-seen sfid first))

    first_then-seen : (flows : List (ℕ × Flow)) (first : FlowFields) → first_then (flows_seen units frame flows) first ≡ result_map change_seen (first_then flows first)
    first_then-seen flows first =
        map-then (stated_or_refusal first.sfid (refusal_naming t codes.RejectRequiredParameterNotPresent first sfid_subtype)) change_seen (sfid_then flows first) (sfid_then (flows_seen units frame flows) first) (sfid_then-seen flows first)

    changed-seen : (flows : List (ℕ × Flow)) → change_of consts (flows_seen units frame flows) t encodings ≡ result_map change_seen (change_of consts flows t encodings)
    unfolding change_of
    changed-seen flows = map-then (first_encoding t consts.classes encodings) change_seen (first_then flows) (first_then (flows_seen units frame flows)) (first_then-seen flows)

-- ---- what may be committed

module _ (op : Operator) where
  abbrev units : UnitSizes
  units = op.consts.units

  abbrev frame : ℕ
  frame = op.state.frame

  abbrev seen : Verdict → Verdict
  seen v = verdict_seen units frame v

  allowed-seen : (budget : ℕ) (next : Option NextShare) → minislots_allowed budget (next_seen frame next) ≡ minislots_allowed budget next
  allowed-seen budget None = refl
  allowed-seen budget (Some next) = refl

  limit-seen : limit_of (operator_seen op) ≡ limit_of op
  limit-seen = ap (λ (minislots : ℕ). record { minislots = minislots; elements = op.row.elements }) (allowed-seen op.state.share.budget op.state.next)

  abbrev unless_over : Kind → ℕ → Bool → Bool → Verdict → Verdict
  unless_over kind tid elements minislots v = cond elements (no_room kind tid) (cond minislots (no_room kind tid) v)

  unless_over-seen : (kind : Kind) (tid : ℕ) (elements minislots : Bool) (v : Verdict) → unless_over kind tid elements minislots (seen v) ≡ seen (unless_over kind tid elements minislots v)
  unless_over-seen kind tid true minislots v = refl
  unless_over-seen kind tid false true v = refl
  unless_over-seen kind tid false false v = refl

  within-seen : (kind : Kind) (tid : ℕ) (limit : Budget) (flows : List (ℕ × Flow)) (v : Verdict)
      → within_limit kind tid units limit (flows_seen units frame flows) (seen v) ≡ seen (within_limit kind tid units limit flows v)
  within-seen kind tid limit flows v =
      ap (λ (n : ℕ). unless_over kind tid (nat_lt limit.elements n) (nat_lt limit.minislots (committed_minislots units (flows_seen units frame flows))) (seen v)) (elements-seen units frame units flows)
      ∙ (ap (λ (n : ℕ). unless_over kind tid (nat_lt limit.elements (committed_elements units flows)) (nat_lt limit.minislots n) (seen v)) (minislots-seen units frame units flows)
      ∙ unless_over-seen kind tid (nat_lt limit.elements (committed_elements units flows)) (nat_lt limit.minislots (committed_minislots units flows)) v)

  put-seen : (kind : Kind) (tid sfid : ℕ) (flow : Flow) (reply : ReplyFields)
      → put_within_limit (operator_seen op) kind tid sfid (flow_seen units frame flow) reply ≡ seen (put_within_limit op kind tid sfid flow reply)
  put-seen kind tid sfid flow reply =
      ap (λ (limit : Budget). within_limit kind tid units limit (with_flow sfid (flow_seen units frame flow) (flows_seen units frame op.state.flows)) (Put sfid (flow_seen units frame flow) reply)) limit-seen
      ∙ (ap (λ (flows : List (ℕ × Flow)). within_limit kind tid units (limit_of op) flows (Put sfid (flow_seen units frame flow) reply)) (with-seen units frame sfid flow op.state.flows)
      ∙ within-seen kind tid (limit_of op) (with_flow sfid flow op.state.flows) (Put sfid flow reply))

  -- ---- an addition

  added-seen : (modem : Modem) (tid : ℕ) (addition : Addition) (sfid sid : Option ℕ) → added_under (operator_seen op) modem tid addition sfid sid ≡ seen (added_under op modem tid addition sfid sid)
  added-seen modem tid addition None sid = refl
  added-seen modem tid addition (Some sfid) None = refl
  added-seen modem tid addition (Some sfid) (Some sid) =
      ap (λ (flow : Flow). put_within_limit (operator_seen op) Dsa tid sfid flow (added_reply tid addition.reference sfid sid)) (new-seen units frame modem addition.sets sid)
      ∙ put-seen Dsa tid sfid (new_flow modem frame addition.sets sid) (added_reply tid addition.reference sfid sid)

  abbrev unless_full : Modem → ℕ → Addition → Operator → ℕ → Option ℕ → Option ℕ → Verdict
  unless_full modem tid addition at count sfid sid = cond (nat_le op.row.flows count) (no_room Dsa tid) (added_under at modem tid addition sfid sid)

  addition_within-seen : (modem : Modem) (tid : ℕ) (addition : Addition) → addition_within_limit (operator_seen op) modem tid addition ≡ seen (addition_within_limit op modem tid addition)
  unfolding addition_within_limit
  addition_within-seen modem tid addition =
      ap (λ (count : ℕ). unless_full modem tid addition (operator_seen op) count (least_free_of op.row.sfids (sfids_of flows)) (least_free_of op.row.sids (sids_of flows))) (length-seen units frame op.state.flows)
      ∙ (ap (λ (sfids : List ℕ). unless_full modem tid addition (operator_seen op) (length op.state.flows) (least_free_of op.row.sfids sfids) (least_free_of op.row.sids (sids_of flows))) (sfids-seen units frame op.state.flows)
      ∙ (ap (λ (sids : List ℕ). unless_full modem tid addition (operator_seen op) (length op.state.flows) (least_free_of op.row.sfids (sfids_of op.state.flows)) (least_free_of op.row.sids sids)) (sids-seen units frame op.state.flows)
      ∙ by (nat_le op.row.flows (length op.state.flows)) (least_free_of op.row.sfids (sfids_of op.state.flows)) (least_free_of op.row.sids (sids_of op.state.flows))))
    where
      flows : List (ℕ × Flow)
      flows = flows_seen units frame op.state.flows

      by : (b : Bool) (sfid sid : Option ℕ) → cond b (no_room Dsa tid) (added_under (operator_seen op) modem tid addition sfid sid) ≡ seen (cond b (no_room Dsa tid) (added_under op modem tid addition sfid sid))
      by true sfid sid = refl
      by false sfid sid = added-seen modem tid addition sfid sid

  addition-seen : (modem : Modem) (tid : ℕ) (r : Result Addition ReplyFields) → addition_verdict (operator_seen op) modem tid r ≡ seen (addition_verdict op modem tid r)
  addition-seen modem tid (Err reply) = refl
  addition-seen modem tid (Ok addition) = addition_within-seen modem tid addition

  -- ---- a change

  changed_with-seen : (tid : ℕ) (change : Change) (sid : Option ℕ) (sid_is_new : Bool)
      → changed_with (operator_seen op) tid (change_seen units frame change) sid sid_is_new ≡ seen (changed_with op tid change sid sid_is_new)
  changed_with-seen tid change sid sid_is_new = put-seen Dsc tid change.sfid (changed_flow change sid sid_is_new) (changed_reply tid change.sfid change.sets sid)

  changed_with_new-seen : (tid : ℕ) (change : Change) (sid : Option ℕ) → changed_with_new (operator_seen op) tid (change_seen units frame change) sid ≡ seen (changed_with_new op tid change sid)
  changed_with_new-seen tid change None = refl
  changed_with_new-seen tid change (Some sid) = changed_with-seen tid change (Some sid) true

  change_within-seen : (tid : ℕ) (change : Change) → change_within_limit (operator_seen op) tid (change_seen units frame change) ≡ seen (change_within_limit op tid change)
  unfolding change_within_limit
  change_within-seen tid change =
      ap (λ (sids : List ℕ). cond (wants_sid change) (changed_with_new (operator_seen op) tid (change_seen units frame change) (least_free_of op.row.sids sids)) (changed_with (operator_seen op) tid (change_seen units frame change) change.flow.sid false)) (sids-seen units frame op.state.flows)
      ∙ by (wants_sid change) (least_free_of op.row.sids (sids_of op.state.flows))
    where
      by : (b : Bool) (sid : Option ℕ) →
          cond b (changed_with_new (operator_seen op) tid (change_seen units frame change) sid) (changed_with (operator_seen op) tid (change_seen units frame change) change.flow.sid false)
          ≡ seen (cond b (changed_with_new op tid change sid) (changed_with op tid change change.flow.sid false))
      by true sid = changed_with_new-seen tid change sid
      by false sid = changed_with-seen tid change change.flow.sid false

  change-seen : (tid : ℕ) (r : Result Change ReplyFields) → change_verdict (operator_seen op) tid (result_map (change_seen units frame) r) ≡ seen (change_verdict op tid r)
  change-seen tid (Err reply) = refl
  change-seen tid (Ok change) = change_within-seen tid change

  -- ---- a request

  deletion-seen : (tid sfid : ℕ) (r : Result Flow ReplyFields) → deletion_verdict tid sfid (result_map (flow_seen units frame) r) ≡ seen (deletion_verdict tid sfid r)
  deletion-seen tid sfid (Err reply) = refl
  deletion-seen tid sfid (Ok flow) = refl

  pub verdict-seen : (modem : Modem) (request : Request) → verdict (operator_seen op) modem request ≡ seen (verdict op modem request)
  unfolding verdict
  verdict-seen modem (requests.Dsa tid encodings) = addition-seen modem tid (addition_of op.consts (transaction modem Dsa tid) encodings)
  verdict-seen modem (requests.Dsc tid encodings) =
      ap (change_verdict (operator_seen op) tid) (changed-seen units frame op.consts (transaction modem Dsc tid) encodings op.state.flows)
      ∙ change-seen tid (change_of op.consts op.state.flows (transaction modem Dsc tid) encodings)
  verdict-seen modem (requests.Dsd tid sfid) =
      ap (deletion_verdict tid sfid) (free_at-seen units frame (transaction modem Dsd tid) sfid op.state.flows)
      ∙ deletion-seen tid sfid (free_flow (transaction modem Dsd tid) (flow_at sfid op.state.flows))
