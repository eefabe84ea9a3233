-- A change is decided.
use Rattle.std.proofs.Common.{◌≡◌, ◌≢◌, ℕ, ◌&&◌, Bool, true, false, List, [], ◌∷◌, ◌++◌, Option, Some, None, Result, Ok, Err, is_some, is_none, refl, ap, subst, sym, ◌∙◌}
use Rattle.trace_report.proofs.TableLemmas.Common.{MatchResult, if◌then◌else◌, AllByRecursion, cond_both, true≢false, false≢true, sfid_subtype, FlowFields, Modem, Dsc, Dsd, Okay, RejectRequiredParameterNotPresent, Given, ReplyFields, least_free_of, ParamFields, SetsFields, Flow, sids_of, sid_if, flow_at, with_flow, AskedSets, Change, Refused, Put, Operator, IsSound, Said, said_by, NamesFlow, IsOfFlow, IsAbout, IsSetWhere, Admits, would_commit, GetsSid, told_sid, FlowsFull, NoSfidFree, NoSidFree, ElementsOver, MinislotsOver, Accepted}
use Rattle.dsx_messages.specs.declared.message.Request.TheVariants as requests
use Rattle.operator_model.specs.Asked.{transaction, refusal_naming, stated_or_refusal, first_encoding, free_flow, asked_sets, nested_sets, change_of}
use Rattle.operator_model.specs.Verdict.{changed_flow, changed_reply, changed_with, changed_with_new, wants_sid, change_within_limit, change_verdict, verdict}
use Rattle.trace_report.proofs.TableLemmas.ListLemmas.{any_from, all_more, all_append}
use Rattle.trace_report.proofs.TableLemmas.TableLemmas.{up_to_sets, up_to_room, Fails, IsDecided, decided}
use Rattle.trace_report.proofs.TableLemmas.FlowLemmas.{IsFound, is_of_flow, the_flow, free-found}
use Rattle.trace_report.proofs.TableLemmas.EncodingLemmas.{IsReady, IsIdentified, encodings-view, identifier-view}
use Rattle.trace_report.proofs.TableLemmas.SetLemmas.{match_then, AreAsked, asked-view, AreNestedSets, nested-view}
use Rattle.trace_report.proofs.TableLemmas.RoomLemmas.{used_up, least_one, not_used_up, elements_changed, minislots_changed, within-decided}

a_change : Dsc ≢ Dsd
a_change = λ h. cc

told : (set : Option ParamFields) (sid : Option ℕ) → (if is_some set then sid else None) ≡ told_sid set sid
told None sid = refl
told (Some set) sid = refl

wanting : (set : Option ParamFields) (sid : Option ℕ) → (is_some set && is_none sid) ≡ true → ((x : ParamFields) × (set ≡ Some x)) × (sid ≡ None)
wanting None sid is = absurd (false≢true is)
wanting (Some x) None is = ((x, refl), refl)
wanting (Some x) (Some n) is = absurd (false≢true is)

module _ (op : Operator) (sound : IsSound op) (modem : Modem) (tid : ℕ) (encodings : List FlowFields) where
  abbrev said : Said
  said = said_by (requests.Dsc tid encodings)

  abbrev Decided : ReplyFields → Type 0
  Decided reply = IsDecided op modem said (Refused reply)

  -- the flow is the one that is named, the sets are those that are asked for, and none of the checks of the sets holds
  record IsAsked (change : Change) : Type 0 where
    there : flow_at change.sfid op.state.flows ≡ Some change.flow
    is_of : IsOfFlow op said change.sfid change.flow
    only : (o : Option Flow) → IsAbout op said o → o ≡ Some change.flow
    asked : AskedSets
    are : AreAsked op modem Dsc tid a_change encodings asked
    sets : change.sets ≡ record { provisioned = change.flow.sets.provisioned; admitted = asked.admitted; active = asked.active }
    none : AllByRecursion (Fails op modem said) up_to_sets

  change-view : MatchResult (change_of op.consts op.state.flows (transaction modem Dsc tid) encodings) IsAsked Decided
  unfolding change_of
  change-view =
      match_then (IsReady op modem Dsc tid a_change encodings) IsAsked Decided (first_encoding (transaction modem Dsc tid) op.consts.classes encodings) _
      (encodings-view op modem Dsc tid a_change encodings) (λ first ready.
      match_then (IsIdentified op modem Dsc tid a_change encodings first) IsAsked Decided
      (stated_or_refusal first.sfid (refusal_naming (transaction modem Dsc tid) RejectRequiredParameterNotPresent first sfid_subtype)) _
      (identifier-view op modem Dsc tid a_change encodings first ready) (λ sfid identified.
      let named : NamesFlow Dsc encodings None sfid = any_from (λ (e : FlowFields). e.sfid ≡ Some sfid) encodings first ready.has identified.is in
      let one : ((n : ℕ) → NamesFlow Dsc encodings None n → n ≡ sfid) = only ready sfid identified in
      match_then (IsFound op modem said sfid) IsAsked Decided (free_flow (transaction modem Dsc tid) (flow_at sfid op.state.flows)) _
      (free-found op modem said sound.ascending identified.none sfid named one) (λ flow found.
      let is_of : IsOfFlow op said sfid flow = is_of_flow op modem said sound.ascending identified.none sfid named one flow found.there in
      let alone : ((o : Option Flow) → IsAbout op said o → o ≡ Some flow) =
      about_one flow (the_flow op modem said sound.ascending identified.none sfid named one flow found.there) in
      match_then (AreAsked op modem Dsc tid a_change encodings) IsAsked Decided (asked_sets (transaction modem Dsc tid) op.consts encodings) _
      (asked-view op modem Dsc tid a_change encodings first ready found.none) (λ asked are.
      match_then (AreNestedSets op modem Dsc tid a_change encodings first ready.has asked are (Some flow) (sfid, is_of) alone) IsAsked Decided
      (nested_sets (transaction modem Dsc tid) first flow.sets.provisioned asked) _
      (nested-view op modem Dsc tid a_change encodings first ready.has asked are (Some flow) (sfid, is_of) alone) (λ sets nested. record {
        there = found.there;
        is_of = is_of;
        only = alone;
        asked = asked;
        are = are;
        sets = nested.are;
        none = nested.none;
      })))))
    where
      only : {first : FlowFields} → IsReady op modem Dsc tid a_change encodings first → (sfid : ℕ) → IsIdentified op modem Dsc tid a_change encodings first sfid
          → (n : ℕ) → NamesFlow Dsc encodings None n → n ≡ sfid
      only ready sfid identified n h =
          let same = ready.same h.1 (h.0, h.2, h.3) in
          let mine = identified.is in
          let other = h.4 in
          cc

      about_one : (flow : Flow) → ((n : ℕ) (f : Flow) → IsOfFlow op said n f → f ≡ flow) → (o : Option Flow) → IsAbout op said o → o ≡ Some flow
      about_one flow one None is = cc
      about_one flow one (Some f) is = ap (λ (x : Flow). Some x) (one is.0 f is.1)

  module _ (change : Change) (is : IsAsked change) where
    is_about : IsAbout op said (Some change.flow)
    is_about = (change.sfid, is.is_of)

    same : change.sets.admitted ≡ is.asked.admitted
    same = ap (λ (sets : SetsFields). sets.admitted) is.sets

    -- it is no addition
    not_added : AllByRecursion (Fails op modem said) (up_to_sets ++ FlowsFull ∷ NoSfidFree ∷ [])
    not_added = all_append (Fails op modem said) up_to_sets (FlowsFull ∷ NoSfidFree ∷ []) is.none ((λ h. cc (h.0)), ((λ h. cc (h.0)), tt))

    changed-with : (sid : Option ℕ) (sid_is_new : Bool) → GetsSid op change.flow.sid is.asked.admitted sid sid_is_new → Fails op modem said NoSidFree
        → IsDecided op modem said (changed_with op tid change sid sid_is_new)
    changed-with sid sid_is_new gets given =
        within-decided op modem said a_change (Some change.flow) is.asked.admitted is_about is.are.admitted is.only is.are.only_admitted
        (all_more (Fails op modem said) (up_to_sets ++ FlowsFull ∷ NoSfidFree ∷ []) NoSidFree not_added given)
        (with_flow change.sfid (changed_flow change sid sid_is_new) op.state.flows)
        (elements_changed op sound.ascending change sid sid_is_new is.there ∙ ap (would_commit (λ need. need.elements) op (Some change.flow)) same)
        (minislots_changed op sound.ascending change sid sid_is_new is.there ∙ ap (would_commit (λ need. need.minislots) op (Some change.flow)) same)
        (Put change.sfid (changed_flow change sid sid_is_new) (changed_reply tid change.sfid change.sets sid))
        (λ none. decided op modem said up_to_room Accepted [] _ refl none tt (record {
          sfid = change.sfid;
          flow = change.flow;
          sid = sid;
          sid_is_new = sid_is_new;
          admitted = is.asked.admitted;
          active = is.asked.active;
          is_flow = is.is_of;
          is_admitted = is.are.admitted;
          is_active = is.are.active;
          is_sid = gets;
          is =
              ap (λ (sets : SetsFields). Put change.sfid (changed_flow (record change { sets = sets }) sid sid_is_new) (changed_reply tid change.sfid sets sid)) is.sets
              ∙ ap (λ (o : Option ℕ). Put change.sfid
              (record change.flow {
                sid = sid;
                pending = Some (record { sets = record { provisioned = change.flow.sets.provisioned; admitted = is.asked.admitted; active = is.asked.active }; sid_is_new = sid_is_new });
              })
              (record { kind = Dsc; tid = tid; code = Okay; detail = Given None change.sfid o })) (told is.asked.admitted sid);
        }))

    changed-new : (set : ParamFields) → is.asked.admitted ≡ Some set → change.flow.sid ≡ None → (o : Option ℕ)
        → least_free_of op.row.sids (sids_of op.state.flows) ≡ o → IsDecided op modem said (changed_with_new op tid change o)
    changed-new set some bare None is_o =
        decided op modem said (up_to_sets ++ FlowsFull ∷ NoSfidFree ∷ []) NoSidFree (ElementsOver ∷ MinislotsOver ∷ Accepted ∷ []) _ refl not_added
        (Some change.flow, set, is_about, subst (IsSetWhere Admits op.consts encodings) some is.are.admitted, bare, used_up op.row.sids (sids_of op.state.flows) is_o) refl
    changed-new set some bare (Some sid) is_o =
        let least = least_one op.row.sids (sids_of op.state.flows) sid is_o in
        changed-with (Some sid) true
        (subst (λ (own : Option ℕ). GetsSid op own is.asked.admitted (Some sid) true) (sym bare)
        (subst (λ (o : Option ParamFields). GetsSid op None o (Some sid) true) (sym some) (sid, least, refl, refl)))
        (λ h. not_used_up op.row.sids (sids_of op.state.flows) sid least h.5)

    keeps : (own : Option ℕ) (set : Option ParamFields) → (is_some set && is_none own) ≡ false → GetsSid op own set own false
    keeps (Some n) set content = (refl, refl)
    keeps None None content = (refl, refl)
    keeps None (Some set) content = absurd (true≢false content)

    changed-decided : IsDecided op modem said (change_within_limit op tid change)
    unfolding change_within_limit
    changed-decided = cond_both (wants_sid change) _ _ (IsDecided op modem said)
        (λ wants. let both = wanting change.sets.admitted change.flow.sid wants in
        changed-new both.0.0 (sym same ∙ both.0.1) both.1 (least_free_of op.row.sids (sids_of op.state.flows)) refl)
        (λ content. changed-with change.flow.sid false (keeps change.flow.sid is.asked.admitted (subst (λ (o : Option ParamFields). (is_some o && is_none change.flow.sid) ≡ false) same content))
        (λ h. let flow : h.0 ≡ Some change.flow = is.only h.0 h.2 in
        let set : Some h.1 ≡ is.asked.admitted = is.are.only_admitted (Some h.1) h.3 in
        let bare : change.flow.sid ≡ None = sym (ap (λ (o : Option Flow). sid_if o) flow) ∙ h.4 in
        let some : change.sets.admitted ≡ Some h.1 = same ∙ sym set in
        true≢false (sym (ap (λ (o : Option ParamFields). is_some o && is_none change.flow.sid) some ∙ ap (λ (n : Option ℕ). is_none n) bare) ∙ content)))

  pub change-decided : IsDecided op modem said (verdict op modem (requests.Dsc tid encodings))
  unfolding verdict
  change-decided = go (change_of op.consts op.state.flows (transaction modem Dsc tid) encodings) change-view
    where
      go : (r : Result Change ReplyFields) → MatchResult r IsAsked Decided → IsDecided op modem said (change_verdict op tid r)
      go (Err reply) is = is
      go (Ok change) is = changed-decided change is
