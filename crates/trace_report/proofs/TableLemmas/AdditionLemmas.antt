-- An addition is decided.
use Rattle.std.proofs.Common.{◌≡◌, ◌≢◌, ℕ, ◌<◌, List, [], ◌∷◌, ◌++◌, length, nat_le, Option, Some, None, Result, Ok, Err, refl, ap, subst, arith, ◌∙◌}
use Rattle.trace_report.proofs.TableLemmas.Common.{Any, MatchResult, AllByRecursion, cond_both, leb-true, leb-false, reference_subtype, FlowFields, Modem, Dsa, Dsd, RejectRequiredParameterNotPresent, ReplyFields, IsLeastFree, least_free_of, ParamFields, SetsFields, Flow, sfids_of, sids_of, flow_at, with_flow, AskedSets, Addition, Refused, Put, Operator, IsSound, none-there, Said, said_by, IsAbout, Admits, IsSetWhere, would_commit, UnknownFlow, NotOwner, FlowWaits, FlowsFull, NoSfidFree, NoSidFree, ElementsOver, MinislotsOver, Accepted}
use Rattle.dsx_messages.specs.declared.message.Request.TheVariants as requests
use Rattle.operator_model.specs.Asked.{transaction, refusal_naming, stated_or_refusal, first_encoding, asked_sets, nested_sets, addition_of}
use Rattle.operator_model.specs.Verdict.{new_flow, added_reply, added_under, addition_within_limit, addition_verdict, verdict}
use Rattle.trace_report.proofs.TableLemmas.ListLemmas.{any_from, all_more, all_append}
use Rattle.trace_report.proofs.TableLemmas.TableLemmas.{of_encodings, up_to_flow, up_to_sets, up_to_room, Fails, IsDecided, decided}
use Rattle.trace_report.proofs.TableLemmas.EncodingLemmas.{IsReady, IsIdentified, encodings-view, identifier-view}
use Rattle.trace_report.proofs.TableLemmas.SetLemmas.{match_then, AreAsked, asked-view, AreNestedSets, nested-view}
use Rattle.trace_report.proofs.TableLemmas.RoomLemmas.{used_up, least_one, not_used_up, elements_added, minislots_added, within-decided}

an_addition : Dsa ≢ Dsd
an_addition = λ h. cc

module _ (op : Operator) (sound : IsSound op) (modem : Modem) (tid : ℕ) (encodings : List FlowFields) where
  abbrev said : Said
  said = said_by (requests.Dsa tid encodings)

  -- it names no flow
  no_flow : AllByRecursion (Fails op modem said) of_encodings → AllByRecursion (Fails op modem said) up_to_flow
  no_flow none = all_append (Fails op modem said) of_encodings (UnknownFlow ∷ NotOwner ∷ FlowWaits ∷ []) none ((λ h. h.1), ((λ h. h.2.0), ((λ h. h.2.0), tt)))

  about_none : (o : Option Flow) → IsAbout op said o → o ≡ None
  about_none None is = refl
  about_none (Some flow) is = absurd is.1.0

  -- the sets and the reference are those that are asked for, and none of the checks of the sets holds
  record IsAsked (addition : Addition) : Type 0 where
    asked : AskedSets
    are : AreAsked op modem Dsa tid an_addition encodings asked
    sets : addition.sets ≡ record { provisioned = None; admitted = asked.admitted; active = asked.active }
    reference : Any (λ encoding. encoding.reference ≡ Some addition.reference) encodings
    none : AllByRecursion (Fails op modem said) up_to_sets

  abbrev Decided : ReplyFields → Type 0
  Decided reply = IsDecided op modem said (Refused reply)

  addition-view : MatchResult (addition_of op.consts (transaction modem Dsa tid) encodings) IsAsked Decided
  unfolding addition_of
  addition-view =
      match_then (IsReady op modem Dsa tid an_addition encodings) IsAsked Decided (first_encoding (transaction modem Dsa tid) op.consts.classes encodings) _
      (encodings-view op modem Dsa tid an_addition encodings) (λ first ready.
      match_then (IsIdentified op modem Dsa tid an_addition encodings first) IsAsked Decided
      (stated_or_refusal first.reference (refusal_naming (transaction modem Dsa tid) RejectRequiredParameterNotPresent first reference_subtype)) _
      (identifier-view op modem Dsa tid an_addition encodings first ready) (λ reference identified.
      match_then (AreAsked op modem Dsa tid an_addition encodings) IsAsked Decided (asked_sets (transaction modem Dsa tid) op.consts encodings) _
      (asked-view op modem Dsa tid an_addition encodings first ready (no_flow identified.none)) (λ asked are.
      match_then (AreNestedSets op modem Dsa tid an_addition encodings first ready.has asked are None refl about_none) IsAsked Decided
      (nested_sets (transaction modem Dsa tid) first None asked) _
      (nested-view op modem Dsa tid an_addition encodings first ready.has asked are None refl about_none) (λ sets nested. record {
        asked = asked;
        are = are;
        sets = nested.are;
        reference = any_from (λ (e : FlowFields). e.reference ≡ Some reference) encodings first ready.has identified.is;
        none = nested.none;
      }))))

  module _ (addition : Addition) (is : IsAsked addition) where
    not_full : length op.state.flows < op.row.flows → AllByRecursion (Fails op modem said) (up_to_sets ++ FlowsFull ∷ [])
    not_full few = all_more (Fails op modem said) up_to_sets FlowsFull is.none (λ h. let many = h.1 in absurd (omega arith))

    admitted : (o : Option ParamFields) → is.asked.admitted ≡ o → (set : ParamFields) × IsSetWhere Admits op.consts encodings (Some set)
    admitted None none = let change = (is.are.null none).0 in cc
    admitted (Some set) some = (set, subst (IsSetWhere Admits op.consts encodings) some is.are.admitted)

    added-under : length op.state.flows < op.row.flows → (o p : Option ℕ) → least_free_of op.row.sfids (sfids_of op.state.flows) ≡ o
        → least_free_of op.row.sids (sids_of op.state.flows) ≡ p → IsDecided op modem said (added_under op modem tid addition o p)
    added-under few None p is_o is_p =
        decided op modem said (up_to_sets ++ FlowsFull ∷ []) NoSfidFree (NoSidFree ∷ ElementsOver ∷ MinislotsOver ∷ Accepted ∷ []) _ refl (not_full few)
        (refl, used_up op.row.sfids (sfids_of op.state.flows) is_o) refl
    added-under few (Some sfid) None is_o is_p =
        let set = admitted is.asked.admitted refl in
        let least = least_one op.row.sfids (sfids_of op.state.flows) sfid is_o in
        decided op modem said (up_to_sets ++ FlowsFull ∷ NoSfidFree ∷ []) NoSidFree (ElementsOver ∷ MinislotsOver ∷ Accepted ∷ []) _ refl
        (all_more (Fails op modem said) (up_to_sets ++ FlowsFull ∷ []) NoSfidFree (not_full few) (λ h. not_used_up op.row.sfids (sfids_of op.state.flows) sfid least h.1))
        (None, set.0, refl, set.1, refl, used_up op.row.sids (sids_of op.state.flows) is_p) refl
    added-under few (Some sfid) (Some sid) is_o is_p =
        within-decided op modem said an_addition None is.asked.admitted refl is.are.admitted about_none is.are.only_admitted
        (all_more (Fails op modem said) (up_to_sets ++ FlowsFull ∷ NoSfidFree ∷ []) NoSidFree
        (all_more (Fails op modem said) (up_to_sets ++ FlowsFull ∷ []) NoSfidFree (not_full few) (λ h. not_used_up op.row.sfids (sfids_of op.state.flows) sfid least_sfid h.1))
        (λ h. not_used_up op.row.sids (sids_of op.state.flows) sid least_sid h.5))
        (with_flow sfid (new_flow modem op.state.frame addition.sets sid) op.state.flows)
        (elements_added op sound.ascending modem addition sfid sid nothing ∙ ap (would_commit (λ need. need.elements) op None) same)
        (minislots_added op sound.ascending modem addition sfid sid nothing ∙ ap (would_commit (λ need. need.minislots) op None) same)
        (Put sfid (new_flow modem op.state.frame addition.sets sid) (added_reply tid addition.reference sfid sid))
        (λ none. decided op modem said up_to_room Accepted [] _ refl none tt (record {
          sfid = sfid;
          sid = sid;
          reference = addition.reference;
          admitted = is.asked.admitted;
          active = is.asked.active;
          is_sfid = least_sfid;
          is_sid = least_sid;
          is_reference = is.reference;
          is_admitted = is.are.admitted;
          is_active = is.are.active;
          is = ap (λ (sets : SetsFields). Put sfid (new_flow modem op.state.frame sets sid) (added_reply tid addition.reference sfid sid)) is.sets;
        }))
      where
        least_sfid : IsLeastFree op.row.sfids (sfids_of op.state.flows) sfid
        least_sfid = least_one op.row.sfids (sfids_of op.state.flows) sfid is_o

        least_sid : IsLeastFree op.row.sids (sids_of op.state.flows) sid
        least_sid = least_one op.row.sids (sids_of op.state.flows) sid is_p

        nothing : flow_at sfid op.state.flows ≡ None
        nothing = none-there op.row.sfids op.state.flows sfid least_sfid.free

        same : addition.sets.admitted ≡ is.asked.admitted
        same = ap (λ (sets : SetsFields). sets.admitted) is.sets

    added-decided : IsDecided op modem said (addition_within_limit op modem tid addition)
    unfolding addition_within_limit
    added-decided = cond_both (nat_le op.row.flows (length op.state.flows)) _ _ (IsDecided op modem said)
        (λ many. decided op modem said up_to_sets FlowsFull (NoSfidFree ∷ NoSidFree ∷ ElementsOver ∷ MinislotsOver ∷ Accepted ∷ []) _ refl is.none (refl, leb-true _ _ many) refl)
        (λ few. added-under (leb-false _ _ few) (least_free_of op.row.sfids (sfids_of op.state.flows)) (least_free_of op.row.sids (sids_of op.state.flows)) refl refl)

  pub addition-decided : IsDecided op modem said (verdict op modem (requests.Dsa tid encodings))
  unfolding verdict
  addition-decided = go (addition_of op.consts (transaction modem Dsa tid) encodings) addition-view
    where
      go : (r : Result Addition ReplyFields) → MatchResult r IsAsked Decided → IsDecided op modem said (addition_verdict op modem tid r)
      go (Err reply) is = is
      go (Ok addition) is = added-decided addition is
