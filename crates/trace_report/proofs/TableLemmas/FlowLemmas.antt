-- The checks of the flow that a request names.
use Rattle.std.proofs.Common.{◌≡◌, ℕ, Bool, not, true, false, List, [], ◌∷◌, ◌++◌, ◌⊎◌, Option, Some, None, Result, is_some, refl, sym, ap, ◌∙◌, subst, inl, inr}
use Rattle.trace_report.proofs.TableLemmas.Common.{Contains, MatchResult, AllByRecursion, cond_both, cases_eq, true≢false, none-some, is_eq, bytes_eq-Decides, Modem, ReplyFields, same_modem, Flow, sfids_of, flow_at, Refused, Operator, transaction, free_flow, Ascends, nat_cmp_equal, is_at_other, found_as, used_sfid, Said, NamesFlow, IsOfFlow, UnknownFlow, NotOwner, FlowWaits, WrongSetType, NoParameterSet, ActiveNotWithin, AdmittedNotWithin, FlowsFull, NoSfidFree, NoSidFree, ElementsOver, MinislotsOver, Accepted}
use Rattle.trace_report.proofs.TableLemmas.ListLemmas.{contains_cases, contains-nothing, all_more}
use Rattle.trace_report.proofs.TableLemmas.EntryLemmas.{at_contains, contained_at}
use Rattle.trace_report.proofs.TableLemmas.TableLemmas.{of_encodings, up_to_flow, Fails, IsDecided, decided}

-- modems of the same bytes are the same
pub same_modems : (a b : Modem) → same_modem a b ≡ true → a ≡ b
same_modems a b is = ap (λ (bytes : List ℕ). record { 0 = bytes }) ((bytes_eq-Decides a.0 b.0).0 is)

pub modem_itself : (a b : Modem) → a ≡ b → same_modem a b ≡ true
modem_itself a b is = (bytes_eq-Decides a.0 b.0).1 (ap (λ (m : Modem). m.0) is)

true_from_not : (b : Bool) → not b ≡ false → b ≡ true
true_from_not true is = refl
true_from_not false is = absurd (true≢false is)

-- an SFID under which nothing is found is not used
absent : (flows : List (ℕ × Flow)) (k : ℕ) → flow_at k flows ≡ None → ¬ Contains (sfids_of flows) k
absent [] k is used = contains-nothing k used
absent (e ∷ flows) k is used = by (absent flows k) (contains_cases e.0 (sfids_of flows) k used) (cases_eq k e.0)
  where
    by : (flow_at k flows ≡ None → ¬ Contains (sfids_of flows) k) → (e.0 ≡ k) ⊎ Contains (sfids_of flows) k → (k ≡ e.0) ⊎ (k ≡ e.0 → ⊥) → ⊥
    by more c (inl same) = none-some e.1 (sym is ∙ found_as e flows k true (ap is_eq (nat_cmp_equal k e.0 same)))
    by more (inl same) (inr other) = other (sym same)
    by more (inr rest) (inr other) = more (sym (found_as e flows k false (is_at_other k e.0 other)) ∙ is) rest

-- the flow is there, and none of the checks up to it holds
pub record IsFound (op : Operator) (modem : Modem) (said : Said) (sfid : ℕ) (flow : Flow) : Type 0 where
  pub there : flow_at sfid op.state.flows ≡ Some flow
  pub none : AllByRecursion (Fails op modem said) up_to_flow

module _ (op : Operator) (modem : Modem) (said : Said) (s : Ascends op.state.flows) (none : AllByRecursion (Fails op modem said) of_encodings) (sfid : ℕ)
    (named : NamesFlow said.kind said.encodings said.sfid sfid) (only : (n : ℕ) → NamesFlow said.kind said.encodings said.sfid n → n ≡ sfid) where
  module _ (flow : Flow) (there : flow_at sfid op.state.flows ≡ Some flow) where
    pub is_of_flow : IsOfFlow op said sfid flow
    is_of_flow = (named, at_contains op.state.flows sfid flow there)

    -- no other flow is named
    pub the_flow : (n : ℕ) (f : Flow) → IsOfFlow op said n f → f ≡ flow
    the_flow n f is =
        let found : flow_at n op.state.flows ≡ Some f = contained_at op.state.flows n f s is.1 in
        let same : n ≡ sfid = only n is.0 in
        let here : flow_at n op.state.flows ≡ Some flow = subst (λ (k : ℕ). flow_at k op.state.flows ≡ Some flow) (sym same) there in
        cc

    known : Fails op modem said UnknownFlow
    known h = h.2 (used_sfid op.state.flows h.0 flow (subst (λ (k : ℕ). flow_at k op.state.flows ≡ Some flow) (sym (only h.0 h.1)) there))

    mine : same_modem flow.modem modem ≡ true → Fails op modem said NotOwner
    mine is h = h.3 (ap (λ (f : Flow). f.modem) (the_flow h.0 h.1 h.2) ∙ same_modems flow.modem modem is)

    at_rest : is_some flow.pending ≡ false → Fails op modem said FlowWaits
    at_rest is h = true≢false (sym h.3 ∙ (ap (λ (f : Flow). is_some f.pending) (the_flow h.0 h.1 h.2) ∙ is))

    flow-found : MatchResult (free_flow (transaction modem said.kind said.tid) (Some flow)) (IsFound op modem said sfid) (λ reply. IsDecided op modem said (Refused reply))
    flow-found =
        cond_both (not (same_modem flow.modem modem)) _ _ View
        (λ other. decided op modem said (of_encodings ++ UnknownFlow ∷ []) NotOwner
        (FlowWaits ∷ WrongSetType ∷ NoParameterSet ∷ ActiveNotWithin ∷ AdmittedNotWithin ∷ FlowsFull ∷ NoSfidFree ∷ NoSidFree ∷ ElementsOver ∷ MinislotsOver ∷ Accepted ∷ [])
        _ refl (all_more (Fails op modem said) of_encodings UnknownFlow none known)
        (sfid, flow, is_of_flow, λ same. true≢false (sym other ∙ ap not (modem_itself flow.modem modem same))) refl)
        (λ own. cond_both (is_some flow.pending) _ _ View
        (λ waits. decided op modem said (of_encodings ++ UnknownFlow ∷ NotOwner ∷ []) FlowWaits
        (WrongSetType ∷ NoParameterSet ∷ ActiveNotWithin ∷ AdmittedNotWithin ∷ FlowsFull ∷ NoSfidFree ∷ NoSidFree ∷ ElementsOver ∷ MinislotsOver ∷ Accepted ∷ [])
        _ refl (up_to_owner own) (sfid, flow, is_of_flow, waits) refl)
        (λ rests. record { there = there; none = all_more (Fails op modem said) (of_encodings ++ UnknownFlow ∷ NotOwner ∷ []) FlowWaits (up_to_owner own) (at_rest rests) }))
      where
        View : Result Flow ReplyFields → Type 0
        View r = MatchResult r (IsFound op modem said sfid) (λ reply. IsDecided op modem said (Refused reply))

        up_to_owner : not (same_modem flow.modem modem) ≡ false → AllByRecursion (Fails op modem said) (of_encodings ++ UnknownFlow ∷ NotOwner ∷ [])
        up_to_owner own =
            all_more (Fails op modem said) (of_encodings ++ UnknownFlow ∷ []) NotOwner (all_more (Fails op modem said) of_encodings UnknownFlow none known)
            (mine (true_from_not (same_modem flow.modem modem) own))

  pub free-found : MatchResult (free_flow (transaction modem said.kind said.tid) (flow_at sfid op.state.flows)) (IsFound op modem said sfid) (λ reply. IsDecided op modem said (Refused reply))
  free-found = go (flow_at sfid op.state.flows) refl
    where
      go : (o : Option Flow) → flow_at sfid op.state.flows ≡ o
          → MatchResult (free_flow (transaction modem said.kind said.tid) o) (IsFound op modem said sfid) (λ reply. IsDecided op modem said (Refused reply))
      go None is =
          decided op modem said of_encodings UnknownFlow
          (NotOwner ∷ FlowWaits ∷ WrongSetType ∷ NoParameterSet ∷ ActiveNotWithin ∷ AdmittedNotWithin ∷ FlowsFull ∷ NoSfidFree ∷ NoSidFree ∷ ElementsOver ∷ MinislotsOver ∷ Accepted ∷ [])
          _ refl none (sfid, named, λ used. absent op.state.flows sfid is used) refl
      go (Some flow) is = flow-found flow is
