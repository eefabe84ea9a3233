-- The checks of the room: what is free, and what would be committed.
use Rattle.std.proofs.Common.{◌≡◌, ◌≢◌, ℕ, ◌<◌, Bool, true, false, List, [], ◌∷◌, ◌++◌, ◌⊎◌, min, nat_lt, Option, Some, None, unwrap_or, option_map, refl, sym, ap, ◌∙◌, subst, arith, inl, inr}
use Rattle.trace_report.proofs.TableLemmas.Common.{AllByRecursion, cond_both, ltb-true, ltb-false, Modem, Dsd, Numbers, IsFree, IsLeastFree, least_free_of, least_free_cases, least_free_iff, ParamFields, Flow, committed_of, flow_at, with_flow, committed_minislots, committed_elements, Change, Addition, Verdict, Operator, limit_of, minislots_allowed, within_limit, new_flow, changed_flow, Ascends, sum-insert, sum-remove, Said, IsAbout, IsToBeAdmitted, IsUsedUp, would_commit, IsOverBudget, Check, FlowsFull, NoSfidFree, NoSidFree, ElementsOver, MinislotsOver, Accepted}
use Rattle.operator_model.specs.declared.share.NextShare.{NextShare}
use Rattle.trace_report.proofs.TableLemmas.ListLemmas.{all_more}
use Rattle.trace_report.proofs.TableLemmas.TableLemmas.{up_to_sets, up_to_room, Fails, IsDecided, decided}

-- ---- what is free

module _ (range : Numbers) (used : List ℕ) where
  pub used_up : least_free_of range used ≡ None → IsUsedUp range used
  used_up is = by (least_free_cases range used)
    where
      by : ((k : ℕ) × (least_free_of range used ≡ Some k) × IsLeastFree range used k) ⊎ ((least_free_of range used ≡ None) × ((n : ℕ) → IsFree range used n → ⊥)) → IsUsedUp range used
      by (inl found) = cc (found.1)
      by (inr none) = none.1

  pub least_one : (n : ℕ) → least_free_of range used ≡ Some n → IsLeastFree range used n
  least_one n is = (least_free_iff range used n).0 is

  pub not_used_up : (n : ℕ) → IsLeastFree range used n → ¬ IsUsedUp range used
  not_used_up n least up = up n least.free

-- ---- what would be committed

module _ (op : Operator) (s : Ascends op.state.flows) where
  elements : Flow → ℕ
  elements flow = (committed_of op.consts.units flow).elements

  minislots : Flow → ℕ
  minislots flow = (committed_of op.consts.units flow).minislots

  module _ (modem : Modem) (addition : Addition) (k sid : ℕ) (none : flow_at k op.state.flows ≡ None) where
    abbrev added_flow : Flow
    added_flow = new_flow modem op.state.frame addition.sets sid

    pub elements_added : committed_elements op.consts.units (with_flow k added_flow op.state.flows) ≡ would_commit (λ need. need.elements) op None addition.sets.admitted
    elements_added =
        let none_before = ap (λ (o : Option Flow). unwrap_or (option_map (λ (flow : Flow). (committed_of op.consts.units flow).elements) o) 0) none in
        omega (arith, none_before, sum-insert (λ (flow : Flow). (committed_of op.consts.units flow).elements) op.state.flows k added_flow s)

    pub minislots_added : committed_minislots op.consts.units (with_flow k added_flow op.state.flows) ≡ would_commit (λ need. need.minislots) op None addition.sets.admitted
    minislots_added =
        let none_before = ap (λ (o : Option Flow). unwrap_or (option_map (λ (flow : Flow). (committed_of op.consts.units flow).minislots) o) 0) none in
        omega (arith, none_before, sum-insert (λ (flow : Flow). (committed_of op.consts.units flow).minislots) op.state.flows k added_flow s)

  module _ (change : Change) (sid : Option ℕ) (sid_is_new : Bool) (there : flow_at change.sfid op.state.flows ≡ Some change.flow) where
    abbrev changed_so : Flow
    changed_so = changed_flow change sid sid_is_new

    pub elements_changed : committed_elements op.consts.units (with_flow change.sfid changed_so op.state.flows) ≡ would_commit (λ need. need.elements) op (Some change.flow) change.sets.admitted
    elements_changed =
        let before = ap (λ (o : Option Flow). unwrap_or (option_map (λ (flow : Flow). (committed_of op.consts.units flow).elements) o) 0) there in
        omega (
          arith,
          before,
          sum-insert (λ (flow : Flow). (committed_of op.consts.units flow).elements) op.state.flows change.sfid changed_so s,
          sum-remove (λ (flow : Flow). (committed_of op.consts.units flow).elements) op.state.flows change.sfid,
        )

    pub minislots_changed : committed_minislots op.consts.units (with_flow change.sfid changed_so op.state.flows) ≡ would_commit (λ need. need.minislots) op (Some change.flow) change.sets.admitted
    minislots_changed =
        let before = ap (λ (o : Option Flow). unwrap_or (option_map (λ (flow : Flow). (committed_of op.consts.units flow).minislots) o) 0) there in
        omega (
          arith,
          before,
          sum-insert (λ (flow : Flow). (committed_of op.consts.units flow).minislots) op.state.flows change.sfid changed_so s,
          sum-remove (λ (flow : Flow). (committed_of op.consts.units flow).minislots) op.state.flows change.sfid,
        )

-- ---- the budgets

-- the smaller budget is passed where one of them is
over_from : (op : Operator) (n : ℕ) → minislots_allowed op.state.share.budget op.state.next < n → IsOverBudget op n
over_from op n more = by op.state.next refl more
  where
    of_both : (next : NextShare) → op.state.next ≡ Some next → min op.state.share.budget next.share.budget < n → (b : Bool) → nat_lt op.state.share.budget n ≡ b → IsOverBudget op n
    of_both next is more true test = inl (ltb-true op.state.share.budget n test)
    of_both next is more false test = let least = ltb-false op.state.share.budget n test in inr (next, is, omega arith)

    by : (o : Option NextShare) → op.state.next ≡ o → minislots_allowed op.state.share.budget o < n → IsOverBudget op n
    by None is more = inl more
    by (Some next) is more = of_both next is more (nat_lt op.state.share.budget n) refl

from_over : (op : Operator) (n : ℕ) → IsOverBudget op n → minislots_allowed op.state.share.budget op.state.next < n
from_over op n (inl more) = by op.state.next
  where
    by : (o : Option NextShare) → minislots_allowed op.state.share.budget o < n
    by None = more
    by (Some next) = omega arith
from_over op n (inr next) = subst (λ (o : Option NextShare). minislots_allowed op.state.share.budget o < n) (sym next.1) (omega (arith, next.2))

-- ---- the checks

abbrev pub up_to_sids : List Check
up_to_sids = up_to_sets ++ FlowsFull ∷ NoSfidFree ∷ NoSidFree ∷ []

module _ (op : Operator) (modem : Modem) (said : Said) (not_dsd : said.kind ≢ Dsd) (about : Option Flow) (set : Option ParamFields)
    (is_about : IsAbout op said about) (is_set : IsToBeAdmitted op said set) (only_about : (o : Option Flow) → IsAbout op said o → o ≡ about)
    (only_set : (o : Option ParamFields) → IsToBeAdmitted op said o → o ≡ set) (none : AllByRecursion (Fails op modem said) up_to_sids) where
  pub within-decided : (flows : List (ℕ × Flow)) → committed_elements op.consts.units flows ≡ would_commit (λ need. need.elements) op about set
      → committed_minislots op.consts.units flows ≡ would_commit (λ need. need.minislots) op about set → (v : Verdict)
      → (AllByRecursion (Fails op modem said) up_to_room → IsDecided op modem said v)
      → IsDecided op modem said (within_limit said.kind said.tid op.consts.units (limit_of op) flows v)
  within-decided flows is_elements is_minislots v accepted =
      cond_both (nat_lt op.row.elements (committed_elements op.consts.units flows)) _ _ (IsDecided op modem said)
      (λ over. decided op modem said up_to_sids ElementsOver (MinislotsOver ∷ Accepted ∷ []) _ refl none
      (committed_elements op.consts.units flows, not_dsd, (about, set, is_about, is_set, is_elements), ltb-true _ _ over) refl)
      (λ few. cond_both (nat_lt (minislots_allowed op.state.share.budget op.state.next) (committed_minislots op.consts.units flows)) _ _ (IsDecided op modem said)
      (λ over. decided op modem said (up_to_sids ++ ElementsOver ∷ []) MinislotsOver (Accepted ∷ []) _ refl (few_elements few)
      (committed_minislots op.consts.units flows, not_dsd, (about, set, is_about, is_set, is_minislots), over_from op (committed_minislots op.consts.units flows) (ltb-true _ _ over)) refl)
      (λ small. accepted (all_more (Fails op modem said) (up_to_sids ++ ElementsOver ∷ []) MinislotsOver (few_elements few) (few_minislots small))))
    where
      few_elements : nat_lt op.row.elements (committed_elements op.consts.units flows) ≡ false → AllByRecursion (Fails op modem said) (up_to_sids ++ ElementsOver ∷ [])
      few_elements few = all_more (Fails op modem said) up_to_sids ElementsOver none
          (λ h. let same_flow = only_about h.2.0 h.2.2 in
          let same_set = only_set h.2.1 h.2.3 in
          let same : h.0 ≡ committed_elements op.consts.units flows =
          h.2.4 ∙ (ap (λ (o : Option Flow). would_commit (λ need. need.elements) op o h.2.1) same_flow
          ∙ (ap (λ (x : Option ParamFields). would_commit (λ need. need.elements) op about x) same_set ∙ sym is_elements)) in
          let least = ltb-false op.row.elements (committed_elements op.consts.units flows) few in
          let over = h.3 in
          absurd (omega arith))

      few_minislots : nat_lt (minislots_allowed op.state.share.budget op.state.next) (committed_minislots op.consts.units flows) ≡ false → Fails op modem said MinislotsOver
      few_minislots small h =
          let same_flow = only_about h.2.0 h.2.2 in
          let same_set = only_set h.2.1 h.2.3 in
          let same : h.0 ≡ committed_minislots op.consts.units flows =
          h.2.4 ∙ (ap (λ (o : Option Flow). would_commit (λ need. need.minislots) op o h.2.1) same_flow
          ∙ (ap (λ (x : Option ParamFields). would_commit (λ need. need.minislots) op about x) same_set ∙ sym is_minislots)) in
          let least = ltb-false (minislots_allowed op.state.share.budget op.state.next) (committed_minislots op.consts.units flows) small in
          let over = from_over op h.0 h.3 in
          absurd (omega arith)
