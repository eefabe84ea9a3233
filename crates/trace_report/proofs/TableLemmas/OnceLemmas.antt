-- Where a check decides there is one answer.
use Rattle.std.proofs.Common.{◌≡◌, ◌≢◌, ℕ, ◌<◌, Bool, true, false, List, [], ◌∷◌, ◌++◌, length, map, Option, Some, None, option_map, refl, sym, ap, ◌∙◌, subst}
use Rattle.trace_report.proofs.TableLemmas.Common.{Contains, AllByRecursion, true≢false, recursion_from_All, FlowFields, Modem, Kind, Dsa, Dsc, Dsd, least_free_one, ParamFields, Flow, sids_of, flow_at, Verdict, Operator, is_same, stand_together, Ascends, IsFirst, Said, identifier, told_identifier, NamesFlow, IsOfFlow, EncodingIsRefused, Admits, Activates, IsSetWhere, CheckApplies, AreAdmittedAndActive, NamesUnknownClass, GivesNoSet, IsAdded, GetsSid, IsAnswerToChange, IsDeleted, IsAccepted, AnswersCheck, table, IsDecidedBy, Check, UnknownClass, NoEncoding, IdentifiersDiffer, NotTogether, NoIdentifier, UnknownFlow, NotOwner, FlowWaits, WrongSetType, NoParameterSet, ActiveNotWithin, AdmittedNotWithin, FlowsFull, NoSfidFree, NoSidFree, ElementsOver, MinislotsOver, Accepted}
use Rattle.dsx_messages.specs.declared.reply.FlowId.TheVariants as ids
use Rattle.trace_report.proofs.TableLemmas.ListLemmas.{contains-nothing, first_one}
use Rattle.trace_report.proofs.TableLemmas.EntryLemmas.{contained_at}
use Rattle.trace_report.proofs.TableLemmas.TableLemmas.{Fails}
use Rattle.trace_report.proofs.TableLemmas.EncodingLemmas.{is_same_true, is_same_from, IsShape, together_shape, apart_more}
use Rattle.trace_report.proofs.TableLemmas.SetLemmas.{one_set, only_one, one_of_two, not_both_admit, not_both_activate}

-- ---- what stands before the first

module _ {X : Type 0} (P : X → Type 0) where
  -- of what stands before the first nothing holds
  ahead_fails : (s : List X) (a : X) (t before : List X) (b : X) (after : List X) → s ++ a ∷ t ≡ before ++ b ∷ after → AllByRecursion (λ x. x ≢ b) (s ++ a ∷ [])
      → AllByRecursion (λ x. ¬ P x) before → ¬ P a
  ahead_fails [] a t [] b after same apart none = let here : a ≡ b = cc in absurd (apart.0 here)
  ahead_fails [] a t (c ∷ before) b after same apart none = let here : c ≡ a = cc in subst (λ (x : X). ¬ P x) here none.0
  ahead_fails (x ∷ s) a t [] b after same apart none = let here : x ≡ b = cc in absurd (apart.0 here)
  ahead_fails (x ∷ s) a t (c ∷ before) b after same apart none = ahead_fails s a t before b after (cc) apart.1 none.1

-- ---- identifiers

same_told : (kind : Kind) (a b : FlowFields) → identifier kind a ≡ identifier kind b → told_identifier kind a ≡ told_identifier kind b
same_told Dsa a b is = ap (option_map ids.Reference) is
same_told Dsc a b is = ap (option_map ids.Sfid) is
same_told Dsd a b is = refl

-- the identifiers of all are equal
abbrev AreSame : Kind → List FlowFields → Type 0
AreSame kind es = (a b : FlowFields) → Contains es a → Contains es b → identifier kind a ≡ identifier kind b

module _ (op : Operator) (modem : Modem) (said : Said) where
  identifiers_same : Fails op modem said IdentifiersDiffer → AreSame said.kind said.encodings
  identifiers_same fails a b has_a has_b = by (is_same (identifier said.kind a) (identifier said.kind b)) refl
    where
      by : (t : Bool) → is_same (identifier said.kind a) (identifier said.kind b) ≡ t → identifier said.kind a ≡ identifier said.kind b
      by true is = is_same_true (identifier said.kind a) (identifier said.kind b) is
      by false is = absurd (fails (a, b, has_a, has_b, λ same. true≢false (sym (is_same_from (identifier said.kind a) (identifier said.kind b) same) ∙ is)))

names_once : (kind : Kind) (es : List FlowFields) (fixed : Option ℕ) → AreSame kind es → (m n : ℕ) → NamesFlow kind es fixed m → NamesFlow kind es fixed n → m ≡ n
names_once Dsa es fixed same m n h k = absurd h
names_once Dsc es fixed same m n h k =
    let here = same h.1 k.1 (h.0, h.2, h.3) (k.0, k.2, k.3) in
    let left = h.4 in
    let right = k.4 in
    cc
names_once Dsd es fixed same m n h k = cc

-- ---- sets

-- there are no encodings that do not stand together
abbrev StandTogether : List FlowFields → Type 0
StandTogether es = ¬ ((1 < length es) × (¬ AreAdmittedAndActive (map (λ (e : FlowFields). e.set_type) es)))

two_shape : (a b : FlowFields) → StandTogether (a ∷ b ∷ []) → IsShape (a ∷ b ∷ [])
two_shape a b together = by (stand_together (a ∷ b ∷ [])) refl
  where
    by : (t : Bool) → stand_together (a ∷ b ∷ []) ≡ t → IsShape (a ∷ b ∷ [])
    by true is = together_shape (a ∷ b ∷ []) is
    by false is = absurd (together (apart_more a (b ∷ []) is))

-- where of two encodings, one for each set, P holds of one, it holds of one of those that stand together
agree : (P : FlowFields → Type 0) → ((a b : FlowFields) → IsShape (a ∷ b ∷ []) → P a → P b → ⊥) → (es : List FlowFields) → StandTogether es
    → (a b : FlowFields) → Contains es a → Contains es b → P a → P b → a ≡ b
agree P apart [] together a b has_a has_b p q = absurd (contains-nothing a has_a)
agree P apart (e ∷ []) together a b has_a has_b p q = only_one e a b has_a has_b
agree P apart (x ∷ y ∷ []) together a b has_a has_b p q = one_of_two P x y a b (apart x y (two_shape x y together)) has_a has_b p q
agree P apart (x ∷ y ∷ z ∷ more) together a b has_a has_b p q = absurd (together (apart_more x (y ∷ z ∷ more) refl))

module _ (op : Operator) (es : List FlowFields) (together : StandTogether es) (x y : Option ParamFields) where
  admitted_once : IsSetWhere Admits op.consts es x → IsSetWhere Admits op.consts es y → x ≡ y
  admitted_once h k = one_set op Admits es (agree Admits not_both_admit es together) x y h k

  active_once : IsSetWhere Activates op.consts es x → IsSetWhere Activates op.consts es y → x ≡ y
  active_once h k = one_set op Activates es (agree Activates not_both_activate es together) x y h k

-- ---- the answers

module _ (op : Operator) (s : Ascends op.state.flows) (modem : Modem) (said : Said) where
  flow_once : AreSame said.kind said.encodings → (m n : ℕ) (f g : Flow) → IsOfFlow op said m f → IsOfFlow op said n g → (m ≡ n) × (f ≡ g)
  flow_once same m n f g h k =
      let number : m ≡ n = names_once said.kind said.encodings said.sfid same m n h.0 k.0 in
      let left : flow_at m op.state.flows ≡ Some f = contained_at op.state.flows m f s h.1 in
      let right : flow_at n op.state.flows ≡ Some g = contained_at op.state.flows n g s k.1 in
      let moved : flow_at n op.state.flows ≡ Some f = subst (λ (k : ℕ). flow_at k op.state.flows ≡ Some f) number left in
      (number, cc)

  sid_once : (own : Option ℕ) (set : Option ParamFields) (a b : Option ℕ) (p q : Bool) → GetsSid op own set a p → GetsSid op own set b q → (a ≡ b) × (p ≡ q)
  sid_once (Some own) set a b p q h k = (h.0 ∙ sym k.0, h.1 ∙ sym k.1)
  sid_once None None a b p q h k = (h.0 ∙ sym k.0, h.1 ∙ sym k.1)
  sid_once None (Some set) a b p q h k =
      (h.2 ∙ (ap (λ (n : ℕ). Some n) (least_free_one op.row.sids (sids_of op.state.flows) h.0 k.0 h.1 k.1) ∙ sym k.2), h.3 ∙ sym k.3)

  module _ (v w : Verdict) (same : AreSame said.kind said.encodings) (together : StandTogether said.encodings) where
    added_once : AreSame Dsa said.encodings → IsAdded op modem said v → IsAdded op modem said w → v ≡ w
    added_once alike a b =
        let sfid : a.sfid ≡ b.sfid = least_free_one op.row.sfids _ a.sfid b.sfid a.is_sfid b.is_sfid in
        let sid : a.sid ≡ b.sid = least_free_one op.row.sids _ a.sid b.sid a.is_sid b.is_sid in
        let admitted : a.admitted ≡ b.admitted = admitted_once op said.encodings together a.admitted b.admitted a.is_admitted b.is_admitted in
        let active : a.active ≡ b.active = active_once op said.encodings together a.active b.active a.is_active b.is_active in
        let h = a.is_reference in
        let k = b.is_reference in
        let here = alike h.1 k.1 (h.0, h.2, h.3) (k.0, k.2, k.3) in
        let left = h.4 in
        let right = k.4 in
        let reference : a.reference ≡ b.reference = cc in
        let left_is = a.is in
        let right_is = b.is in
        cc

    changed_once : IsAnswerToChange op said v → IsAnswerToChange op said w → v ≡ w
    changed_once a b =
        let one = flow_once same a.sfid b.sfid a.flow b.flow a.is_flow b.is_flow in
        let sfid : a.sfid ≡ b.sfid = one.0 in
        let flow : a.flow ≡ b.flow = one.1 in
        let admitted : a.admitted ≡ b.admitted = admitted_once op said.encodings together a.admitted b.admitted a.is_admitted b.is_admitted in
        let active : a.active ≡ b.active = active_once op said.encodings together a.active b.active a.is_active b.is_active in
        let gets : GetsSid op b.flow.sid b.admitted a.sid a.sid_is_new =
        subst (λ (o : Option ParamFields). GetsSid op b.flow.sid o a.sid a.sid_is_new) admitted
        (subst (λ (f : Flow). GetsSid op f.sid a.admitted a.sid a.sid_is_new) flow a.is_sid) in
        let sids = sid_once b.flow.sid b.admitted a.sid b.sid a.sid_is_new b.sid_is_new gets b.is_sid in
        let sid : a.sid ≡ b.sid = sids.0 in
        let sid_is_new : a.sid_is_new ≡ b.sid_is_new = sids.1 in
        let left_is = a.is in
        let right_is = b.is in
        cc

    deleted_once : IsDeleted said v → IsDeleted said w → v ≡ w
    deleted_once a b =
        let number = names_once said.kind said.encodings said.sfid same a.sfid b.sfid a.named b.named in
        let left = a.is in
        let right = b.is in
        cc

    accepted_once : (kind : Kind) → AreSame kind said.encodings → IsAccepted kind op modem said v → IsAccepted kind op modem said w → v ≡ w
    accepted_once Dsa alike h k = added_once alike h k
    accepted_once Dsc alike h k = changed_once h k
    accepted_once Dsd alike h k = deleted_once h k

  -- ---- which of the checks before it do not hold

  module _ (check : Check) (first : IsFirst (λ c. CheckApplies c op modem said) table check) where
    of_table : (before : List Check) (earlier : Check) (after : List Check) → table ≡ before ++ earlier ∷ after → AllByRecursion (λ c. c ≢ check) (before ++ earlier ∷ [])
        → Fails op modem said earlier
    of_table before earlier after is apart =
        ahead_fails (λ (c : Check). CheckApplies c op modem said) before earlier after first.before check first.after (sym is ∙ first.split) apart
        (recursion_from_All (Fails op modem said) first.before first.none)

    one_flow : AllByRecursion (λ c. c ≢ check) (UnknownClass ∷ NoEncoding ∷ IdentifiersDiffer ∷ []) → AreSame said.kind said.encodings
    one_flow apart =
        identifiers_same op modem said
        (of_table (UnknownClass ∷ NoEncoding ∷ []) IdentifiersDiffer
        (NotTogether ∷ NoIdentifier ∷ UnknownFlow ∷ NotOwner ∷ FlowWaits ∷ WrongSetType ∷ NoParameterSet ∷ ActiveNotWithin ∷ AdmittedNotWithin ∷ FlowsFull ∷ NoSfidFree ∷ NoSidFree ∷ ElementsOver ∷ MinislotsOver ∷ Accepted ∷ [])
        refl apart)

    stand_so : AllByRecursion (λ c. c ≢ check) (UnknownClass ∷ NoEncoding ∷ IdentifiersDiffer ∷ NotTogether ∷ []) → StandTogether said.encodings
    stand_so apart =
        of_table (UnknownClass ∷ NoEncoding ∷ IdentifiersDiffer ∷ []) NotTogether
        (NoIdentifier ∷ UnknownFlow ∷ NotOwner ∷ FlowWaits ∷ WrongSetType ∷ NoParameterSet ∷ ActiveNotWithin ∷ AdmittedNotWithin ∷ FlowsFull ∷ NoSfidFree ∷ NoSidFree ∷ ElementsOver ∷ MinislotsOver ∷ Accepted ∷ [])
        refl apart

  module _ (v w : Verdict) where
    unclassed_once : AnswersCheck UnknownClass op modem said v → AnswersCheck UnknownClass op modem said w → v ≡ w
    unclassed_once h k =
        let same = first_one (NamesUnknownClass op.consts.classes) said.encodings h.0 k.0 h.1 k.1 in
        let left = h.2 in
        let right = k.2 in
        cc

    type_once : AnswersCheck WrongSetType op modem said v → AnswersCheck WrongSetType op modem said w → v ≡ w
    type_once h k =
        let here = h.1 in
        let there = k.1 in
        let same : h.0 ≡ k.0 = cc in
        let left = h.2 in
        let right = k.2 in
        cc

    set_once : AnswersCheck NoParameterSet op modem said v → AnswersCheck NoParameterSet op modem said w → v ≡ w
    set_once h k =
        let same : h.0 ≡ k.0 = first_one (GivesNoSet op.consts) said.encodings h.0 k.0 h.2 k.2 in
        let here : EncodingIsRefused op.consts k.0 h.1 = subst (λ (e : FlowFields). EncodingIsRefused op.consts e h.1) same h.3 in
        let there : EncodingIsRefused op.consts k.0 k.1 = k.3 in
        let refusal : h.1 ≡ k.1 = cc in
        let left = h.4 in
        let right = k.4 in
        cc

    module _ (same : AreSame said.kind said.encodings) (together : StandTogether said.encodings) where
      active_set_once : AnswersCheck ActiveNotWithin op modem said v → AnswersCheck ActiveNotWithin op modem said w → v ≡ w
      active_set_once h k =
          let active = active_once op said.encodings together (Some h.1) (Some k.1) h.5 k.5 in
          let admitted = admitted_once op said.encodings together (Some h.2) (Some k.2) h.6 k.6 in
          let here = h.7 in
          let there = k.7 in
          let subtype : h.3 ≡ k.3 = cc in
          let id = same_told said.kind h.0 k.0 (same h.0 k.0 h.4 k.4) in
          let left = h.8 in
          let right = k.8 in
          cc

      admitted_set_once : AnswersCheck AdmittedNotWithin op modem said v → AnswersCheck AdmittedNotWithin op modem said w → v ≡ w
      admitted_set_once h k =
          let flow : h.1 ≡ k.1 = (flow_once same h.6.0 k.6.0 h.1 k.1 h.6.1 k.6.1).1 in
          let admitted = admitted_once op said.encodings together (Some h.2) (Some k.2) h.7 k.7 in
          let here_provisioned = h.8 in
          let there_provisioned = k.8 in
          let provisioned : h.3 ≡ k.3 = cc in
          let here = h.9 in
          let there = k.9 in
          let subtype : h.4 ≡ k.4 = cc in
          let id = same_told said.kind h.0 k.0 (same h.0 k.0 h.5 k.5) in
          let left = h.10 in
          let right = k.10 in
          cc

    once : (check : Check) → IsFirst (λ c. CheckApplies c op modem said) table check → AnswersCheck check op modem said v → AnswersCheck check op modem said w → v ≡ w
    once UnknownClass first h k = unclassed_once h k
    once NoEncoding first h k = h ∙ sym k
    once IdentifiersDiffer first h k = h ∙ sym k
    once NotTogether first h k = h ∙ sym k
    once NoIdentifier first h k = h ∙ sym k
    once UnknownFlow first h k = h ∙ sym k
    once NotOwner first h k = h ∙ sym k
    once FlowWaits first h k = h ∙ sym k
    once WrongSetType first h k = type_once h k
    once NoParameterSet first h k = set_once h k
    once ActiveNotWithin first h k =
        active_set_once (one_flow ActiveNotWithin first ((λ e. cc), ((λ e. cc), ((λ e. cc), tt))))
        (stand_so ActiveNotWithin first ((λ e. cc), ((λ e. cc), ((λ e. cc), ((λ e. cc), tt))))) h k
    once AdmittedNotWithin first h k =
        admitted_set_once (one_flow AdmittedNotWithin first ((λ e. cc), ((λ e. cc), ((λ e. cc), tt))))
        (stand_so AdmittedNotWithin first ((λ e. cc), ((λ e. cc), ((λ e. cc), ((λ e. cc), tt))))) h k
    once FlowsFull first h k = h ∙ sym k
    once NoSfidFree first h k = h ∙ sym k
    once NoSidFree first h k = h ∙ sym k
    once ElementsOver first h k = h ∙ sym k
    once MinislotsOver first h k = h ∙ sym k
    once Accepted first h k =
        let same = one_flow Accepted first ((λ e. cc), ((λ e. cc), ((λ e. cc), tt))) in
        accepted_once v w same (stand_so Accepted first ((λ e. cc), ((λ e. cc), ((λ e. cc), ((λ e. cc), tt))))) said.kind same h k

-- two that decide are one, and answer the same
pub decided_once : (op : Operator) → Ascends op.state.flows → (modem : Modem) (said : Said) (a b : Check) (v w : Verdict)
    → IsDecidedBy op modem said a v → IsDecidedBy op modem said b w → (a ≡ b) × (v ≡ w)
decided_once op s modem said a b v w h k =
    let check : a ≡ b = first_one (λ (c : Check). CheckApplies c op modem said) table a b h.first k.first in
    (check, once op s modem said v w b k.first (subst (λ (c : Check). AnswersCheck c op modem said v) check h.answers) k.answers)
