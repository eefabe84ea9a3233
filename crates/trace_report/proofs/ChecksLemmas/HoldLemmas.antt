-- Each test of a check decides whether the check holds.
use Rattle.std.proofs.Common.{◌≡◌, ◌≢◌, ◌==◌, ℕ, ◌<◌, ◌≤◌, ◌&&◌, ◌||◌, Bool, not, true, false, List, [], ◌∷◌, ◌++◌, ◌⊎◌, length, map, filter, nat_lt, nat_le, Option, Some, None, Result, Ok, Err, is_some, is_none, refl, sym, ap, ◌∙◌, subst, arith, inl, inr}
use Rattle.trace_report.proofs.ChecksLemmas.Common.{Contains, Any, IsSome, if◌then◌else◌, Decides, list_any, false≢true, and_parts, and_from, not-true, not_from_false, lt-ltb, leb-true, le-leb, false_from_ne_true, true_from_ne_false, All-contains, Modem, Kind, same_modem, Flow, sfids_of, sids_of, sid_if, Operator, Said, identifier, NamesFlow, IsOfFlow, IsAbout, EncodingAsksFor, set_asked, Admits, Activates, IsSetWhere, IsToBeAdmitted, IsToBeActive, IsSetType, NamesUnknownClass, AreAdmittedAndActive, AcceptsSetType, GivesNoSet, IsUsedUp, would_commit, WouldCommit, IsOverBudget, CheckApplies, Check, contains-here, contains-later, contains_cases, any_from, same_modems, modem_itself, is_addition, is_deletion, names, subject_of, is_named_in, subjects_of, is_for, ok_of, set_given, gives_for, encoding_sets, is_empty, differs_from, is_alone, do_differ, has_no_identifier, is_taken, is_wrong_alone, is_err_of, gives_none, is_unknown, names_unknown, is_of_another, flow_waits, is_outside, provisioned_of, is_outside_one, one_exceeds, has_no_sid, is_over_next, is_over_budget, does_hold}
use Rattle.std.proofs.lemmas.Option.{none-some}
use Rattle.std.proofs.lemmas.Bool.Decides.{Decides-eqb, Decides-like, Decides-not, Decides-and, Decides-or, Decides-ltb}
use Rattle.tlv24.specs.SetType.{set_type_number}
use Rattle.tlv24.specs.declared.fields.FlowFields.{FlowFields}
use Rattle.tlv24.specs.declared.set_type.SetType.{SetType}
use Rattle.tlv24.specs.declared.set_type.SetType.TheVariants.{Null, Admitted, Active, AdmittedAndActive}
use Rattle.dsx_messages.specs.declared.kind.Kind.TheVariants.{Dsa, Dsc, Dsd}
use Rattle.admission.specs.Free.{Numbers, least_free_of}
use Rattle.admission.specs.declared.budget.Budget.{Budget}
use Rattle.param_sets.specs.Within.{IsWithin, first_failing}
use Rattle.param_sets.specs.declared.param_set.ParamFields.{ParamFields}
use Rattle.param_sets.specs.declared.refusal.Refusal.{Refusal}
use Rattle.param_sets.proofs.WithinLemmas.{is_within, nothing_fails}
use Rattle.plant.specs.declared.consts.ConstsFields.{ConstsFields}
use Rattle.operator_model.specs.declared.share.NextShare.{NextShare}
use Rattle.operator_model.specs.Asked.{is_same, has_set_type, is_unclassed, stand_together}
use Rattle.trace_report.specs.declared.table.check.Check.TheVariants as checks
use Rattle.trace_report.proofs.TableLemmas.EncodingLemmas.{unclassed, classed, is_same_true, is_same_from, IsShape, together_shape, apart_more}
use Rattle.trace_report.proofs.TableLemmas.RoomLemmas.{used_up, least_one, not_used_up}
use Rattle.trace_report.specs.declared.checks.asking.Use.{Use}
use Rattle.trace_report.specs.declared.checks.asking.Use.TheVariants.{Admit, Activate}
use Rattle.trace_report.proofs.ChecksLemmas.ListLemmas.{any_decides, left_from, left_to, all_of}

-- ---- single tests

same_decides : (a b : Option ℕ) → Decides (is_same a b) (a ≡ b)
same_decides a b = (is_same_true a b, is_same_from a b)

none_decides : {X : Type 0} (o : Option X) → Decides (is_none o) (o ≡ None)
none_decides None = ((λ _. refl), (λ _. refl))
none_decides (Some x) = ((λ is. absurd (false≢true is)), (λ is. cc))

some_decides : {X : Type 0} (o : Option X) → Decides (is_some o) (IsSome o)
some_decides o = ((λ is. is), (λ is. is))

modem_decides : (a b : Modem) → Decides (same_modem a b) (a ≡ b)
modem_decides a b = (same_modems a b, modem_itself a b)

le_decides : (a b : ℕ) → Decides (nat_le a b) (a ≤ b)
le_decides a b = (leb-true a b, le-leb a b)

addition_decides : (kind : Kind) → Decides (is_addition kind) (kind ≡ Dsa)
addition_decides Dsa = ((λ _. refl), (λ _. refl))
addition_decides Dsc = ((λ is. absurd (false≢true is)), (λ is. cc))
addition_decides Dsd = ((λ is. absurd (false≢true is)), (λ is. cc))

deletion_decides : (kind : Kind) → Decides (is_deletion kind) (kind ≡ Dsd)
deletion_decides Dsa = ((λ is. absurd (false≢true is)), (λ is. cc))
deletion_decides Dsc = ((λ is. absurd (false≢true is)), (λ is. cc))
deletion_decides Dsd = ((λ _. refl), (λ _. refl))

empty_decides : {X : Type 0} (xs : List X) → Decides (is_empty xs) (xs ≡ [])
empty_decides [] = ((λ _. refl), (λ _. refl))
empty_decides (x ∷ xs) = ((λ is. absurd (false≢true is)), (λ is. cc))

-- ---- the encodings

unclassed_decides : (op : Operator) (e : FlowFields) → Decides (is_unclassed op.consts.classes e) (NamesUnknownClass op.consts.classes e)
unclassed_decides op e = (unclassed op.consts.classes e, λ h. true_from_ne_false (is_unclassed op.consts.classes e) (λ known. classed op.consts.classes e known h))

differ_decides : (kind : Kind) (a b : FlowFields) → Decides (differs_from kind a b) (identifier kind a ≢ identifier kind b)
differ_decides Dsa a b = Decides-not (is_same a.reference b.reference) (same_decides a.reference b.reference)
differ_decides Dsc a b = Decides-not (is_same a.sfid b.sfid) (same_decides a.sfid b.sfid)
differ_decides Dsd a b = Decides-not true (same_decides None None)

no_identifier_decides : (kind : Kind) (e : FlowFields) → Decides (has_no_identifier kind e) (identifier kind e ≡ None)
no_identifier_decides Dsa e = none_decides e.reference
no_identifier_decides Dsc e = none_decides e.sfid
no_identifier_decides Dsd e = ((λ _. refl), (λ _. refl))

shape_two : (es : List FlowFields) → IsShape es → 1 < length es → AreAdmittedAndActive (map (λ (e : FlowFields). e.set_type) es)
shape_two [] shape more = absurd shape
shape_two (e ∷ []) shape more = absurd (omega arith)
shape_two (a ∷ b ∷ []) (inl h) more = inl (ap (λ (x : Option ℕ). x ∷ b.set_type ∷ []) h.0 ∙ ap (λ (x : Option ℕ). Some (set_type_number Admitted) ∷ x ∷ []) h.1)
shape_two (a ∷ b ∷ []) (inr h) more = inr (ap (λ (x : Option ℕ). x ∷ b.set_type ∷ []) h.0 ∙ ap (λ (x : Option ℕ). Some (set_type_number Active) ∷ x ∷ []) h.1)
shape_two (a ∷ b ∷ c ∷ rest) shape more = absurd shape

apart_decides : (es : List FlowFields)
    → Decides (nat_lt 1 (length es) && not (stand_together es)) ((1 < length es) × (¬ AreAdmittedAndActive (map (λ encoding. encoding.set_type) es)))
apart_decides [] = ((λ is. absurd (false≢true is)), (λ h. absurd (omega (arith, h.0))))
apart_decides (first ∷ others) = (
  (λ is. apart_more first others (not-true (stand_together (first ∷ others)) (and_parts (nat_lt 1 (length (first ∷ others))) (not (stand_together (first ∷ others))) is).1)),
  (λ h. and_from (nat_lt 1 (length (first ∷ others))) (not (stand_together (first ∷ others))) (lt-ltb 1 (length (first ∷ others)) h.0)
      (not_from_false (stand_together (first ∷ others)) (false_from_ne_true (stand_together (first ∷ others))
      (λ is. h.1 (shape_two (first ∷ others) (together_shape (first ∷ others) is) h.0))))),
)

type_decides : (set_type : SetType) (e : FlowFields) → Decides (has_set_type set_type e) (IsSetType set_type e.set_type)
type_decides set_type e = same_decides e.set_type (Some (set_type_number set_type))

taken_decides : (kind : Kind) (e : FlowFields) → Decides (is_taken kind e) (AcceptsSetType kind e.set_type)
taken_decides Dsa e =
    Decides-or (has_set_type Admitted e) (has_set_type AdmittedAndActive e) (type_decides Admitted e)
    (Decides-like (has_set_type AdmittedAndActive e) inl only (type_decides AdmittedAndActive e))
  where
    only : IsSetType AdmittedAndActive e.set_type ⊎ ((Dsa ≡ Dsc) × IsSetType Null e.set_type) → IsSetType AdmittedAndActive e.set_type
    only (inl is) = is
    only (inr is) = let other : Dsa ≡ Dsc = is.0 in cc
taken_decides Dsd e =
    Decides-or (has_set_type Admitted e) (has_set_type AdmittedAndActive e) (type_decides Admitted e)
    (Decides-like (has_set_type AdmittedAndActive e) inl only (type_decides AdmittedAndActive e))
  where
    only : IsSetType AdmittedAndActive e.set_type ⊎ ((Dsd ≡ Dsc) × IsSetType Null e.set_type) → IsSetType AdmittedAndActive e.set_type
    only (inl is) = is
    only (inr is) = let other : Dsd ≡ Dsc = is.0 in cc
taken_decides Dsc e =
    Decides-or (has_set_type Admitted e) (has_set_type AdmittedAndActive e || has_set_type Null e) (type_decides Admitted e)
    (Decides-or (has_set_type AdmittedAndActive e) (has_set_type Null e) (type_decides AdmittedAndActive e)
    (Decides-like (has_set_type Null e) (λ is. (refl, is)) (λ is. is.1) (type_decides Null e)))

wrong_decides : (kind : Kind) (es : List FlowFields)
    → Decides (is_wrong_alone kind es) ((encoding : FlowFields) × (es ≡ encoding ∷ []) × (¬ AcceptsSetType kind encoding.set_type))
wrong_decides kind [] = ((λ is. absurd (false≢true is)), (λ h. let other = h.1 in cc))
wrong_decides kind (a ∷ []) =
    Decides-like (not (is_taken kind a)) (λ out. (a, refl, out)) one (Decides-not (is_taken kind a) (taken_decides kind a))
  where
    one : (encoding : FlowFields) × (a ∷ [] ≡ encoding ∷ []) × (¬ AcceptsSetType kind encoding.set_type) → ¬ AcceptsSetType kind a.set_type
    one h = let same : h.0 ≡ a = let is = h.1 in cc in subst (λ (e : FlowFields). ¬ AcceptsSetType kind e.set_type) same h.2
wrong_decides kind (a ∷ b ∷ more) = ((λ is. absurd (false≢true is)), (λ h. let other = h.1 in cc))

module _ (consts : ConstsFields) (e : FlowFields) where
  err_decides : (o : Option (Result ParamFields Refusal)) → Decides (is_err_of o) ((refusal : Refusal) × (o ≡ Some (Err refusal)))
  err_decides None = ((λ is. absurd (false≢true is)), (λ h. let other = h.1 in cc))
  err_decides (Some (Ok set)) = ((λ is. absurd (false≢true is)), (λ h. let other = h.1 in cc))
  err_decides (Some (Err refusal)) = ((λ _. (refusal, refl)), (λ _. refl))

  none_given_decides : Decides (gives_none consts e) (GivesNoSet consts e)
  none_given_decides =
      Decides-like (not (has_set_type Null e) && is_err_of (set_asked consts e)) (λ h. (h.0, h.1.0, h.1.1)) (λ h. (h.0, (h.1, h.2)))
      (Decides-and (not (has_set_type Null e)) (is_err_of (set_asked consts e))
      (Decides-not (has_set_type Null e) (type_decides Null e)) (err_decides (set_asked consts e)))

  -- the set that is given is the one that is asked for
  pub given_is : (set : ParamFields) → set_given consts e ≡ Some set → EncodingAsksFor consts e set
  given_is set is = by (set_asked consts e) is
    where
      by : (o : Option (Result ParamFields Refusal)) → ok_of o ≡ Some set → o ≡ Some (Ok set)
      by None is = absurd (none-some set is)
      by (Some (Ok s)) is = let same : s ≡ set = cc in ap (λ (x : ParamFields). Some (Ok x)) same
      by (Some (Err r)) is = absurd (none-some set is)

  pub is_given : (set : ParamFields) → EncodingAsksFor consts e set → set_given consts e ≡ Some set
  is_given set is = ap ok_of is

-- ---- the flows that a request is about

names_decide : (kind : Kind) (es : List FlowFields) (fixed : Option ℕ) (sfid : ℕ) → Decides (names kind es fixed sfid) (NamesFlow kind es fixed sfid)
names_decide Dsa es fixed sfid = ((λ is. absurd (false≢true is)), (λ h. absurd h))
names_decide Dsc es fixed sfid =
    any_decides (λ (e : FlowFields). is_same e.sfid (Some sfid)) (λ (e : FlowFields). e.sfid ≡ Some sfid) (λ e. same_decides e.sfid (Some sfid)) es
names_decide Dsd es fixed sfid = same_decides fixed (Some sfid)

module _ (op : Operator) (said : Said) where
  abbrev named_flows : List (Option Flow)
  named_flows = map subject_of (filter (is_named_in said) op.state.flows)

  named_about : (o : Option Flow) → Contains named_flows o → IsAbout op said o
  named_about o has =
      let from = left_from subject_of (is_named_in said) op.state.flows o has in
      subst (λ (x : Option Flow). IsAbout op said x) from.3 (from.0.0, ((names_decide said.kind said.encodings said.sfid from.0.0).0 from.2, from.1))

  about_named : (flow : Flow) → IsAbout op said (Some flow) → Contains named_flows (Some flow)
  about_named flow is =
      left_to subject_of (is_named_in said) op.state.flows (is.0, flow) is.1.1 ((names_decide said.kind said.encodings said.sfid is.0).1 is.1.0)

  pub subject_is : (o : Option Flow) → Contains (subjects_of op said) o → IsAbout op said o
  subject_is o has = by (is_addition said.kind) (addition_decides said.kind) has
    where
      by : (b : Bool) → Decides b (said.kind ≡ Dsa) → Contains ((if b then None ∷ [] else []) ++ named_flows) o → IsAbout op said o
      by false is has = named_about o has
      by true is has = go (contains_cases None named_flows o has)
        where
          go : (None ≡ o) ⊎ Contains named_flows o → IsAbout op said o
          go (inl same) = subst (λ (x : Option Flow). IsAbout op said x) same (is.0 refl)
          go (inr later) = named_about o later

  pub is_subject : (o : Option Flow) → IsAbout op said o → Contains (subjects_of op said) o
  is_subject None is = by (is_addition said.kind) ((addition_decides said.kind).1 is)
    where
      by : (b : Bool) → b ≡ true → Contains ((if b then None ∷ [] else []) ++ named_flows) None
      by true yes_is = contains-here None named_flows
      by false yes_is = absurd (false≢true yes_is)
  is_subject (Some flow) is = by (is_addition said.kind)
    where
      by : (b : Bool) → Contains ((if b then None ∷ [] else []) ++ named_flows) (Some flow)
      by true = contains-later None named_flows (Some flow) (about_named flow is)
      by false = about_named flow is

-- ---- the sets that a request asks for

abbrev pub IsFor : Use → FlowFields → Type 0
IsFor Admit encoding = Admits encoding
IsFor Activate encoding = Activates encoding

for_decides : (u : Use) (e : FlowFields) → Decides (is_for u e) (IsFor u e)
for_decides Admit e = Decides-or (has_set_type Admitted e) (has_set_type AdmittedAndActive e) (type_decides Admitted e) (type_decides AdmittedAndActive e)
for_decides Activate e = Decides-or (has_set_type Active e) (has_set_type AdmittedAndActive e) (type_decides Active e) (type_decides AdmittedAndActive e)

module _ (u : Use) (op : Operator) (said : Said) where
  abbrev IsSet : Option ParamFields → Type 0
  IsSet set = IsSetWhere (IsFor u) op.consts said.encodings set

  abbrev given_sets : List (Option ParamFields)
  given_sets = map (set_given op.consts) (filter (gives_for u op.consts) said.encodings)

  given_set : (o : Option ParamFields) → Contains given_sets o → IsSet o
  given_set o has =
      let from = left_from (set_given op.consts) (gives_for u op.consts) said.encodings o has in
      let both = and_parts (is_for u from.0) (is_some (set_given op.consts from.0)) from.2 in
      by o (set_given op.consts from.0) refl from.3 both.1 from.0 from.1 ((for_decides u from.0).0 both.0) refl
    where
      by : (o p : Option ParamFields) → p ≡ p → p ≡ o → is_some p ≡ true → (e : FlowFields) → Contains said.encodings e → IsFor u e → set_given op.consts e ≡ p → IsSet o
      by None p same is some e has is_for_it given = absurd (false≢true (subst (λ (x : Option ParamFields). is_some x ≡ true) is some))
      by (Some set) p same is some e has is_for_it given =
          any_from (λ (x : FlowFields). IsFor u x × EncodingAsksFor op.consts x set) said.encodings e has (is_for_it, given_is op.consts e set (given ∙ is))

  set_given_in : (set : ParamFields) → IsSet (Some set) → Contains given_sets (Some set)
  set_given_in set is =
      let given = is_given op.consts is.1 set is.4.1 in
      subst (λ (o : Option ParamFields). Contains given_sets o) given
      (left_to (set_given op.consts) (gives_for u op.consts) said.encodings is.1 (is.0, is.2, is.3)
      (and_from (is_for u is.1) (is_some (set_given op.consts is.1)) ((for_decides u is.1).1 is.4.0) (ap (λ (o : Option ParamFields). is_some o) given)))

  abbrev one_for_decides : Decides (list_any (is_for u) said.encodings) (Any (IsFor u) said.encodings)
  one_for_decides = any_decides (is_for u) (IsFor u) (for_decides u) said.encodings

  pub set_is : (o : Option ParamFields) → Contains (encoding_sets u op said) o → IsSet o
  set_is o has = by (list_any (is_for u) said.encodings) refl has
    where
      by : (b : Bool) → list_any (is_for u) said.encodings ≡ b → Contains ((if b then [] else None ∷ []) ++ given_sets) o → IsSet o
      by true is has = given_set o has
      by false is has = go (contains_cases None given_sets o has)
        where
          fails : (e : FlowFields) → Contains said.encodings e → ¬ IsFor u e
          fails e has_e is_e = false≢true (sym is ∙ one_for_decides.1 (any_from (IsFor u) said.encodings e has_e is_e))

          go : (None ≡ o) ⊎ Contains given_sets o → IsSet o
          go (inl same) = subst IsSet same (all_of (λ (e : FlowFields). ¬ IsFor u e) said.encodings fails)
          go (inr later) = given_set o later

  pub is_set : (o : Option ParamFields) → IsSet o → Contains (encoding_sets u op said) o
  is_set None is = by (list_any (is_for u) said.encodings) refl
    where
      by : (b : Bool) → list_any (is_for u) said.encodings ≡ b → Contains ((if b then [] else None ∷ []) ++ given_sets) None
      by true some = let any = one_for_decides.0 some in absurd (All-contains (λ (e : FlowFields). ¬ IsFor u e) said.encodings any.1 is (any.0, any.2, any.3) any.4)
      by false none = contains-here None given_sets
  is_set (Some set) is = by (list_any (is_for u) said.encodings)
    where
      by : (b : Bool) → Contains ((if b then [] else None ∷ []) ++ given_sets) (Some set)
      by true = set_given_in set is
      by false = contains-later None given_sets (Some set) (set_given_in set is)

-- ---- the checks

abbrev IsAnother : Modem → Option Flow → Type 0
IsAnother modem None = ⊥
IsAnother modem (Some flow) = flow.modem ≢ modem

another_decides : (modem : Modem) (o : Option Flow) → Decides (is_of_another modem o) (IsAnother modem o)
another_decides modem None = ((λ is. absurd (false≢true is)), (λ h. absurd h))
another_decides modem (Some flow) = Decides-not (same_modem flow.modem modem) (modem_decides flow.modem modem)

abbrev Waits : Option Flow → Type 0
Waits None = ⊥
Waits (Some flow) = IsSome flow.pending

waits_decides : (o : Option Flow) → Decides (flow_waits o) (Waits o)
waits_decides None = ((λ is. absurd (false≢true is)), (λ h. absurd h))
waits_decides (Some flow) = some_decides flow.pending

within_decides : (a b : ParamFields) → Decides (is_some (first_failing a b)) (¬ IsWithin a b)
within_decides a b = by (first_failing a b) refl
  where
    by : (o : Option ℕ) → first_failing a b ≡ o → Decides (is_some o) (¬ IsWithin a b)
    by None is = ((λ some. absurd (false≢true some)), (λ out. absurd (out (is_within a b is))))
    by (Some n) is = ((λ _ within. none-some n (sym (nothing_fails a b within) ∙ is)), (λ _. refl))

abbrev IsOutside : Option ParamFields → Option ParamFields → Type 0
IsOutside None b = ⊥
IsOutside (Some a) None = ⊥
IsOutside (Some a) (Some b) = ¬ IsWithin a b

outside_decides : (a b : Option ParamFields) → Decides (is_outside a b) (IsOutside a b)
outside_decides None b = ((λ is. absurd (false≢true is)), (λ h. absurd h))
outside_decides (Some a) None = ((λ is. absurd (false≢true is)), (λ h. absurd h))
outside_decides (Some a) (Some b) = within_decides a b

used_up_decides : (range : Numbers) (used : List ℕ) → Decides (is_none (least_free_of range used)) (IsUsedUp range used)
used_up_decides range used = by (least_free_of range used) refl
  where
    by : (o : Option ℕ) → least_free_of range used ≡ o → Decides (is_none o) (IsUsedUp range used)
    by None is = ((λ _. used_up range used is), (λ _. refl))
    by (Some n) is = ((λ none. absurd (false≢true none)), (λ up. absurd (not_used_up range used n (least_one range used n is) up)))

over_decides : (op : Operator) (n : ℕ) → Decides (is_over_budget op n) (IsOverBudget op n)
over_decides op n = Decides-or (nat_lt op.state.share.budget n) (is_over_next op.state.next n) (Decides-ltb op.state.share.budget n) (by op.state.next)
  where
    by : (o : Option NextShare) → Decides (is_over_next o n) ((next : NextShare) × (o ≡ Some next) × (next.share.budget < n))
    by None = ((λ is. absurd (false≢true is)), (λ h. absurd (none-some h.0 h.1)))
    by (Some next) =
        Decides-like (nat_lt next.share.budget n) (λ over. (next, refl, over)) (λ h. let same : h.0 ≡ next = let is = h.1 in cc in subst (λ (s : NextShare). s.share.budget < n) same h.2) (Decides-ltb next.share.budget n)

module _ (op : Operator) (modem : Modem) (said : Said) where
  abbrev Right : Check → Type 0
  Right check = Decides (does_hold check op modem said) (CheckApplies check op modem said)

  -- what holds of one that a request is about holds of a flow that it names
  of_flow : (P : Option Flow → Type 0) → (P None → ⊥) → Any P (subjects_of op said) → (sfid : ℕ) × (flow : Flow) × IsOfFlow op said sfid flow × P (Some flow)
  of_flow P never any = by any.1 (subject_is op said any.1 (any.0, any.2, any.3)) any.4
    where
      by : (o : Option Flow) → IsAbout op said o → P o → (sfid : ℕ) × (flow : Flow) × IsOfFlow op said sfid flow × P (Some flow)
      by None about holds = absurd (never holds)
      by (Some flow) about holds = (about.0, flow, about.1, holds)

  to_subject : (P : Option Flow → Type 0) (o : Option Flow) → IsAbout op said o → P o → Any P (subjects_of op said)
  to_subject P o about holds = any_from P (subjects_of op said) o (is_subject op said o about) holds

  to_set : (u : Use) (P : Option ParamFields → Type 0) (o : Option ParamFields) → IsSetWhere (IsFor u) op.consts said.encodings o → P o → Any P (encoding_sets u op said)
  to_set u P o is holds = any_from P (encoding_sets u op said) o (is_set u op said o is) holds

  differ_right : Right checks.IdentifiersDiffer
  differ_right =
      Decides-like (do_differ said.kind said.encodings)
      (λ h. (h.1, h.4.1, (h.0, h.2, h.3), (h.4.0, h.4.2, h.4.3), h.4.4))
      (λ h. any_from (λ (a : FlowFields). Any (λ (b : FlowFields). identifier said.kind a ≢ identifier said.kind b) said.encodings) said.encodings h.0 h.2
      (any_from (λ (b : FlowFields). identifier said.kind h.0 ≢ identifier said.kind b) said.encodings h.1 h.3 h.4))
      (any_decides (is_alone said.kind said.encodings) (λ (a : FlowFields). Any (λ (b : FlowFields). identifier said.kind a ≢ identifier said.kind b) said.encodings)
      (λ a. any_decides (differs_from said.kind a) (λ (b : FlowFields). identifier said.kind a ≢ identifier said.kind b) (differ_decides said.kind a) said.encodings) said.encodings)

  abbrev used : List ℕ
  used = sfids_of op.state.flows

  abbrev Unknown : Kind → Type 0
  Unknown kind = (sfid : ℕ) × NamesFlow kind said.encodings said.sfid sfid × (¬ Contains used sfid)

  unknown_flow_right : Right checks.UnknownFlow
  unknown_flow_right = by said.kind refl
    where
      used_decides : (n : ℕ) → Decides (list_any (λ k. k == n) used) (Contains used n)
      used_decides n =
          Decides-like (list_any (λ (k : ℕ). k == n) used) (λ any. subst (λ (k : ℕ). Contains used k) any.4 (any.0, any.2, any.3))
          (λ has. any_from (λ (k : ℕ). k ≡ n) used n has refl) (any_decides (λ (k : ℕ). k == n) (λ (k : ℕ). k ≡ n) (λ k. Decides-eqb k n) used)

      unknown_decides : (o : Option ℕ) → Decides (is_unknown used o) ((n : ℕ) × (o ≡ Some n) × (¬ Contains used n))
      unknown_decides None = ((λ is. absurd (false≢true is)), (λ h. absurd (none-some h.0 h.1)))
      unknown_decides (Some sfid) =
          Decides-like (not (list_any (λ (k : ℕ). k == sfid) used)) (λ out. (sfid, refl, out))
          (λ h. let same : h.0 ≡ sfid = let is = h.1 in cc in subst (λ (n : ℕ). ¬ Contains used n) same h.2)
          (Decides-not (list_any (λ (k : ℕ). k == sfid) used) (used_decides sfid))

      by : (kind : Kind) → said.kind ≡ kind → Decides (names_unknown used kind said.encodings said.sfid) (Unknown kind)
      by Dsa is = ((λ h. absurd (false≢true h)), (λ h. absurd h.1))
      by Dsc is =
          Decides-like (list_any (λ (e : FlowFields). is_unknown used e.sfid) said.encodings)
          (λ any. (any.4.0, (any.0, any.1, any.2, any.3, any.4.1), any.4.2))
          (λ h. any_from (λ (e : FlowFields). (n : ℕ) × (e.sfid ≡ Some n) × (¬ Contains used n)) said.encodings h.1.1 (h.1.0, h.1.2, h.1.3) (h.0, h.1.4, h.2))
          (any_decides (λ (e : FlowFields). is_unknown used e.sfid) (λ (e : FlowFields). (n : ℕ) × (e.sfid ≡ Some n) × (¬ Contains used n)) (λ e. unknown_decides e.sfid) said.encodings)
      by Dsd is = unknown_decides said.sfid

  not_owner_right : Right checks.NotOwner
  not_owner_right =
      Decides-like (list_any (is_of_another modem) (subjects_of op said)) (of_flow (IsAnother modem) (λ h. h)) (λ h. to_subject (IsAnother modem) (Some h.1) (h.0, h.2) h.3)
      (any_decides (is_of_another modem) (IsAnother modem) (another_decides modem) (subjects_of op said))

  flow_waits_right : Right checks.FlowWaits
  flow_waits_right =
      Decides-like (list_any flow_waits (subjects_of op said)) (of_flow Waits (λ h. h)) (λ h. to_subject Waits (Some h.1) (h.0, h.2) h.3)
      (any_decides flow_waits Waits waits_decides (subjects_of op said))

  -- the sets that are to be admitted, and those that are to be active
  abbrev admitted : List (Option ParamFields)
  admitted = encoding_sets Admit op said

  abbrev active : List (Option ParamFields)
  active = encoding_sets Activate op said

  active_right : Right checks.ActiveNotWithin
  active_right =
      Decides-like (list_any (is_outside_one admitted) active)
      (λ h. go h.1 h.4.1 (set_is Activate op said h.1 (h.0, h.2, h.3)) (set_is Admit op said h.4.1 (h.4.0, h.4.2, h.4.3)) h.4.4)
      (λ h. to_set Activate (λ (a : Option ParamFields). Any (IsOutside a) admitted) (Some h.0) h.2 (to_set Admit (IsOutside (Some h.0)) (Some h.1) h.3 h.4))
      (any_decides (is_outside_one admitted) (λ (a : Option ParamFields). Any (IsOutside a) admitted) (λ a. any_decides (is_outside a) (IsOutside a) (outside_decides a) admitted) active)
    where
      go : (a b : Option ParamFields) → IsToBeActive op said a → IsToBeAdmitted op said b → IsOutside a b → CheckApplies checks.ActiveNotWithin op modem said
      go None b is_active is_admitted out = absurd out
      go (Some a) None is_active is_admitted out = absurd out
      go (Some a) (Some b) is_active is_admitted out = (a, b, is_active, is_admitted, out)

  abbrev Exceeds : Option Flow → Type 0
  Exceeds flow = Any (λ (set : Option ParamFields). IsOutside set (provisioned_of flow)) admitted

  admitted_right : Right checks.AdmittedNotWithin
  admitted_right =
      Decides-like (list_any (one_exceeds admitted) (subjects_of op said))
      (λ h. go h.1 h.4.1 (subject_is op said h.1 (h.0, h.2, h.3)) (set_is Admit op said h.4.1 (h.4.0, h.4.2, h.4.3)) h.4.4)
      (λ h. to_subject Exceeds (Some h.0) h.3 (to_set Admit (λ (set : Option ParamFields). IsOutside set (provisioned_of (Some h.0))) (Some h.1) h.4
      (subst (λ (o : Option ParamFields). IsOutside (Some h.1) o) (sym h.5) h.6)))
      (any_decides (one_exceeds admitted) Exceeds
      (λ flow. any_decides (λ (set : Option ParamFields). is_outside set (provisioned_of flow)) (λ (set : Option ParamFields). IsOutside set (provisioned_of flow))
      (λ set. outside_decides set (provisioned_of flow)) admitted) (subjects_of op said))
    where
      of_set : (flow : Flow) (set p : Option ParamFields) → flow.sets.provisioned ≡ p → IsAbout op said (Some flow) → IsToBeAdmitted op said set → IsOutside set p → CheckApplies checks.AdmittedNotWithin op modem said
      of_set flow None p is about to_admit out = absurd out
      of_set flow (Some a) None is about to_admit out = absurd out
      of_set flow (Some a) (Some b) is about to_admit out = (flow, a, b, about, to_admit, is, out)

      go : (flow : Option Flow) (set : Option ParamFields) → IsAbout op said flow → IsToBeAdmitted op said set → IsOutside set (provisioned_of flow) → CheckApplies checks.AdmittedNotWithin op modem said
      go None None about to_admit out = absurd out
      go None (Some a) about to_admit out = absurd out
      go (Some flow) set about to_admit out = of_set flow set flow.sets.provisioned refl about to_admit out

  no_sid_right : Right checks.NoSidFree
  no_sid_right =
      Decides-like (is_none (least_free_of op.row.sids (sids_of op.state.flows)) && (list_any has_no_sid (subjects_of op said) && list_any is_some admitted))
      (λ h. go h.1.1.1 (set_is Admit op said h.1.1.1 (h.1.1.0, h.1.1.2, h.1.1.3)) h.1.1.4 h.1.0.1 (subject_is op said h.1.0.1 (h.1.0.0, h.1.0.2, h.1.0.3)) h.1.0.4 h.0)
      (λ h. (h.5, (to_subject (λ (flow : Option Flow). sid_if flow ≡ None) h.0 h.2 h.4, to_set Admit (λ (set : Option ParamFields). IsSome set) (Some h.1) h.3 refl)))
      (Decides-and (is_none (least_free_of op.row.sids (sids_of op.state.flows))) (list_any has_no_sid (subjects_of op said) && list_any is_some admitted)
      (used_up_decides op.row.sids (sids_of op.state.flows))
      (Decides-and (list_any has_no_sid (subjects_of op said)) (list_any is_some admitted)
      (any_decides has_no_sid (λ (flow : Option Flow). sid_if flow ≡ None) (λ flow. none_decides (sid_if flow)) (subjects_of op said))
      (any_decides is_some (λ (set : Option ParamFields). IsSome set) (λ set. some_decides set) admitted)))
    where
      go : (set : Option ParamFields) → IsToBeAdmitted op said set → IsSome set → (flow : Option Flow) → IsAbout op said flow → sid_if flow ≡ None
          → IsUsedUp op.row.sids (sids_of op.state.flows) → CheckApplies checks.NoSidFree op modem said
      go None to_admit some flow about bare up = absurd (false≢true some)
      go (Some set) to_admit some flow about bare up = (flow, set, about, to_admit, bare, up)

  module _ (part : Budget → ℕ) (p : ℕ → Bool) (P : ℕ → Type 0) (each : (n : ℕ) → Decides (p n) (P n)) where
    abbrev Over : Option Flow → Option ParamFields → Type 0
    Over flow set = P (would_commit part op flow set)

    abbrev one_over : Option Flow → Bool
    one_over flow = list_any (λ (set : Option ParamFields). p (would_commit part op flow set)) admitted

    room_right : Decides (not (is_deletion said.kind) && list_any one_over (subjects_of op said)) ((n : ℕ) × (said.kind ≢ Dsd) × WouldCommit part op said n × P n)
    room_right =
        Decides-like (not (is_deletion said.kind) && list_any one_over (subjects_of op said))
        (λ h. (
          would_commit part op h.1.1 h.1.4.1,
          h.0,
          (h.1.1, h.1.4.1, subject_is op said h.1.1 (h.1.0, h.1.2, h.1.3), set_is Admit op said h.1.4.1 (h.1.4.0, h.1.4.2, h.1.4.3), refl),
          h.1.4.4,
        ))
        (λ h. (h.1, to_subject (λ (flow : Option Flow). Any (Over flow) admitted) h.2.0 h.2.2 (to_set Admit (Over h.2.0) h.2.1 h.2.3 (subst P h.2.4 h.3))))
        (Decides-and (not (is_deletion said.kind)) (list_any one_over (subjects_of op said)) (Decides-not (is_deletion said.kind) (deletion_decides said.kind))
        (any_decides one_over (λ (flow : Option Flow). Any (Over flow) admitted)
        (λ flow. any_decides (λ (set : Option ParamFields). p (would_commit part op flow set)) (Over flow) (λ set. each (would_commit part op flow set)) admitted) (subjects_of op said)))

  -- each test decides its check
  pub right : (check : Check) → Right check
  right checks.UnknownClass = any_decides (is_unclassed op.consts.classes) (NamesUnknownClass op.consts.classes) (unclassed_decides op) said.encodings
  right checks.NoEncoding =
      Decides-and (not (is_deletion said.kind)) (is_empty said.encodings) (Decides-not (is_deletion said.kind) (deletion_decides said.kind)) (empty_decides said.encodings)
  right checks.IdentifiersDiffer = differ_right
  right checks.NotTogether = apart_decides said.encodings
  right checks.NoIdentifier = any_decides (has_no_identifier said.kind) (λ (e : FlowFields). identifier said.kind e ≡ None) (no_identifier_decides said.kind) said.encodings
  right checks.UnknownFlow = unknown_flow_right
  right checks.NotOwner = not_owner_right
  right checks.FlowWaits = flow_waits_right
  right checks.WrongSetType = wrong_decides said.kind said.encodings
  right checks.NoParameterSet = any_decides (gives_none op.consts) (GivesNoSet op.consts) (none_given_decides op.consts) said.encodings
  right checks.ActiveNotWithin = active_right
  right checks.AdmittedNotWithin = admitted_right
  right checks.FlowsFull =
      Decides-and (is_addition said.kind) (nat_le op.row.flows (length op.state.flows)) (addition_decides said.kind) (le_decides op.row.flows (length op.state.flows))
  right checks.NoSfidFree =
      Decides-and (is_addition said.kind) (is_none (least_free_of op.row.sfids (sfids_of op.state.flows))) (addition_decides said.kind) (used_up_decides op.row.sfids (sfids_of op.state.flows))
  right checks.NoSidFree = no_sid_right
  right checks.ElementsOver = room_right (λ need. need.elements) (λ n. nat_lt op.row.elements n) (λ n. op.row.elements < n) (λ n. Decides-ltb op.row.elements n)
  right checks.MinislotsOver = room_right (λ need. need.minislots) (is_over_budget op) (IsOverBudget op) (over_decides op)
  right checks.Accepted = ((λ _. tt), (λ _. refl))
