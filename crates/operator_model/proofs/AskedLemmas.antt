-- What is asked for is nested, and of a flow that waits for nothing.
use Rattle.std.proofs.Common.{◌≡◌, ℕ, not, false, List, [], ◌∷◌, Option, Some, None, Result, Ok, Err, IfOk, IfSome, is_some, refl}
use Rattle.operator_model.proofs.Common.{cond_both, set_type_of, FlowFields, SetType, Null, Provisioned, Admitted, ProvisionedAndAdmitted, Active, AdmittedAndActive, AllSets, ReplyFields, parameter_set_of, IsWithinOrNull, AreNested, IsWithinProvisioned, ParamFields, SetsFields, Refusal, is_within, ConstsFields, asked_of, same_modem, Flow, Pending, flow_at, Addition, Change, KeepsItsKind, AreOfTheirKinds}
use Rattle.lists.specs.Results.{◌>>=◌}
use Rattle.tlv24.specs.Subtype.{reference_subtype, sfid_subtype}
use Rattle.dsx_messages.specs.declared.code.Code.TheVariants as codes
use Rattle.operator_model.specs.declared.verdict.Transaction.{Transaction}
use Rattle.operator_model.specs.declared.verdict.AskedSets.{AskedSets}
use Rattle.operator_model.specs.Asked.{stated_or_refusal, refusal_naming, first_encoding, free_flow, has_set_type, set_or_refusal, set_over_class, set_of, is_change, asked_by_type, asked_by_one, asked_by_two, asked_sets, failing_active, failing_admitted, nested_unless, nested_sets, addition_of, change_of}
use Rattle.operator_model.proofs.KindLemmas.{read_kind}

-- what one check gives the next one takes over
and_then : {A B : Type 0} (Q : A → Type 0) (P : B → Type 0) (r : Result A ReplyFields) (f : A → Result B ReplyFields) → IfOk r Q → ((x : A) → Q x → IfOk (f x) P) → IfOk (r >>= f) P
and_then Q P (Ok x) f h next = next x h
and_then Q P (Err reply) f h next = tt

anything : {A : Type 0} (r : Result A ReplyFields) → IfOk r (λ _. Unit {0})
anything (Ok x) = tt
anything (Err reply) = tt

-- ---- the sets that are asked for

-- each keeps what its kind of scheduling keeps
abbrev AreKept : AskedSets → Type 0
AreKept asked = IfSome asked.admitted KeepsItsKind × IfSome asked.active KeepsItsKind

module _ (t : Transaction) (consts : ConstsFields) where
  set-kind : (flow : FlowFields) → IfOk (set_of t consts flow) KeepsItsKind
  unfolding set_of
  set-kind flow = over (asked_of consts.classes flow)
    where
      unless : (r : Result ParamFields Refusal) → IfOk r KeepsItsKind → IfOk (set_or_refusal t flow r) KeepsItsKind
      unless (Ok set) h = h
      unless (Err refusal) h = tt

      over : (o : Option FlowFields) → IfOk (set_over_class t consts.units flow o) KeepsItsKind
      over None = tt
      over (Some asked) = unless (parameter_set_of asked consts.units) (read_kind asked consts.units)

  by_one : (flow : FlowFields) (set_type : Option SetType) → IfOk (asked_by_type t consts flow set_type) AreKept
  by_one flow (Some Admitted) = and_then KeepsItsKind AreKept (set_of t consts flow) _ (set-kind flow) (λ set h. (h, tt))
  by_one flow (Some AdmittedAndActive) = and_then KeepsItsKind AreKept (set_of t consts flow) _ (set-kind flow) (λ set h. (h, h))
  by_one flow (Some Null) = cond_both (is_change t.kind) _ _ (λ (r : Result AskedSets ReplyFields). IfOk r AreKept) (λ _. (tt, tt)) (λ _. tt)
  by_one flow (Some Provisioned) = tt
  by_one flow (Some ProvisionedAndAdmitted) = tt
  by_one flow (Some Active) = tt
  by_one flow (Some AllSets) = tt
  by_one flow None = tt

  by_two : (first second : FlowFields) → IfOk (asked_by_two t consts first second) AreKept
  by_two first second =
      and_then KeepsItsKind AreKept (set_of t consts first) _ (set-kind first) (λ a is_a.
      and_then KeepsItsKind AreKept (set_of t consts second) _ (set-kind second) (λ b is_b.
      cond_both (has_set_type Admitted first) _ _ AreKept (λ _. (is_a, is_b)) (λ _. (is_b, is_a))))

  asked-AreKept : (encodings : List FlowFields) → IfOk (asked_sets t consts encodings) AreKept
  unfolding asked_sets
  asked-AreKept [] = tt
  asked-AreKept (flow ∷ []) = by flow.set_type
    where
      by : (o : Option ℕ) → IfOk (asked_by_one t consts flow o) AreKept
      by None = tt
      by (Some n) = by_one flow (set_type_of n)
  asked-AreKept (first ∷ second ∷ []) = by_two first second
  asked-AreKept (first ∷ second ∷ third ∷ others) = tt

-- ---- the sets

active_within : (active admitted : Option ParamFields) → failing_active active admitted ≡ None → IsWithinOrNull active admitted
active_within None admitted none = tt
active_within (Some active) None none = cc
active_within (Some active) (Some admitted) none = is_within active admitted none

admitted_within : (admitted provisioned : Option ParamFields) → failing_admitted admitted provisioned ≡ None → IsWithinProvisioned admitted provisioned
admitted_within None None none = tt
admitted_within None (Some provisioned) none = tt
admitted_within (Some admitted) None none = tt
admitted_within (Some admitted) (Some provisioned) none = is_within admitted provisioned none

-- sets that are asked for are nested, beside the same provisioned set
pub record AreAsked (provisioned : Option ParamFields) (sets : SetsFields) : Type 0 where
  pub nested : AreNested sets
  pub kinds : AreOfTheirKinds sets
  pub same : sets.provisioned ≡ provisioned

nested-AreAsked : (t : Transaction) (first : FlowFields) (provisioned : Option ParamFields) (asked : AskedSets) → AreKept asked → IfOk (nested_sets t first provisioned asked) (AreAsked provisioned)
unfolding nested_sets
nested-AreAsked t first provisioned asked kept = by (failing_active asked.active asked.admitted) (failing_admitted asked.admitted provisioned) refl refl
  where
    by : (a b : Option ℕ) → failing_active asked.active asked.admitted ≡ a → failing_admitted asked.admitted provisioned ≡ b → IfOk (nested_unless t first provisioned asked a b) (AreAsked provisioned)
    by (Some subtype) b is_a is_b = tt
    by None (Some subtype) is_a is_b = tt
    by None None is_a is_b = record {
      nested = record { active = active_within asked.active asked.admitted is_a; admitted = admitted_within asked.admitted provisioned is_b };
      kinds = record { admitted = kept.0; active = kept.1 };
      same = refl;
    }

-- ---- the flow

-- the flow of this SFID, which waits for nothing
pub record IsFreeFlow (o : Option Flow) (flow : Flow) : Type 0 where
  pub there : o ≡ Some flow
  pub free : flow.pending ≡ None

no_pending : (o : Option Pending) → is_some o ≡ false → o ≡ None
no_pending None is = refl
no_pending (Some pending) is = cc

pub free-IsFreeFlow : (t : Transaction) (o : Option Flow) → IfOk (free_flow t o) (IsFreeFlow o)
free-IsFreeFlow t None = tt
free-IsFreeFlow t (Some flow) =
    cond_both (not (same_modem flow.modem t.modem)) _ _ (λ (r : Result Flow ReplyFields). IfOk r (IsFreeFlow (Some flow))) (λ _. tt)
    (λ _. cond_both (is_some flow.pending) _ _ (λ (r : Result Flow ReplyFields). IfOk r (IsFreeFlow (Some flow))) (λ _. tt)
    (λ none. record { there = refl; free = no_pending flow.pending none }))

-- ---- the checks in their order

abbrev pub IsAddition : Addition → Type 0
IsAddition addition = AreAsked None addition.sets

pub addition-IsAddition : (consts : ConstsFields) (t : Transaction) (encodings : List FlowFields) → IfOk (addition_of consts t encodings) IsAddition
unfolding addition_of
addition-IsAddition consts t encodings =
    and_then (λ _. Unit {0}) IsAddition (first_encoding t consts.classes encodings) _ (anything (first_encoding t consts.classes encodings)) (λ first _.
    and_then (λ _. Unit {0}) IsAddition (stated_or_refusal first.reference (refusal_naming t codes.RejectRequiredParameterNotPresent first reference_subtype)) _ (anything (stated_or_refusal first.reference (refusal_naming t codes.RejectRequiredParameterNotPresent first reference_subtype))) (λ reference _.
    and_then AreKept IsAddition (asked_sets t consts encodings) _ (asked-AreKept t consts encodings) (λ asked kept.
    and_then (AreAsked None) IsAddition (nested_sets t first None asked) _ (nested-AreAsked t first None asked kept) (λ sets h. h))))

pub record IsChange (flows : List (ℕ × Flow)) (change : Change) : Type 0 where
  pub flow : IsFreeFlow (flow_at change.sfid flows) change.flow
  pub sets : AreAsked change.flow.sets.provisioned change.sets

pub change-IsChange : (consts : ConstsFields) (flows : List (ℕ × Flow)) (t : Transaction) (encodings : List FlowFields) → IfOk (change_of consts flows t encodings) (IsChange flows)
unfolding change_of
change-IsChange consts flows t encodings =
    and_then (λ _. Unit {0}) (IsChange flows) (first_encoding t consts.classes encodings) _ (anything (first_encoding t consts.classes encodings)) (λ first _.
    and_then (λ _. Unit {0}) (IsChange flows) (stated_or_refusal first.sfid (refusal_naming t codes.RejectRequiredParameterNotPresent first sfid_subtype)) _ (anything (stated_or_refusal first.sfid (refusal_naming t codes.RejectRequiredParameterNotPresent first sfid_subtype))) (λ sfid _.
    and_then (IsFreeFlow (flow_at sfid flows)) (IsChange flows) (free_flow t (flow_at sfid flows)) _ (free-IsFreeFlow t (flow_at sfid flows)) (λ flow free.
    and_then AreKept (IsChange flows) (asked_sets t consts encodings) _ (asked-AreKept t consts encodings) (λ asked kept.
    and_then (AreAsked flow.sets.provisioned) (IsChange flows) (nested_sets t first flow.sets.provisioned asked) _ (nested-AreAsked t first flow.sets.provisioned asked kept) (λ sets h. record { flow = free; sets = h })))))
