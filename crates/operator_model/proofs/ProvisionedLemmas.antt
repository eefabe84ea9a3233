-- Provisioned flows: their sets are nested and of their kinds, and how they stand as flows.
use Rattle.std.proofs.Common.{◌≡◌, ℕ, List, [], ◌∷◌, Option, Some, None, Result, Ok, Err, IfOk, IfSome, map, refl, ap}
use Rattle.operator_model.proofs.Common.{cons_option, Ordering, Less, Equal, Greater, nat_cmp, match_ordering, insert_entry, set_type_of, FlowFields, SetType, Null, Provisioned, Admitted, ProvisionedAndAdmitted, Active, AdmittedAndActive, AllSets, UnitSizes, parameter_set_of, AreNested, ParamFields, Refusal, SetsFields, within_self, ConstsFields, asked_of, sets_of_type, sets_of_set, sets_over_class, sets_of_flow, OpenedFlow, opened_sfids, opened_sids, Flow, sfids_of, sids_of, with_flow, opened_flow, KeepsItsKind, AreOfTheirKinds}
use Rattle.tlv24.specs.declared.fault.FlowFault.{FlowFault}
use Rattle.operator_model.proofs.KindLemmas.{read_kind}

-- ---- what is provisioned is nested, and of its kind

pub record AreFit (sets : SetsFields) : Type 0 where
  pub nested : AreNested sets
  pub kinds : AreOfTheirKinds sets

by_type : (set_type : Option SetType) (set : ParamFields) → KeepsItsKind set → IfSome (sets_of_type set_type set) AreFit
by_type (Some Provisioned) set kind = record { nested = record { active = tt; admitted = tt }; kinds = record { admitted = tt; active = tt } }
by_type (Some ProvisionedAndAdmitted) set kind = record { nested = record { active = tt; admitted = within_self set }; kinds = record { admitted = kind; active = tt } }
by_type (Some AllSets) set kind = record { nested = record { active = within_self set; admitted = within_self set }; kinds = record { admitted = kind; active = kind } }
by_type (Some Null) set kind = tt
by_type (Some Admitted) set kind = tt
by_type (Some Active) set kind = tt
by_type (Some AdmittedAndActive) set kind = tt
by_type None set kind = tt

by_set : (set_type : Option ℕ) (set : Result ParamFields Refusal) → IfOk set KeepsItsKind → IfSome (sets_of_set set_type set) AreFit
by_set (Some n) (Ok set) kind = by_type (set_type_of n) set kind
by_set (Some n) (Err refusal) kind = tt
by_set None set kind = tt

by_class : (units : UnitSizes) (set_type : Option ℕ) (asked : Option FlowFields) → IfSome (sets_over_class units set_type asked) AreFit
by_class units set_type None = tt
by_class units set_type (Some asked) = by_set set_type (parameter_set_of asked units) (read_kind asked units)

pub by_flow : (consts : ConstsFields) (stated : Result FlowFields FlowFault) → IfSome (sets_of_flow consts stated) AreFit
by_flow consts (Err fault) = tt
by_flow consts (Ok stated) = by_class consts.units stated.set_type (asked_of consts.classes stated)

-- ---- as flows

module _ (frame : ℕ) where
  abbrev pub as_flow : ℕ × OpenedFlow → ℕ × Flow
  as_flow entry = (entry.0, opened_flow frame entry.1)

  abbrev pub as_flows : List (ℕ × OpenedFlow) → List (ℕ × Flow)
  as_flows entries = map as_flow entries

  pub same_sfids : (entries : List (ℕ × OpenedFlow)) → sfids_of (as_flows entries) ≡ opened_sfids entries
  same_sfids [] = refl
  same_sfids (e ∷ entries) = ap (λ (ns : List ℕ). e.0 ∷ ns) (same_sfids entries)

  pub same_sids : (entries : List (ℕ × OpenedFlow)) → sids_of (as_flows entries) ≡ opened_sids entries
  same_sids [] = refl
  same_sids (e ∷ entries) = ap (λ (ns : List ℕ). cons_option e.1.sid ns) (same_sids entries)

  pub flows-insert : (entries : List (ℕ × OpenedFlow)) (k : ℕ) (v : OpenedFlow) → as_flows (insert_entry nat_cmp entries k v) ≡ with_flow k (opened_flow frame v) (as_flows entries)
  flows-insert [] k v = refl
  flows-insert (e ∷ entries) k v = by (nat_cmp k e.0) (flows-insert entries k v)
    where
      by : (o : Ordering) → as_flows (insert_entry nat_cmp entries k v) ≡ with_flow k (opened_flow frame v) (as_flows entries)
          → as_flows (match_ordering o ((k, v) ∷ e ∷ entries) ((e.0, v) ∷ entries) (e ∷ insert_entry nat_cmp entries k v))
          ≡ match_ordering o ((k, opened_flow frame v) ∷ as_flow e ∷ as_flows entries) ((e.0, opened_flow frame v) ∷ as_flows entries) (as_flow e ∷ with_flow k (opened_flow frame v) (as_flows entries))
      by Less more = refl
      by Equal more = refl
      by Greater more = ap (λ (fs : List (ℕ × Flow)). as_flow e ∷ fs) more
