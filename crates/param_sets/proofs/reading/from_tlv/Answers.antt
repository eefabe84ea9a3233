use Rattle.std.proofs.Common.{◌≡◌, ◌↔◌, ℕ, Result, Ok, Err, None, ap, sym, subst, ◌∙◌}
use Rattle.param_sets.proofs.Common.{scheduling_type_subtype, FlowFields, RejectInvalidForContext, RejectRequiredParameterNotPresent, scheduling_of, parameter_set_of, AsksFor, IsLeastMissing, UnitSizes, ParamFields, Refusal}
use Rattle.param_sets.proofs.AskedLemmas.{answered_is_asked, answered_is_set, asked_is_answered}
use Rattle.param_sets.proofs.RefusalLemmas.{is_unknown, is_missing}
use Rattle.param_sets.proofs.reading.from_tlv.Goals as goal

module _ (flow : FlowFields) (units : UnitSizes) (r : Result ParamFields Refusal) (here : r ≡ parameter_set_of flow units) where
  only : (set : ParamFields) → AsksFor flow units set → r ≡ Ok set
  only set asks = here ∙ asked_is_answered flow units set asks

  unknown : (r ≡ Err (record { code = RejectInvalidForContext; subtype = scheduling_type_subtype })) ↔ (scheduling_of flow.scheduling_type ≡ None)
  unknown = subst (λ x. (x ≡ Err (record { code = RejectInvalidForContext; subtype = scheduling_type_subtype })) ↔ (scheduling_of flow.scheduling_type ≡ None)) (sym here) (is_unknown flow units)

  missing : (subtype : ℕ) → (r ≡ Err (record { code = RejectRequiredParameterNotPresent; subtype = subtype })) ↔ IsLeastMissing flow subtype
  missing subtype = subst (λ x. (x ≡ Err (record { code = RejectRequiredParameterNotPresent; subtype = subtype })) ↔ IsLeastMissing flow subtype) (sym here) (is_missing flow units subtype)

pub new-requires : goal.new-requires
new-requires c =
    answered_is_set c.get_fields-stated.result c.args.units.now c.in-Ok.fields c.get_fields-stated.ensures.in_range (sym c.in-Ok.ensures)

pub returns-in-Ok : goal.returns-in-Ok
returns-in-Ok c =
    let flow = c.args.flow.now in
    let units = c.args.units.now in
    let here : Ok c.new.result ≡ parameter_set_of flow units = ap Ok c.new.ensures ∙ (c.in-Ok.ensures ∙ ap (λ f. parameter_set_of f units) c.get_fields-stated.ensures.value) in
    record {
      exact = here;
      asked = rw (c.new.ensures, ← c.get_fields-stated.ensures.value)
          (answered_is_asked c.get_fields-stated.result units c.in-Ok.fields c.get_fields-stated.ensures.in_range (sym c.in-Ok.ensures));
      only = only flow units _ here;
      unknown = unknown flow units _ here;
      missing = missing flow units _ here;
    }

pub returns-in-Err : goal.returns-in-Err
returns-in-Err c =
    let flow = c.args.flow.now in
    let units = c.args.units.now in
    let here : Err c.in-Err.refusal ≡ parameter_set_of flow units = c.in-Err.ensures ∙ ap (λ f. parameter_set_of f units) c.get_fields-stated.ensures.value in
    record {
      exact = here;
      asked = tt;
      only = only flow units _ here;
      unknown = unknown flow units _ here;
      missing = missing flow units _ here;
    }
