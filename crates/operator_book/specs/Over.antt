-- The sets of a flow with those that a request asks for (implementation-specific).
use Rattle.std.specs.Prelude.{Result}
use Rattle.dsx_messages.specs.declared.code.Code.TheVariants.{RejectAuthorizationFailure}
use Rattle.param_sets.specs.Sets.{sets_unless}
use Rattle.param_sets.specs.declared.sets.SetsFields.{SetsFields}
use Rattle.param_sets.specs.declared.refusal.Refusal.{Refusal}
use Rattle.operator_model.specs.declared.verdict.AskedSets.{AskedSets}
use Rattle.operator_model.specs.Asked.{failing_admitted}

-- refused where the admitted set is not within the provisioned one
abbrev pub asked_sets_over : SetsFields → AskedSets → Result SetsFields Refusal
asked_sets_over sets asked =
    sets_unless (failing_admitted asked.admitted sets.provisioned) RejectAuthorizationFailure
    (record { provisioned = sets.provisioned; admitted = asked.admitted; active = asked.active })
