use Rattle.std.proofs.Common.{[], refl}
use Rattle.tlv24.specs.Flow.{fault_of, flow_of}
use Rattle.tlv24.specs.Tlv.{front_of}
use Rattle.dsx_messages.specs.Reading.{flow_in, flows_in, message_of}
use Rattle.admission.specs.Free.{first_free, least_free_of}
use Rattle.operator_model.specs.Asked.{first_encoding, set_of, asked_sets, nested_sets, addition_of, change_of}
use Rattle.operator_model.specs.Verdict.{addition_within_limit, change_within_limit, verdict}
use Rattle.operator_model.specs.Machine.{own_step}
use Rattle.trace_report.proofs.TableLemmas.Common.{worked_row, first_modem, second_modem, message_actions, addition, worked_operator, one_added}
use Rattle.trace_report.proofs.TableLemmas.ExampleLemmas.{first_flow, other_modem, none_deleted, not_owned, waits}
use Rattle.trace_report.proofs.TableLemmas.ListLemmas.{contains-nothing}
use Rattle.trace_report.proofs.table.worked.worked_flows.Goals as goal

pub returns-clause-unknown : goal.returns-clause-unknown
unfolding flow_in flows_in message_of fault_of flow_of front_of first_free least_free_of first_encoding set_of asked_sets nested_sets addition_of change_of addition_within_limit change_within_limit verdict own_step
returns-clause-unknown c = (_, none_deleted (worked_operator worked_row []) first_modem 1 9 (λ has. contains-nothing 9 has), refl)

pub returns-clause-not_owner : goal.returns-clause-not_owner
unfolding flow_in flows_in message_of fault_of flow_of front_of first_free least_free_of first_encoding set_of asked_sets nested_sets addition_of change_of addition_within_limit change_within_limit verdict own_step
returns-clause-not_owner c = (
  _,
  not_owned (worked_operator worked_row one_added) second_modem 1 257
      (first_flow (worked_operator worked_row one_added).state.flows) refl other_modem,
  refl,
)

pub returns-clause-waits : goal.returns-clause-waits
unfolding flow_in flows_in message_of fault_of flow_of front_of first_free least_free_of first_encoding set_of asked_sets nested_sets addition_of change_of addition_within_limit change_within_limit verdict own_step
returns-clause-waits c =
    (_, waits (worked_operator worked_row (message_actions first_modem addition)) first_modem 2 257 (first_flow (worked_operator worked_row (message_actions first_modem addition)).state.flows) refl refl refl, refl)
