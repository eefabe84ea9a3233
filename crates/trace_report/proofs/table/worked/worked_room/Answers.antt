use Rattle.std.proofs.Common.{Some, arith, refl}
use Rattle.tlv24.specs.Flow.{fault_of, flow_of}
use Rattle.tlv24.specs.Tlv.{front_of}
use Rattle.dsx_messages.specs.Reading.{flow_in, flows_in, message_of}
use Rattle.admission.specs.Free.{first_free, least_free_of}
use Rattle.operator_model.specs.Asked.{first_encoding, set_of, asked_sets, nested_sets, addition_of, change_of}
use Rattle.operator_model.specs.Verdict.{addition_within_limit, change_within_limit, verdict}
use Rattle.operator_model.specs.Machine.{own_step}
use Rattle.trace_report.proofs.TableLemmas.Common.{worked_row, first_modem, worked_operator, one_added, full_added}
use Rattle.trace_report.proofs.TableLemmas.ExampleLemmas.{best_effort, reserving, too_many_flows, sfids_used, sids_used, elements_over, minislots_over}
use Rattle.trace_report.proofs.table.worked.worked_room.Goals as goal

pub returns-clause-flows : goal.returns-clause-flows
unfolding flow_in flows_in message_of fault_of flow_of front_of first_free least_free_of first_encoding set_of asked_sets nested_sets addition_of change_of addition_within_limit change_within_limit verdict own_step
returns-clause-flows c = (_, too_many_flows (worked_operator (record worked_row { flows = 1 }) one_added) first_modem 2 (best_effort 2) refl 2 refl refl (reserving 0) refl (omega arith), refl)

pub returns-clause-sfids : goal.returns-clause-sfids
unfolding flow_in flows_in message_of fault_of flow_of front_of first_free least_free_of first_encoding set_of asked_sets nested_sets addition_of change_of addition_within_limit change_within_limit verdict own_step
returns-clause-sfids c = (_, sfids_used (worked_operator (record worked_row { sfids = record { first = 257; last = 257 } }) one_added) first_modem 2 (best_effort 2) refl 2 refl refl (reserving 0) refl (omega arith) refl, refl)

pub returns-clause-sids : goal.returns-clause-sids
unfolding flow_in flows_in message_of fault_of flow_of front_of first_free least_free_of first_encoding set_of asked_sets nested_sets addition_of change_of addition_within_limit change_within_limit verdict own_step
returns-clause-sids c = (_, sids_used (worked_operator (record worked_row { sids = record { first = 257; last = 257 } }) one_added) first_modem 2 (best_effort 2) refl 2 refl refl (reserving 0) refl (omega arith) 258 refl refl, refl)

pub returns-clause-elements : goal.returns-clause-elements
unfolding flow_in flows_in message_of fault_of flow_of front_of first_free least_free_of first_encoding set_of asked_sets nested_sets addition_of change_of addition_within_limit change_within_limit verdict own_step
returns-clause-elements c = (_, elements_over (worked_operator (record worked_row { elements = 3 }) one_added) first_modem 2 (best_effort 2) refl 2 refl refl (reserving 0) refl (omega arith) 258 refl 258 refl (omega arith), refl)

pub returns-clause-minislots : goal.returns-clause-minislots
unfolding flow_in flows_in message_of fault_of flow_of front_of first_free least_free_of first_encoding set_of asked_sets nested_sets addition_of change_of addition_within_limit change_within_limit verdict own_step
returns-clause-minislots c = (_, minislots_over (worked_operator worked_row full_added) first_modem 2 (record (best_effort 2) { min_reserved_rate = Some 1 }) refl 2 refl refl (reserving 1) refl (omega arith) 258 refl 258 refl (omega arith) (omega arith), refl)
