use Rattle.std.proofs.Common.{[], Some, refl}
use Rattle.tlv24.specs.Flow.{fault_of, flow_of}
use Rattle.tlv24.specs.Tlv.{front_of}
use Rattle.dsx_messages.specs.Reading.{flow_in, flows_in, message_of}
use Rattle.admission.specs.Free.{first_free, least_free_of}
use Rattle.trace_report.proofs.TableLemmas.Common.{worked_row, first_modem, worked_operator, provisioned_row}
use Rattle.trace_report.proofs.TableLemmas.ExampleLemmas.{unstated, reserving, first_flow, two_beyond, change_beyond}
use Rattle.trace_report.proofs.table.worked.worked_sets.Goals as goal

pub returns-clause-active : goal.returns-clause-active
unfolding flow_in flows_in message_of fault_of flow_of front_of first_free least_free_of
returns-clause-active c = (
  _,
  two_beyond (worked_operator worked_row []) first_modem 2
      (record unstated { reference = Some 1; set_type = Some 2; scheduling_type = Some 2; min_reserved_rate = Some 100 })
      (record unstated { reference = Some 1; set_type = Some 4; scheduling_type = Some 2; min_reserved_rate = Some 101 })
      refl refl 1 refl refl refl refl (reserving 100) (reserving 101) refl refl 10 refl,
  refl,
)

pub returns-clause-admitted : goal.returns-clause-admitted
unfolding flow_in flows_in message_of fault_of flow_of front_of first_free least_free_of
returns-clause-admitted c = (
  _,
  change_beyond (worked_operator provisioned_row []) first_modem 2
      (record unstated { sfid = Some 257; set_type = Some 6; scheduling_type = Some 2; min_reserved_rate = Some 101 })
      refl 257 refl refl (reserving 101) refl (first_flow (worked_operator provisioned_row []).state.flows) refl refl refl (reserving 100) refl 10 refl,
  refl,
)
