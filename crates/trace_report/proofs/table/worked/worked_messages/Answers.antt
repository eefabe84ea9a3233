use Rattle.std.proofs.Common.{[], refl, arith}
use Rattle.tlv24.specs.Flow.{fault_of, flow_of}
use Rattle.tlv24.specs.Tlv.{front_of}
use Rattle.trace_report.proofs.TableLemmas.Common.{Dsa, worked_row, first_modem, worked_operator}
use Rattle.dsx_messages.specs.Reading.{flow_in, flows_in, message_of}
use Rattle.trace_report.proofs.TableLemmas.MessageLemmas.{left_out_handled}
use Rattle.trace_report.proofs.table.worked.worked_messages.Goals as goal

pub returns : goal.returns
unfolding flow_in flows_in message_of fault_of flow_of front_of
returns c = record { left_out = (_, left_out_handled (worked_operator worked_row []) first_modem 1 Dsa 25 (omega arith) refl (omega arith), refl) }
