use Rattle.std.proofs.Common.{refl}
use Rattle.tlv24.specs.Flow.{fault_of, flow_of}
use Rattle.tlv24.specs.Tlv.{front_of}
use Rattle.dsx_messages.specs.Reading.{flow_in, flows_in, message_of}
use Rattle.admission.specs.Free.{first_free, least_free_of}
use Rattle.slice_scheduler.specs.Schedule.{ranked_below}
use Rattle.operator_model.specs.Asked.{first_encoding, set_of, asked_sets, nested_sets, addition_of, change_of}
use Rattle.operator_model.specs.Verdict.{addition_within_limit, change_within_limit, verdict}
use Rattle.operator_model.specs.Machine.{own_step}
use Rattle.operator_model.proofs.worked.worked_frames_compute.Goals as goal

pub returns : goal.returns
unfolding flow_in flows_in message_of fault_of flow_of front_of first_free least_free_of ranked_below first_encoding set_of asked_sets nested_sets addition_of change_of addition_within_limit change_within_limit verdict own_step
returns c = record {
  idle = refl;
  full_inbox = refl;
  not_told = refl;
  unsolicited = refl;
  granted = refl;
  shared = refl;
  resent = refl;
  given_up = refl;
}
