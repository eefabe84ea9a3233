use Rattle.std.proofs.Common.{ℕ, [], refl, ◌≡◌, Some, arith}
use Rattle.tlv24.specs.Flow.{fault_of, flow_of}
use Rattle.tlv24.specs.Tlv.{front_of}
use Rattle.trace_report.proofs.TableLemmas.Common.{RejectInvalidForContext, worked_row, first_modem, worked_operator}
use Rattle.dsx_messages.specs.Reading.{flow_in, flows_in, message_of}
use Rattle.trace_report.proofs.TableLemmas.ExampleLemmas.{unstated, best_effort, not_one_for_each, null_untaken, nothing_added, two_differ, two_apart, one_unnamed, one_mistyped, one_refused}
use Rattle.trace_report.proofs.table.worked.worked_encodings.Goals as goal

pub returns-clause-no_encoding : goal.returns-clause-no_encoding
unfolding flow_in flows_in message_of fault_of flow_of front_of
returns-clause-no_encoding c = (_, nothing_added (worked_operator worked_row []) first_modem 2, refl)

pub returns-clause-differ : goal.returns-clause-differ
unfolding flow_in flows_in message_of fault_of flow_of front_of
returns-clause-differ c = (_, two_differ (worked_operator worked_row []) first_modem 2 (best_effort 1) (best_effort 2) refl refl (λ same. let e : ◌≡◌ {A = ℕ} 1 2 = cc in omega arith), refl)

pub returns-clause-together : goal.returns-clause-together
unfolding flow_in flows_in message_of fault_of flow_of front_of
returns-clause-together c = (_, two_apart (worked_operator worked_row []) first_modem 2 (best_effort 1) (best_effort 1) refl refl (refl, (refl, tt)) not_one_for_each, refl)

pub returns-clause-no_identifier : goal.returns-clause-no_identifier
unfolding flow_in flows_in message_of fault_of flow_of front_of
returns-clause-no_identifier c = (_, one_unnamed (worked_operator worked_row []) first_modem 2 (record unstated { set_type = Some 6; scheduling_type = Some 2 }) refl refl, refl)

pub returns-clause-set_type : goal.returns-clause-set_type
unfolding flow_in flows_in message_of fault_of flow_of front_of
returns-clause-set_type c = (_, one_mistyped (worked_operator worked_row []) first_modem 2 (record unstated { reference = Some 1; set_type = Some 0; scheduling_type = Some 2 }) refl 1 refl null_untaken, refl)

pub returns-clause-interval : goal.returns-clause-interval
unfolding flow_in flows_in message_of fault_of flow_of front_of
returns-clause-interval c = (
  _,
  one_refused (worked_operator worked_row []) first_modem 1
      (record unstated { reference = Some 1; set_type = Some 6; scheduling_type = Some 6; grant_size = Some 512; grant_interval = Some 1999; grants_per_interval = Some 1 })
      refl 1 refl refl (record { code = RejectInvalidForContext; subtype = 20 }) refl,
  refl,
)
