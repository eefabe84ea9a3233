use Rattle.std.proofs.Common.{◌∙◌}
use Rattle.trace_report.proofs.ChecksLemmas.MessageLemmas.{message_first, message_decides}
use Rattle.trace_report.proofs.checks.operator_snapshot.OperatorSnapshot.message_check.Goals as goal

pub returns-clause-first : goal.returns-clause-first
returns-clause-first c = message_first c.args.self.now c.args.modem c.args.reading.now c.copied.result (c.copied.ensures ∙ c.first_message_check.ensures)

pub returns-clause-decides : goal.returns-clause-decides
returns-clause-decides c = message_decides c.args.self.now c.args.modem c.always_sound.ensures c.args.reading.now c.copied.result (c.copied.ensures ∙ c.first_message_check.ensures)
