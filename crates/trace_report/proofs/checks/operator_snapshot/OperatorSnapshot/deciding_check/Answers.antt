use Rattle.trace_report.specs.table.Said.{said_by}
use Rattle.trace_report.proofs.ChecksLemmas.FirstLemmas.{first_found, found_decides}
use Rattle.trace_report.proofs.checks.operator_snapshot.OperatorSnapshot.deciding_check.Goals as goal

pub returns-clause-first : goal.returns-clause-first
returns-clause-first c = first_found c.args.self.now c.args.modem (said_by c.args.request.now) c.first_that_holds.result c.first_that_holds.ensures

pub returns-clause-decides : goal.returns-clause-decides
returns-clause-decides c = found_decides c.args.self.now c.args.modem c.args.request.now c.always_sound.ensures c.first_that_holds.result c.first_that_holds.ensures
