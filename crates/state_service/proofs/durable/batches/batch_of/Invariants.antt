use Rattle.std.proofs.Common.{◌≡◌, take}
use Rattle.line_journal.specs.Found.{texts}
use Rattle.state_service.proofs.durable.batches.batch_of.Given as goal

abbrev pub invariant-loop-line : goal.invariant-loop-line
invariant-loop-line l = record { so_far : l.batch ≡ texts (take l.line-index l.lines) }
