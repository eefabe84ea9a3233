use Rattle.std.proofs.Common.{length}
use Rattle.trace_report.specs.Told.{HasWorded}
use Rattle.trace_report.proofs.remarks.write_words.Given as goal

abbrev pub invariant-loop-rest : goal.invariant-loop-rest
invariant-loop-rest g l = HasWorded (g.W.Write.contents l.fn.writer) (g.W.Write.contents l.writer)

abbrev pub decreases-loop-rest : goal.decreases-loop-rest
decreases-loop-rest g l = length l.rest
