use Rattle.std.proofs.Common.{take}
use Rattle.line_service.proofs.ScriptLemmas.Common.{Appends, outs_text}
use Rattle.line_service.proofs.script.writing.write_outs.Given as goal

abbrev pub invariant-loop-out : goal.invariant-loop-out
invariant-loop-out g l = Appends (g.W.Write.contents l.fn.writer) (g.W.Write.contents l.writer) (outs_text l.plant (take l.out-index l.outs))
