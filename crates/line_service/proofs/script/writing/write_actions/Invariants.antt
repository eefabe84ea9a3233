use Rattle.std.proofs.Common.{take}
use Rattle.line_service.proofs.ScriptLemmas.Common.{Appends, actions_text}
use Rattle.operator_model.specs.Replay.{actions_of}
use Rattle.line_service.proofs.script.writing.write_actions.Given as goal

abbrev pub invariant-loop-entry : goal.invariant-loop-entry
invariant-loop-entry g l = Appends (g.W.Write.contents l.fn.writer) (g.W.Write.contents l.writer) (actions_text (actions_of (take l.entry-index l.history)))
