use Rattle.std.proofs.Common.{arith}
use Rattle.line_service.proofs.ScriptLemmas.Marked.{pending_marks, pending_before}
use Rattle.line_service.proofs.script.digits.marked_pending.Goals as goal

pub returns-clause-written : goal.returns-clause-written
returns-clause-written c =
    pending_before c.args.sid _ _ _ c.write_marked.ensures.written (pending_marks c.args.room.now c.args.end (omega (arith, c.requires.0)) c.requires.1)
