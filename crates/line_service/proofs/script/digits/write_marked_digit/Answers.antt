use Rattle.line_service.proofs.ScriptLemmas.Marked.{digit_behind_mark}
use Rattle.line_service.proofs.script.digits.write_marked_digit.Goals as goal

pub returns-clause-written : goal.returns-clause-written
returns-clause-written c = digit_behind_mark c.args.room.now c.args.end c.args.mark c.args.number c.requires.room.0 c.requires.room.1 c.requires.few
