use Rattle.std.proofs.Common.{sym}
use Rattle.line_service.proofs.ScriptLemmas.Bars.{next_bar, no_bar}
use Rattle.line_service.proofs.script.input.before_bar.Goals as goal

pub loop-start-preserved : goal.loop-start-preserved
loop-start-preserved c =
    let next = next_bar c.args.input.now c.loop-start.start c.loop-start.invariant.inside (sym c.if-is_bar.ensures) c.loop-start.invariant.before c.in-Some.place c.in-Some.ensures in
    record { inside = next.0; before = next.1 }

pub returns-in-None-clause-value : goal.returns-in-None-clause-value
returns-in-None-clause-value c =
    no_bar c.args.input.now c.loop-start.start c.loop-start.invariant.inside (sym c.if-is_bar.ensures) c.loop-start.invariant.before c.in-None.ensures
