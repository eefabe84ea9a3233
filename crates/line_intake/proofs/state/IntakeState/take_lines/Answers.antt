use Rattle.line_intake.proofs.BatchLemmas.{with_last}
use Rattle.line_intake.proofs.state.IntakeState.take_lines.Goals as goal

pub returns-then-is_last : goal.returns-then-is_last
returns-then-is_last c =
    with_last c.args.batch.now.items c.loop-length.batch.items c.push_reserved.new.self.items c.in-Some.choice c.args.self.now.queue c.loop-length.self.queue c.choose.new.self.queue c.loop-length.invariant.so c.in-Some.ensures.some c.push_reserved.ensures.items
