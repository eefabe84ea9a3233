use Rattle.std.proofs.Common.{arith}
use Rattle.plant_core.proofs.FollowLemmas.{do_differ}
use Rattle.plant_core.proofs.opening.follow.Goals as goal

pub returns-then-not-follows : goal.returns-then-not-follows
returns-then-not-follows g c = (
  λ no. cc,
  λ same. absurd (do_differ _ _ c.args.rankings.now c.args.rows.now c.loop-at.at c.index-rankings-at.result c.index-rows-at.result
      c.loop-at-test.true (omega (arith, c.if-rankings-rows.false, c.loop-at-test.true)) c.index-rankings-at.is c.index-rows-at.is (λ e. let t = c.if-not-follows.ensures.1 e in cc) same),
)
