use Rattle.std.proofs.Common.{length, refl}
use Rattle.plant_core.proofs.LiveLemmas.Common.{slice_get_read}
use Rattle.plant_core.proofs.LiveLemmas.FollowingLemmas.{at_place}
use Rattle.plant_core.specs.live.LiveView.{live_view}
use Rattle.plant_core.proofs.live.held.LiveCore.step_over_by.Goals as goal

pub tick_over_by-requires : goal.tick_over_by-requires
tick_over_by-requires g c =
    let there = slice_get_read c.args.rankings.now (length c.args.rankings.now) c.in-Tick.op c.in-Some.ranking.now refl c.in-Some.ensures.lookup.3.0 c.in-Some.ensures.lookup.1 in
    at_place g.R.Ranks.policy c.args.rankings.now (live_view c.args.self.now).plant.rows c.in-Tick.op c.in-Some.ranking.now there c.requires.policies

pub receive_over-requires : goal.receive_over-requires
receive_over-requires g c = c.requires.placed c.in-Some-place.op c.in-Arrive.modem c.in-Arrive.heard c.in-Some-place.is c.in-Arrive.is
