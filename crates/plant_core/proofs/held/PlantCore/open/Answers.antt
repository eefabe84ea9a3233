use Rattle.plant_core.specs.RecordView.{record_view}
use Rattle.plant_core.proofs.FollowLemmas.{opened_follow}
use Rattle.plant_core.proofs.OpenLemmas.{opened_is, opened_reaches}
use Rattle.plant_core.proofs.held.PlantCore.open.Goals as goal

pub invariant_of-result : goal.invariant_of-result
invariant_of-result g c = record {
  reached = opened_reaches c.args.plant (record_view c.in_ok-recorded.recorded) c.in_ok-recorded.ensures c.always.ensures.plant;
  follow = opened_follow _ c.as_slice.result.now c.args.rankings.items c.rows.result.now c.args.plant (record_view c.in_ok-recorded.recorded) c.as_slice.ensures.value c.rows.ensures.value c.in_ok-recorded.ensures
      (c.follow.ensures.0 c.if-not-follow.false);
}

pub returns-clause-reached : goal.returns-clause-reached
returns-clause-reached g c = opened_is c.args.plant (record_view c.in_ok-recorded.recorded) c.in_ok-recorded.ensures c.always.ensures.plant
