use Rattle.std.proofs.Common.{refl}
use Rattle.operator_model.specs.declared.action.Action.TheVariants as actions
use Rattle.std.proofs.lemmas.Result.{IfOk-weaker}
use Rattle.plant_core.proofs.Common.{slice_get_read, live_view, record_view}
use Rattle.plant_core.proofs.FollowLemmas.{follows_row}
use Rattle.plant_core.proofs.RecordLemmas.{is_of}
use Rattle.plant_core.proofs.StepLemmas.{plan_behind, same_act_fault}
use Rattle.plant_core.proofs.recorded.RecordedCore.plan_tick.Goals as goal

pub plan_tick_by-requires : goal.plan_tick_by-requires
plan_tick_by-requires g c =
    let live = live_view c.args.self.now.live in
    follows_row _ c.args.rankings.now live.plant.rows live.books c.requires c.always_policies.ensures c.args.op c.in-Some.ranking.now
    (slice_get_read c.args.rankings.now _ c.args.op c.in-Some.ranking.now refl c.in-Some.ensures.lookup.3.0 c.in-Some.ensures.lookup.1)

pub returns-in-Some-clause-plan : goal.returns-in-Some-clause-plan
returns-in-Some-clause-plan g c =
    let core = c.args.self.now in
    IfOk-weaker c.plan_tick_by.result _ _ (plan_behind (live_view core.live) (record_view core) (is_of _ _ _ c.always.ensures.gathering core.belongs) c.args.op actions.Tick) c.plan_tick_by.ensures.plan

pub returns-in-Some-clause-fault : goal.returns-in-Some-clause-fault
returns-in-Some-clause-fault g c =
    let core = c.args.self.now in
    rw (same_act_fault (live_view core.live) (record_view core) (is_of _ _ _ c.always.ensures.gathering core.belongs) c.args.op actions.Tick) c.plan_tick_by.ensures.fault
