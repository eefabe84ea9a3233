use Rattle.std.proofs.Common.{ap}
use Rattle.plant_core.specs.declared.live.held.LiveCore.{LiveCore}
use Rattle.plant_core.proofs.Common.{live_view, arrives, record_view}
use Rattle.plant_core.proofs.RecordLemmas.{is_of}
use Rattle.plant_core.proofs.StepLemmas.{none_refuses}
use Rattle.plant_core.proofs.recorded.RecordedCore.arrive.Goals as goal

pub act_if-requires : goal.act_if-requires
act_if-requires c = arrives _ _ c.args.modem c.in-Ok.heard c.in-Some.op (ap (λ (core : LiveCore). core.routes) c.place_of.ensures.same) c.in-Some.ensures.value

pub returns-in-Err-clause-fault : goal.returns-in-Err-clause-fault
returns-in-Err-clause-fault c =
    let core = c.args.self.now in
    none_refuses (live_view core.live) (record_view core) (is_of _ _ _ c.always.ensures.gathering core.belongs) c.args.modem c.args.heard.now c.in-Some.op c.always_one_each.ensures.books c.in-Some.ensures.value
