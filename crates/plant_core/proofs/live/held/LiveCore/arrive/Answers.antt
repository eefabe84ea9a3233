use Rattle.std.proofs.Common.{ap}
use Rattle.plant_core.specs.declared.live.held.LiveCore.{LiveCore}
use Rattle.plant_core.specs.live.LiveView.{live_view}
use Rattle.plant_core.proofs.LiveLemmas.Common.{on_ok_weaker}
use Rattle.plant_core.proofs.LiveLemmas.PartLemmas.{arrive_on}
use Rattle.plant_core.proofs.LiveLemmas.ReachLemmas.{arrives}
use Rattle.plant_core.proofs.live.held.LiveCore.arrive.Goals as goal

pub receive-requires : goal.receive-requires
receive-requires c = arrives _ _ c.args.modem c.args.heard c.in-Some.op (ap (λ (core : LiveCore). core.routes) c.place_of.ensures.same) c.in-Some.ensures.value

pub returns-in-Some-clause-ok : goal.returns-in-Some-clause-ok
returns-in-Some-clause-ok c =
    on_ok_weaker c.receive.result
    (λ done. (done.0, done.1, arrive_on _ _ c.args.modem c.args.heard c.in-Some.op _ done.0 (ap live_view c.place_of.ensures.same) c.in-Some.ensures.value done.2)) c.receive.ensures.ok
