use Rattle.std.proofs.Common.{map}
use Rattle.plant_core.proofs.Common.{HeldHistory, live_view}
use Rattle.plant_core.proofs.RecordLemmas.{collected_belongs, collected}
use Rattle.plant_core.proofs.recorded.RecordedCore.collect.Goals as goal

pub invariant_of-self : goal.invariant_of-self
invariant_of-self c =
    let core = c.args.self.now in
    record { belongs = collected_belongs c.collect.result (live_view core.live) _ _ core.changes.items c.args.op c.args.outs.now.items c.collect.new.outs.items c.always.ensures.gathering core.belongs c.collect.ensures.ok c.collect.ensures.err }

pub returns-clause-ok : goal.returns-clause-ok
returns-clause-ok c =
    let core = c.args.self.now in
    collected c.collect.result (live_view core.live) _ (map (λ (history : HeldHistory). history.entries) core.histories.items) core.changes.items c.args.op c.args.outs.now.items c.collect.new.outs.items
    c.always.ensures.gathering core.belongs c.collect.ensures.ok
