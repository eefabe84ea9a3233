use Rattle.std.proofs.Common.{◌∙◌}
use Rattle.plant_core.proofs.LiveLemmas.Common.{slot_book, live_view}
use Rattle.plant_core.proofs.LiveLemmas.PlaceLemmas.{seen_at}
use Rattle.plant_core.proofs.LiveLemmas.StepLemmas.{told_at}
use Rattle.plant_core.proofs.LiveLemmas.PartLemmas.{acts_as_its_own}
use Rattle.plant_core.proofs.LiveLemmas.PlanLemmas.{planned_if}
use Rattle.plant_core.proofs.live.held.LiveCore.plan_act_in_memory.Goals as goal

pub plan-requires-clause-mine : goal.plan-requires-clause-mine
plan-requires-clause-mine g c =
    let core = c.args.self.now in
    acts_as_its_own core.routes core.gather _ _ c.args.op c.args.action (slot_book c.index.result.now) core.reached c.requires.step
    (seen_at slot_book core.desks.items _ c.args.op c.index.result.now (c.len.ensures ∙ core.desks.ok.0) c.if-len-op.false c.index.ensures)

pub plan-requires-clause-policy : goal.plan-requires-clause-policy
plan-requires-clause-policy g c =
    let core = c.args.self.now in
    c.requires.policy (slot_book c.index.result.now)
    (seen_at slot_book core.desks.items _ c.args.op c.index.result.now (c.len.ensures ∙ core.desks.ok.0) c.if-len-op.false c.index.ensures)

pub returns-clause-plan : goal.returns-clause-plan
returns-clause-plan g c =
    let core = c.args.self.now in
    let did = c.plan.ensures in
    planned_if c.plan.result (live_view core) c.args.op c.args.action (slot_book c.index.result.now) c.requires.step
    (seen_at slot_book core.desks.items _ c.args.op c.index.result.now (c.len.ensures ∙ core.desks.ok.0) c.if-len-op.false c.index.ensures)
    did.op did.allowed did.plan did.committable

pub returns-clause-fault : goal.returns-clause-fault
returns-clause-fault g c =
    let core = c.args.self.now in
    told_at c.plan.result c.args.op c.args.action _ _
    (seen_at slot_book core.desks.items _ c.args.op c.index.result.now (c.len.ensures ∙ core.desks.ok.0) c.if-len-op.false c.index.ensures) c.plan.ensures.fault
