use Rattle.std.proofs.Common.{◌≡◌, ℕ, ◌+◌, length, sym, ap, ◌∙◌, subst, arith}
use Rattle.plant.specs.declared.consts.ConstsFields.{ConstsFields}
use Rattle.plant_workers.proofs.PlanLemmas.Spent.{IsLeastOf, least_more, least_of_all}
use Rattle.plant_workers.proofs.plan.spending.first_spent.Goals as goal

pub loop-op-preserved : goal.loop-op-preserved
loop-op-preserved c =
    subst (IsLeastOf c.get_fields.result.now.channel.first_frame c.args.steps.now (c.loop-op.op + 1)) (sym c.lesser-least.ensures)
    (least_more c.get_fields.result.now.channel.first_frame c.args.steps.now c.loop-op.op c.loop-op.least c.spent_of.result c.loop-op.invariant c.spent_of.ensures)

pub returns : goal.returns
returns c =
    let same : c.get_fields.result.now.channel.first_frame ≡ c.args.plant.now.consts.channel.first_frame = ap (λ (f : ConstsFields). f.channel.first_frame) (c.get_fields.ensures.value ∙ c.consts.ensures.value) in
    let long : length c.args.plant.now.rows ≡ length c.rows-op-end.result.now = ap length (sym c.rows-op-end.ensures.value) in
    least_of_all c.args.plant.now c.args.steps.now c.loop-op.op (omega (arith, long, c.loop-op-test.false, c.loop-op.auto.op-end)) c.loop-op.least
    (subst (λ (n : ℕ). IsLeastOf n c.args.steps.now c.loop-op.op c.loop-op.least) same c.loop-op.invariant)
