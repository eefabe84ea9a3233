use Rattle.std.proofs.Common.{refl}
use Rattle.run_model.specs.declared.step.Step.TheVariants as steps
use Rattle.plant_core.proofs.live.held.LiveCore.plan_tick_by.Goals as goal

pub plan_act_by-requires-clause-step : goal.plan_act_by-requires-clause-step
plan_act_by-requires-clause-step g c = (steps.Tick c.args.op, refl)
