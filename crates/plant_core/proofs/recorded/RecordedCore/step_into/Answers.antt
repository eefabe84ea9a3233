use Rattle.std.proofs.Common.{refl}
use Rattle.run_model.specs.declared.step.Step.TheVariants as steps
use Rattle.plant_core.proofs.recorded.RecordedCore.step_into.Goals as goal

pub act_if-requires : goal.act_if-requires
act_if-requires g c = (steps.Work c.in-Work.op, refl)
