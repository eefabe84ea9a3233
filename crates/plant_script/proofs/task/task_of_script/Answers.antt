use Rattle.std.proofs.Common.{sym, subst, ◌∙◌}
use Rattle.plant.specs.declared.plant.PlantFields.{PlantFields}
use Rattle.line_service.specs.script.Script.{ArePlaced}
use Rattle.plant_script.proofs.task.task_of_script.Goals as goal

pub invariant_of-result : goal.invariant_of-result
invariant_of-result c = record {
  placed = subst (λ (p : PlantFields). ArePlaced p c.in-Ok.lines.items) (sym (c.into_plant.ensures ∙ c.in-Ok.ensures.same)) c.in-Ok.ensures.placed;
}
