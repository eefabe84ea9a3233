use Rattle.std.proofs.Common.{take}
use Rattle.plant_core.specs.live.Reachable.{LeadsOn}
use Rattle.plant_core.specs.CoreView.{core_view}
use Rattle.plant_core.proofs.held.PlantCore.run.Given as goal

abbrev pub invariant-loop-at : goal.invariant-loop-at
invariant-loop-at g l = LeadsOn (core_view l.fn.self) (take l.at l.steps) l.outs.items (core_view l.self)
