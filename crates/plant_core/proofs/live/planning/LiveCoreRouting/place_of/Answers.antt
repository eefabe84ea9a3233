use Rattle.plant_core.proofs.LiveLemmas.PartLemmas.{same_plant}
use Rattle.plant_core.proofs.live.planning.LiveCoreRouting.place_of.Goals as goal

pub invariant_of-self : goal.invariant_of-self
invariant_of-self c = record { let_go = c.args.self.now.let_go; reached = same_plant _ _ _ _ _ c.place_of.ensures.plant c.args.self.now.reached }
