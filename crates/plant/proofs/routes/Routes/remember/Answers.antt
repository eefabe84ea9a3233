use Rattle.std.proofs.Common.{◌∙◌, ap}
use Rattle.plant.specs.declared.plant.PlantFields.{PlantFields}
use Rattle.plant.specs.Roster.{holder}
use Rattle.plant.proofs.CachedLemmas.{after_put_right}
use Rattle.plant.proofs.routes.Routes.remember.Goals as goal

pub invariant_of-self : goal.invariant_of-self
invariant_of-self c =
    after_put_right c.self.inside.plant.rows c.put.result c.self.inside.cache c.put.new.self c.args.modem c.args.place c.self.invariant
    (ap (λ (plant : PlantFields). holder plant.rows c.args.modem) c.self.view_is ∙ c.requires) c.put.ensures.entries c.put.ensures.err
