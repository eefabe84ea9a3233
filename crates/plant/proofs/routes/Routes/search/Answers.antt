use Rattle.std.proofs.Common.{sym, ◌∙◌, ap}
use Rattle.plant.specs.declared.plant.PlantFields.{PlantFields}
use Rattle.plant.specs.Row.{same_modem}
use Rattle.plant.specs.Roster.{holder}
use Rattle.plant.proofs.CachedLemmas.{promoted_right, lookup_right}
use Rattle.plant.proofs.routes.Routes.search.Goals as goal

pub invariant_of-self : goal.invariant_of-self
invariant_of-self c = let kept = promoted_right c.self.inside.plant.rows (same_modem c.args.modem) c.self.inside.cache.entries c.self.invariant in
    rw c.get.follows.holds-at-none kept

pub returns-in-Some-clause-value : goal.returns-in-Some-clause-value
returns-in-Some-clause-value c =
    let found = lookup_right c.self.inside.plant.rows c.args.modem c.self.inside.cache.entries c.in-Some.place c.self.invariant
    (sym c.get.ensures.value ∙ (sym c.copied.ensures ∙ c.in-Some.is)) in
    sym found ∙ ap (λ (plant : PlantFields). holder plant.rows c.args.modem) c.self.view_is

pub invariant_of-self-2 : goal.invariant_of-self-2
invariant_of-self-2 c = let kept = promoted_right c.self.inside.plant.rows (same_modem c.args.modem) c.self.inside.cache.entries c.self.invariant in
    rw c.get.follows.holds-at-none kept
