use Rattle.std.proofs.Common.{sym, ◌∙◌, ap, option_map}
use Rattle.std.specs.Map.Iter.{deref_pair}
use Rattle.plant.specs.declared.plant.PlantFields.{PlantFields}
use Rattle.plant.specs.Roster.{holder}
use Rattle.plant.proofs.CachedLemmas.{first_right}
use Rattle.plant.proofs.routes.Routes.place_of.Goals as goal

pub returns-then-eq-clause-value : goal.returns-then-eq-clause-value
returns-then-eq-clause-value c =
    let found = first_right c.self.inside.plant.rows c.args.modem c.in-Some.known.now c.self.inside.cache.entries c.in-Some.place.now c.self.invariant
    (sym c.peek_mru.ensures ∙ ap (option_map deref_pair) c.in-Some.is) (sym c.eq.ensures ∙ c.if-eq.true) in
    sym found ∙ ap (λ (plant : PlantFields). holder plant.rows c.args.modem) c.self.view_is
