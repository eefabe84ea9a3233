use Rattle.std.proofs.Common.{List, [], length, ap, ◌∙◌}
use Rattle.plant_core.proofs.Common.{replicate, RowFields, PlantFields, CoreView}
use Rattle.plant_core.proofs.OpenLemmas.{opened_belongs, opened_view}
use Rattle.plant_core.proofs.recorded.RecordedCore.open.Goals as goal

pub invariant_of-result : goal.invariant_of-result
invariant_of-result c = record {
  belongs = opened_belongs c.args.plant _ _ _ c.in_ok-live.ensures.ok
      (c.in_ok-histories.ensures
      ∙ ap (λ (rows : List RowFields). replicate (length rows) []) (c.rows.ensures.value ∙ ap (λ (plant : PlantFields). plant.rows) (c.plant.ensures ∙ ap (λ (core : CoreView). core.plant) c.in_ok-live.ensures.ok)))
      c.new.ensures.items c.always.ensures.gathering;
}

pub returns : goal.returns
returns c =
    opened_view c.args.plant _ _ _ c.in_ok-live.ensures.ok
    (c.in_ok-histories.ensures
    ∙ ap (λ (rows : List RowFields). replicate (length rows) []) (c.rows.ensures.value ∙ ap (λ (plant : PlantFields). plant.rows) (c.plant.ensures ∙ ap (λ (core : CoreView). core.plant) c.in_ok-live.ensures.ok)))
    c.new.ensures.items
