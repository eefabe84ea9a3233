use Rattle.std.proofs.Common.{List, map, ap, ◌∙◌}
use Rattle.plant.specs.declared.operator_row.RowFields.{RowFields}
use Rattle.map_assembly.proofs.NewLemmas.{plant_slices}
use Rattle.map_assembly.proofs.gather.Gather.new.Goals as goal

pub resume-requires-clause-slices : goal.resume-requires-clause-slices
resume-requires-clause-slices c =
    plant_slices c.args.plant.now c.rows.ensures.valid c.in_ok-slices.slices.items
    (c.in_ok-slices.ensures.value ∙ ap (λ (rows : List RowFields). map (λ row. row.slice) rows) c.rows.ensures.value) c.in_ok-slices.ensures.some
