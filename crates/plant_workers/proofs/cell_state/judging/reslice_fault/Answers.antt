use Rattle.std.proofs.Common.{ap, map, ◌∙◌}
use Rattle.plant_workers.proofs.CellStateLemmas.Common.{reslice_fault, cell_book}
use Rattle.plant_workers.proofs.cell_state.judging.reslice_fault.Goals as goal

pub returns : goal.returns
returns g c = c.counted_fault.ensures ∙ ap (λ helds. reslice_fault c.args.from (map cell_book helds) c.args.rows.now) c.as_slice.ensures.value
