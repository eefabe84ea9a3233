use Rattle.std.proofs.Common.{◌∙◌}
use Rattle.plant_workers.proofs.CellLemmas.{cell_more}
use Rattle.plant_workers.proofs.cells.open_each.Goals as goal

pub loop-ranking-preserved : goal.loop-ranking-preserved
loop-ranking-preserved g c = record {
  next = tt;
  finite = tt;
  in_order = rw c.in_ok-push-in-Ok.ensures.items (cell_more (λ cell. cell.op) c.loop-ranking.cells.items c.new.result c.loop-ranking.invariant.in_order
      (c.new.ensures ∙ c.len-in-Ok.ensures ∙ c.loop-ranking.cells.ok.0));
}
