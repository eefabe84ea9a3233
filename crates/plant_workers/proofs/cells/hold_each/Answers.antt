use Rattle.std.proofs.Common.{◌∙◌}
use Rattle.plant_workers.proofs.CellLemmas.{cell_more}
use Rattle.plant_workers.proofs.cells.hold_each.Goals as goal

pub loop-held-preserved : goal.loop-held-preserved
loop-held-preserved g c = record {
  next = tt;
  finite = tt;
  in_order = rw c.in_ok-push.ensures.items (cell_more (λ cell. cell.op) c.loop-held.cells.items c.again.result c.loop-held.invariant.in_order
      (c.again.ensures ∙ c.len-in-loop-held.ensures ∙ c.loop-held.cells.ok.0));
}
