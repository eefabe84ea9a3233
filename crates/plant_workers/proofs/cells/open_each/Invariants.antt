use Rattle.std.proofs.Common.{map}
use Rattle.plant_workers.specs.Cells.{AreInOrder}
use Rattle.plant_workers.proofs.cells.open_each.Given as goal

abbrev pub invariant-loop-ranking : goal.invariant-loop-ranking
invariant-loop-ranking g l = record {
  next : (goal.iterator-loop-ranking g).can_next l.ranking-iterator;
  finite : (goal.iterator-loop-ranking g).is_finite l.ranking-iterator;
  in_order : AreInOrder (map (λ cell. cell.op) l.cells.items);
}
