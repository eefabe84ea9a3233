use Rattle.std.proofs.Common.{map}
use Rattle.plant_workers.specs.Cells.{AreInOrder}
use Rattle.plant_workers.proofs.cells.hold_each.Given as goal

abbrev pub invariant-loop-held : goal.invariant-loop-held
invariant-loop-held g l = record {
  next : (goal.iterator-loop-held g).can_next l.held-iterator;
  finite : (goal.iterator-loop-held g).is_finite l.held-iterator;
  in_order : AreInOrder (map (λ cell. cell.op) l.cells.items);
}
