use Rattle.std.proofs.Common.{◌≡◌, ◌≤◌, [], length, drop}
use Rattle.plant.specs.Provisioned.{sets_of_encoding}
use Rattle.operator_book.specs.Opening.{put_provisions}
use Rattle.operator_book.proofs.Common.{IfSome}
use Rattle.operator_book.proofs.opening.put_provisions.Given as goal

abbrev pub invariant-loop-provision : goal.invariant-loop-provision
invariant-loop-provision l = record {
  flows : put_provisions l.frame l.consts l.row l.flows.flows (drop l.provision-index l.row.provisions) ≡ put_provisions l.frame l.consts l.row [] l.row.provisions;
  few : length l.flows.flows ≤ l.provision-index;
  capacity : l.flows.capacity ≡ l.fn.flows.capacity;
  units : l.flows.units ≡ l.fn.flows.units;
  known : IfSome l.before (λ p. l.sets ≡ sets_of_encoding l.consts p.now.encoding);
}
