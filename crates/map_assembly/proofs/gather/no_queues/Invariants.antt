use Rattle.std.proofs.Common.{◌≡◌, [], List}
use Rattle.map_assembly.proofs.Common.{replicate, ElementsFields}
use Rattle.map_assembly.proofs.gather.no_queues.Given as goal

abbrev pub invariant-loop-op : goal.invariant-loop-op
invariant-loop-op l = let none : List ElementsFields = [] in l.queues.items ≡ replicate l._op none
