use Rattle.std.proofs.Common.{◌≡◌, ◌++◌, map, drop, take, List}
use Rattle.slice_scheduler.specs.declared.elements.ElementsFields.{ElementsFields}
use Rattle.map_assembly.proofs.gather.drop_fronts.Given as goal

abbrev pub invariant-loop-queue : goal.invariant-loop-queue
invariant-loop-queue l = l.queues ≡ map (λ (queue : List ElementsFields). drop 1 queue) (take l.queue-index l.fn.queues) ++ drop l.queue-index l.fn.queues
