use Rattle.fair_queue.specs.declared.line.Item.TheVariants as items
use Rattle.fair_queue.specs.Runs.{IsArrival}
use Rattle.fair_queue.proofs.FairLemmas.{SoFar}
use Rattle.fair_queue.proofs.fair_queue.mark_all.Given as goal

abbrev pub invariant-loop-op : goal.invariant-loop-op
invariant-loop-op l = SoFar (IsArrival (items.Owner l.fn.is_tick)) l.op l.fn.queues l.queues
