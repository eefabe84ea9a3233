use Rattle.std.proofs.Common.{List, drop, get_or, ap, arith}
use Rattle.std.proofs.lemmas.List.Edits.{map_over_more}
use Rattle.slice_scheduler.specs.declared.elements.ElementsFields.{ElementsFields}
use Rattle.map_assembly.proofs.gather.drop_fronts.Goals as goal

pub loop-queue-preserved : goal.loop-queue-preserved
loop-queue-preserved c =
    rw c.drop_front.ensures
    (map_over_more (λ (queue : List ElementsFields). drop 1 queue) c.args.queues.now c.loop-queue.queues c.loop-queue.queue-index (get_or c.loop-queue.queues c.loop-queue.queue-index c.queue-item.result) (omega arith)
    c.loop-queue.invariant (ap (λ (q : List ElementsFields). get_or c.loop-queue.queues c.loop-queue.queue-index q) c.queue-item.is))
