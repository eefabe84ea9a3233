use Rattle.map_assembly.specs.Gathering.{next_of}
use Rattle.map_assembly.proofs.StateLemmas.{kept_is, queue_pushed, queue_same, same_gathering, op_within}
use Rattle.map_assembly.proofs.gather.Gather.keep.Goals as goal
use Rattle.map_assembly.proofs.gather.Gather.keep.Goals.{in-Ok, in-Err}

pub invariant_of-self : goal.invariant_of-self
invariant_of-self c = elim c.match-push.branch [
  | in-Ok w ↦ kept_is _ c.args.self.now c.args.op (next_of c.args.self.now c.args.op) c.args.elements _ c.self.view_is c.self.invariant c.requires.put c.always.ensures c.requires.waits
      (queue_pushed c.self.inside.queues.items c.args.op c.args.elements c.index_mut-queue.result.now c.push.new.self
      (op_within _ c.args.self.now c.args.op (next_of c.args.self.now c.args.op) c.args.elements c.self.view_is c.self.invariant c.requires.put) c.index_mut-queue.ensures.value w.in-Ok.ensures.ok)
  | in-Err w ↦ same_gathering _ _ (queue_same c.self.inside.queues.items c.args.op c.index_mut-queue.result.now c.push.new.self c.index_mut-queue.ensures.value w.in-Err.ensures.err.1) c.self.invariant
]
