use Rattle.map_assembly.proofs.LastLemmas.{last_is, not_last}
use Rattle.map_assembly.proofs.gather.is_last.Goals as goal

pub returns-then-is_whole : goal.returns-then-is_whole
returns-then-is_whole c = λ part. last_is c.args.queues.now c.args.op part c.is_whole.result c.is_whole-then-is_whole.result c.requires c.is_whole.ensures c.if-is_whole.true c.is_whole-then-is_whole.ensures

pub returns-else-is_whole : goal.returns-else-is_whole
returns-else-is_whole c = λ part. not_last c.args.queues.now c.args.op part c.is_whole.result c.requires c.is_whole.ensures c.if-is_whole.false
