use Rattle.std.proofs.Common.{◌≡◌, ◌++◌, map, drop}
use Rattle.map_assembly.proofs.Common.{element_of_span, spans_with_idle, part_at}
use Rattle.map_assembly.proofs.assembling.push_filled.Given as goal

abbrev pub invariant-loop-k : goal.invariant-loop-k
invariant-loop-k l = l.list.items ++ map element_of_span (spans_with_idle l.from l.channel.frame_minislots (map (part_at l.queues l.op l.part) (drop l.k-index l.order))) ≡ l.fn.list.items ++ map element_of_span (spans_with_idle l.channel.head l.channel.frame_minislots (map (part_at l.queues l.op l.part) l.order))
