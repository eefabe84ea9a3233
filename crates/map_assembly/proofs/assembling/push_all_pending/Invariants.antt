use Rattle.std.proofs.Common.{◌≡◌, ◌++◌, map, drop}
use Rattle.map_assembly.proofs.Common.{map_pending, pending_element, part_at}
use Rattle.map_assembly.proofs.assembling.push_all_pending.Given as goal

abbrev pub invariant-loop-k : goal.invariant-loop-k
invariant-loop-k l = l.list.items ++ map (pending_element l.end) (map_pending (map (part_at l.queues l.op l.part) (drop l.k-index l.order))) ≡ l.fn.list.items ++ map (pending_element l.end) (map_pending (map (part_at l.queues l.op l.part) l.order))
