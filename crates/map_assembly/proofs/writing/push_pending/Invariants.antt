use Rattle.std.proofs.Common.{◌≡◌, ◌++◌, map, take}
use Rattle.map_assembly.specs.Map.{pending_element}
use Rattle.map_assembly.proofs.writing.push_pending.Given as goal

abbrev pub invariant-loop-sid : goal.invariant-loop-sid
invariant-loop-sid l = l.elements.items ≡ l.fn.elements.items ++ map (pending_element l.end) (take l.sid-index l.sid-items)
