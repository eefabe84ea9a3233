use Rattle.std.proofs.Common.{◌≡◌, ◌++◌, map, take}
use Rattle.map_assembly.proofs.Common.{element_of_span, map_span}
use Rattle.map_assembly.proofs.writing.push_spans.Given as goal

abbrev pub invariant-loop-span : goal.invariant-loop-span
invariant-loop-span l = l.elements.items ≡ l.fn.elements.items ++ map element_of_span (map map_span (take l.span-index l.span-items))
