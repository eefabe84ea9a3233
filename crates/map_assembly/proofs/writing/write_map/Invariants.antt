use Rattle.std.proofs.Common.{◌≡◌, ◌++◌, take}
use Rattle.map_assembly.proofs.Common.{spelled_elements, spelled_header}
use Rattle.map_assembly.proofs.writing.write_map.Given as goal

abbrev pub invariant-loop-element : goal.invariant-loop-element
invariant-loop-element l = l.bytes.items ≡ spelled_header l.fn.header ++ spelled_elements (take l.element-index l.elements)
