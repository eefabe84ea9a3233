use Rattle.std.proofs.Common.{◌≡◌, ◌++◌, take}
use Rattle.plant_script.proofs.Common.{flat_map, map_line}
use Rattle.plant_script.proofs.on_threads.put_maps.Given as goal

abbrev pub invariant-loop-made : goal.invariant-loop-made
invariant-loop-made l = l.text.items ≡ l.fn.text.items ++ flat_map map_line (take l.made-index l.maps)
