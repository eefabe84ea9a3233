use Rattle.std.proofs.Common.{take, map}
use Rattle.plant_workers.proofs.ReceiptsLemmas.Common.{All, view_of, HasOwnParts}
use Rattle.plant_workers.proofs.receipts.mapping.first_map_strayed.Given as goal

abbrev pub invariant-loop-made : goal.invariant-loop-made
invariant-loop-made g l = All (HasOwnParts (map view_of l.books)) (take l.made-index l.maps)
