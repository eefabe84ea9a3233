use Rattle.std.proofs.Common.{◌≡◌, map, take}
use Rattle.plant_core.proofs.LiveLemmas.Common.{sound_of}
use Rattle.plant_core.proofs.LiveLemmas.OpenLemmas.{as_opened}
use Rattle.plant_core.proofs.live.opening.opened_lives.Given as goal

abbrev pub invariant-loop-row : goal.invariant-loop-row
invariant-loop-row l = map sound_of l.lives.items ≡ map (as_opened l.consts) (take l.row-index l.rows)
