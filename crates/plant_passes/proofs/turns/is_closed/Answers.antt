use Rattle.std.proofs.Common.{rules}
use Rattle.plant_passes.proofs.Moves.{looks}
use Rattle.plant_passes.proofs.turns.is_closed.Goals as goal

pub load-requires : goal.load-requires
load-requires g c = (search rules, search rules, looks _ _ _ _ _ (search rules) c.requires.idle.holds_book)
