use Rattle.plant_core.proofs.WaitingLemmas.{replay_one}
use Rattle.plant_workers.proofs.cell_state.held.Held.again.Goals as goal

pub behind-collected-requires-clause-one : goal.behind-collected-requires-clause-one
behind-collected-requires-clause-one g c = rw c.history.ensures (replay_one c.args.book.kept.book c.always_replayed.ensures)
