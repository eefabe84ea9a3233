use Rattle.plant_workers.proofs.CellStateLemmas.Common.{waiting_in, replay_one}
use Rattle.plant_workers.proofs.CellStateLemmas.TakeLemmas.{oldest_front}
use Rattle.plant_workers.proofs.cell_state.held.Held.collect.Goals as goal

pub oldest_from-requires-clause-one : goal.oldest_from-requires-clause-one
oldest_from-requires-clause-one g c = rw c.history.ensures (replay_one c.args.self.now.book.kept.book c.always_replayed.ensures)

pub returns-clause-some_book : goal.returns-clause-some_book
returns-clause-some_book g c =
    let held = c.args.self.now in
    let history = held.book.kept.book.history in
    record {
      book = held.book.kept.book;
      replayed = c.always_replayed.ensures;
      place = held.collected;
      later = waiting_in history c.in-Some.oldest.behind;
      waited = oldest_front c.history.result.now history held.collected c.in_ok-oldest.field-0 c.in-Some.oldest c.history.ensures c.in-Some.is c.in_ok-oldest.ensures.value;
    }
