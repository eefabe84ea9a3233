use Rattle.std.proofs.Common.{ap, take, ◌∙◌, List}
use Rattle.plant_workers.proofs.CellStateLemmas.Common.{count_by, Entry, replay_one, has_frame}
use Rattle.plant_workers.proofs.CellStateLemmas.TakeLemmas.{collected}
use Rattle.plant_workers.proofs.cell_state.held.Held.into_parts.Goals as goal

pub returns-clause-within : goal.returns-clause-within
returns-clause-within g c =
    let book = c.args.self.book.kept.book in
    (collected book.history c.args.self.collected c.entries_with_frame-taken.result (replay_one book c.always_replayed.ensures)
    (c.entries_with_frame-taken.ensures ∙ ap (λ (es : List Entry). count_by has_frame (take c.args.self.collected es)) c.history.ensures)).0

pub returns-clause-taken : goal.returns-clause-taken
returns-clause-taken g c =
    let book = c.args.self.book.kept.book in
    (collected book.history c.args.self.collected c.entries_with_frame-taken.result (replay_one book c.always_replayed.ensures)
    (c.entries_with_frame-taken.ensures ∙ ap (λ (es : List Entry). count_by has_frame (take c.args.self.collected es)) c.history.ensures)).1
