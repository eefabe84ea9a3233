use Rattle.std.proofs.Common.{refl, sym, ◌∙◌}
use Rattle.run_model.proofs.Moving.{silent}
use Rattle.plant_workers.proofs.CellStateLemmas.RoomLemmas.{waits_still}
use Rattle.plant_workers.proofs.cell_state.held.Held.reslice.Goals as goal

pub returns-clause-waiting : goal.returns-clause-waiting
returns-clause-waiting g c = waits_still c.args.self.now.book.kept.book _ c.args.from c.args.row c.args.self.now.collected c.requires.within c.reslice.ensures

pub returns-clause-receipt : goal.returns-clause-receipt
returns-clause-receipt g c =
    let book = c.args.self.now.book.kept.book in
    record { index_is = c.count-index.ensures; action_is = refl; outputs_are = c.new.ensures ∙ sym (silent book.consts book.row book.state c.args.from c.args.row) }
