use Rattle.plant_passes.proofs.Cells.{no_hands}
use Rattle.plant_passes.proofs.pass.PassedCell.copy_if_open.Goals as goal

pub is_closed-requires-clause-idle : goal.is_closed-requires-clause-idle
is_closed-requires-clause-idle g c =
    let p = c.args.pass.now in
    record { ticket = p.ticket; holds_book = p.holds_book; hand_is = no_hands _ p.hand_is; number = p.number_is; passes = p.passes }
