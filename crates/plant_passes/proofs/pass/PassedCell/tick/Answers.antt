use Rattle.plant_passes.specs.Passes.{RefusesTurn, pass_view}
use Rattle.plant_passes.proofs.Cells.{no_hands}
use Rattle.plant_passes.proofs.Calls.{refused_now}
use Rattle.plant_passes.proofs.pass.PassedCell.tick.Goals as goal

pub act-requires-clause-idle : goal.act-requires-clause-idle
act-requires-clause-idle g c =
    let p = c.args.pass.now in
    record { ticket = p.ticket; holds_book = p.holds_book; hand_is = no_hands _ p.hand_is; number = p.number_is; passes = p.passes }

pub returns-in_err-index-clause-err : goal.returns-in_err-index-clause-err
returns-in_err-index-clause-err g c = refused_now (λ fault. RefusesTurn (pass_view c.args.pass.now.seat) fault (pass_view c.act.new.seat)) _ _
    c.from_residual.ensures.1 c.in_err-index.ensures.err
