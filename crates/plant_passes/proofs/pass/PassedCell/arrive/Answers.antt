use Rattle.plant_passes.specs.Passes.{RefusesArrival, pass_view}
use Rattle.plant_passes.proofs.Cells.{no_hands}
use Rattle.plant_passes.proofs.Calls.{acts_later, refused_early, refused_later, refused_now}
use Rattle.plant_passes.proofs.pass.PassedCell.arrive.Goals as goal

pub act-requires-clause-idle : goal.act-requires-clause-idle
act-requires-clause-idle g c =
    let p = c.copy_if_open.new.pass in
    record { ticket = p.ticket; holds_book = p.holds_book; hand_is = no_hands _ p.hand_is; number = p.number_is; passes = p.passes }

pub returns-in-Err-clause-err : goal.returns-in-Err-clause-err
returns-in-Err-clause-err g c = refused_early _ _ c.in-Err.fault c.copy_if_open.ensures.looks c.copy_if_open.ensures.ended_cell c.in-Err.ensures.err

pub returns-in_err-index-clause-err : goal.returns-in_err-index-clause-err
returns-in_err-index-clause-err g c =
    refused_now (λ fault. RefusesArrival (pass_view c.args.pass.now.seat) fault (pass_view c.act.new.seat)) _ _ c.from_residual.ensures.1
    (refused_later _ _ _ _ c.copy_if_open.ensures.looks c.copy_if_open.ensures.ended_cell c.in_err-index.ensures.err)

pub returns-clause-ok : goal.returns-clause-ok
returns-clause-ok g c = acts_later _ _ _ _ c.in-Ok.told _ c.copy_if_open.ensures.looks c.copy_if_open.ensures.ended_cell c.in-Ok.ensures.copy c.in_ok-index.ensures.ok
