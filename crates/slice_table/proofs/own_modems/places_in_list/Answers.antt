use Rattle.std.proofs.Common.{[], get_or, take}
use Rattle.slice_table.proofs.Common.{take_more, Modem}
use Rattle.slice_table.proofs.Places.{lists_one}
use Rattle.slice_table.proofs.own_modems.places_in_list.Goals as goal

pub loop-place-preserved : goal.loop-place-preserved
loop-place-preserved c =
    let here = c.loop-place in
    let ms = c.args.modems.now in
    let none : Modem = record { 0 = [] } in
    rw (take_more ms here.place none c.loop-place-test.true)
    (lists_one here.places c.insert.new.self here.place (take here.place ms) (get_or ms here.place none) here.invariant c.in_ok-insert.ensures.updates.0)
