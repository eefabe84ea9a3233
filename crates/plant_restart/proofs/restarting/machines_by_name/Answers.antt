use Rattle.std.proofs.Common.{map, length, refl, sym, subst}
use Rattle.plant_restart.proofs.Common.{take_all, slice_get_read, RowFields, sound_of, operator_by_name, saved_by_name, IsRowsFault}
use Rattle.plant_core.proofs.LiveLemmas.ResumeFaultLemmas.{handed_on}
use Rattle.plant_restart.proofs.RestartLemmas.{machine_more, of_row}
use Rattle.plant_restart.proofs.restarting.machines_by_name.Goals as goal

pub returns-in_err-machine-clause-fault : goal.returns-in_err-machine-clause-fault
returns-in_err-machine-clause-fault c =
    let states = map (saved_by_name c.args.frame) c.args.operators.now in
    let Fits = IsRowsFault c.args.consts.now states c.args.rows.now in
    let there = slice_get_read c.args.rows.now (length c.args.rows.now) c.loop-op.op c.index-rows-op.result refl c.loop-op-test.true c.index-rows-op.is in
    handed_on c.from_residual-in_err-machine.result _ Fits c.from_residual-in_err-machine.ensures.1
    (λ e is. subst Fits (sym is) (of_row c.args.consts.now states c.args.rows.now c.loop-op.op c.index-rows-op.result _ there c.in_err-machine.ensures.fault))

pub loop-op-preserved : goal.loop-op-preserved
loop-op-preserved c =
    let at = c.loop-op in
    let states = map (saved_by_name c.args.frame) c.args.operators.now in
    machine_more sound_of (operator_by_name c.args.consts.now c.args.frame states) at.machines.items _ c.args.rows.now at.op c.in_ok-machine.machine c.index-rows-op.result
    c.in_ok-push.ensures.items c.loop-op-test.true c.index-rows-op.is c.in_ok-machine.ensures.ok at.invariant
