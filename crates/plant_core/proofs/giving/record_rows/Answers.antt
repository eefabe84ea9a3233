use Rattle.std.proofs.Common.{arith}
use Rattle.std.proofs.lemmas.Option.{slice_get-get_or}
use Rattle.plant_core.proofs.GiveLemmas.{none_recorded, one_more_recorded, all_recorded}
use Rattle.plant_core.proofs.giving.record_rows.Goals as goal

pub loop-op-init : goal.loop-op-init
loop-op-init c = none_recorded c.args.from c.args.rows.now c.args.histories.now.items

pub loop-op-preserved : goal.loop-op-preserved
loop-op-preserved c =
    let now = c.loop-op.histories in
    one_more_recorded c.args.from c.args.rows.now c.args.histories.now.items now.items now.len c.loop-op.op c.index_mut-history.result.now now.ok.0
    (omega (arith, c.loop-op-test.true, c.requires.one_each, c.loop-op.invariant.one_each, now.ok.0, c.args.histories.now.ok.0))
    c.index_mut-history.ensures.value c.loop-op.invariant c.push.new.self _ _ (slice_get-get_or c.args.rows.now c.loop-op.op _ c.loop-op-test.true) c.push.ensures c.new-outputs.ensures

pub returns : goal.returns
returns c = all_recorded c.args.from c.args.rows.now c.args.histories.now.items c.loop-op.histories.items c.loop-op.op (omega (arith, c.loop-op-test.false)) c.loop-op.invariant
