use Rattle.slice_table.specs.ReadRows.{provision_read}
use Rattle.slice_table.proofs.EachValue.{each_next, each_end}
use Rattle.slice_table.proofs.RowReading.{sets_read}
use Rattle.slice_table.proofs.read_rows.provisions_each.Goals as goal

pub loop-value-preserved : goal.loop-value-preserved
loop-value-preserved c =
    let read = rw c.as_slice.ensures.value at c.in_ok-flow.ensures in
    rw c.in_ok-push.ensures.items (record {
      left = each_next (provision_read c.args.consts.now c.args.operator c.args.modems.now) c.args.values.now _ _ _ _ _
          c.loop-value-test.true c.value-item.is c.loop-value.invariant.left read;
      sets = sets_read c.args.consts.now c.args.operator c.args.modems.now _ _ _ c.loop-value.invariant.sets read;
    })

pub returns : goal.returns
returns c =
    each_end (provision_read c.args.consts.now c.args.operator c.args.modems.now) c.args.values.now _ _ _ c.loop-value-test.false c.loop-value.invariant.left
