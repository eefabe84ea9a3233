use Rattle.slice_table.specs.ReadConsts.{class_read}
use Rattle.slice_table.proofs.EachValue.{each_next, each_end}
use Rattle.slice_table.proofs.read_consts.classes_each.Goals as goal

pub loop-value-preserved : goal.loop-value-preserved
loop-value-preserved c =
    rw c.in_ok-push.ensures.items
    (each_next class_read c.args.values.now _ _ _ _ _
    c.loop-value-test.true c.value-item.is c.loop-value.invariant (rw c.as_slice.ensures.value at c.in_ok-class.ensures))

pub returns : goal.returns
returns c = each_end class_read c.args.values.now _ _ _ c.loop-value-test.false c.loop-value.invariant
