use Rattle.std.proofs.Common.{sym, ◌∙◌}
use Rattle.slice_table.specs.ReadRows.{modem_read}
use Rattle.slice_table.proofs.EachValue.{each_next, each_end}
use Rattle.slice_table.proofs.read_rows.modems_each.Goals as goal

pub loop-value-preserved : goal.loop-value-preserved
loop-value-preserved c =
    rw c.in_ok-push.ensures.items
    (each_next (modem_read c.args.place) c.args.values.now _ _ _ _ _
    c.loop-value-test.true c.value-item.is c.loop-value.invariant (sym c.modem_of.ensures ∙ c.in_ok-modem.was))

pub returns : goal.returns
returns c = each_end (modem_read c.args.place) c.args.values.now _ _ _ c.loop-value-test.false c.loop-value.invariant
