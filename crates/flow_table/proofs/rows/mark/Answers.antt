use Rattle.flow_table.proofs.PlacedLemmas.{row_stands, row_gap}
use Rattle.flow_table.proofs.rows.mark.Goals as goal

pub returns-in_default-clause-items : goal.returns-in_default-clause-items
returns-in_default-clause-items c = rw c.in-Active.is (row_stands _ c.args.sfid c.args.place _ c.requires.ascending (rw c.deref.ensures.value at c.in_default.ensures.found) c.requires.same)

pub returns-in_default-place_of-clause-items : goal.returns-in_default-place_of-clause-items
returns-in_default-place_of-clause-items c = rw c.in-Idle.is (row_gap _ c.args.sfid _ (rw c.deref-in-Idle.ensures.value at c.in_default-place_of.ensures.absent))
