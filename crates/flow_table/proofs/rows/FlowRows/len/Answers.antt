use Rattle.std.proofs.Common.{sym, ◌∙◌}
use Rattle.flow_table.proofs.PlacedLemmas.{placed_length}
use Rattle.flow_table.proofs.rows.FlowRows.len.Goals as goal

pub returns : goal.returns
returns c = rw (← c.self.view_is) (c.len.ensures.len ∙ sym (placed_length c.self.invariant.placed))
