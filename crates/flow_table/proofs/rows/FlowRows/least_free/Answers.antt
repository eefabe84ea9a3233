use Rattle.std.proofs.Common.{sym, ap, ◌∙◌}
use Rattle.flow_table.proofs.Common.{least_free_of}
use Rattle.flow_table.proofs.PlacedLemmas.{placed_keys}
use Rattle.flow_table.proofs.rows.FlowRows.least_free.Goals as goal

pub least_free_sfid-requires : goal.least_free_sfid-requires
least_free_sfid-requires c = c.self.invariant.placed.ascending

pub returns : goal.returns
returns c = rw (← c.self.view_is) (c.least_free_sfid.ensures ∙ ap (least_free_of c.args.range.now) (sym (placed_keys c.self.invariant.placed)))
