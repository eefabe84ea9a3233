use Rattle.std.proofs.Common.{rules}
use Rattle.operator_book.proofs.Room.{sid_in_range, few_sids}
use Rattle.operator_book.proofs.machine.MachineState.change_verdict.Goals as goal

pub change_within_limit-requires-clause-range : goal.change_within_limit-requires-clause-range
change_within_limit-requires-clause-range c =
    few_sids c.in-Ok.change.flow.sid c.args.self.now.row.sids.last (search rules)
    (sid_in_range c.args.self.now.state.flows c.args.self.now.row.sids c.in-Ok.change.sfid c.in-Ok.change.flow c.requires (search rules))
