use Rattle.std.proofs.Common.{rules}
use Rattle.operator_book.proofs.Common.{changed_flow, Some, true, false}
use Rattle.operator_book.specs.Held.{flow_table_of}
use Rattle.operator_book.proofs.Room.{same_may_stand, given_may_stand}
use Rattle.operator_book.proofs.machine.MachineState.change_within_limit.Goals as goal

pub changed_with-requires-clause-stands : goal.changed_with-requires-clause-stands
changed_with-requires-clause-stands c =
    same_may_stand (flow_table_of c.args.self.now) c.args.change.now.sfid c.args.change.now.flow (changed_flow c.args.change.now c.args.change.now.flow.sid false)
    (search rules) (search rules) c.requires.there (search rules)

pub changed_with-requires-in-Some-clause-stands : goal.changed_with-requires-in-Some-clause-stands
changed_with-requires-in-Some-clause-stands c =
    given_may_stand (flow_table_of c.args.self.now) c.args.change.now.sfid c.sid_of.result c.args.self.now.row.sids c.args.change.now.flow (changed_flow c.args.change.now (Some c.sid_of.result) true)
    (search rules) (search rules) c.requires.there (search rules) (search rules)
