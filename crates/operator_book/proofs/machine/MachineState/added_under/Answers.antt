use Rattle.std.proofs.Common.{rules}
use Rattle.operator_book.specs.Held.{flow_table_of}
use Rattle.operator_book.proofs.Room.{new_may_stand}
use Rattle.operator_book.proofs.machine.MachineState.added_under.Goals as goal

pub put_within_limit-requires : goal.put_within_limit-requires
put_within_limit-requires c =
    new_may_stand (flow_table_of c.args.self.now) c.in-Some-Some.sfid c.in-Some-Some.sid c.args.self.now.row.sids c.new_flow-flow.result
    (search rules) c.requires.room (search rules) (search rules)
