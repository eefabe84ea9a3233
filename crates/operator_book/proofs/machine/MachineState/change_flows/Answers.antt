use Rattle.std.proofs.Common.{rules, subst}
use Rattle.operator_book.specs.declared.boxed_verdict.BoxedVerdict.{BoxedVerdict}
use Rattle.operator_book.specs.Held.{flow_table_of, verdict_of, MayPut}
use Rattle.operator_book.proofs.Room.{may_stand_same}
use Rattle.operator_book.proofs.machine.MachineState.change_flows.Goals as goal

pub put_flow-requires : goal.put_flow-requires
put_flow-requires c =
    may_stand_same (flow_table_of c.args.self.now) c.self.inside.flows c.in-Put.sfid c.in-Put.flow.value (search rules) (search rules)
    (subst (λ (v : BoxedVerdict). MayPut (flow_table_of c.args.self.now) (verdict_of v)) c.in-Put.is c.requires)
