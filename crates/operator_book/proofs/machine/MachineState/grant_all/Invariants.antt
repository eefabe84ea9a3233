use Rattle.std.proofs.Common.{◌≡◌, drop}
use Rattle.operator_model.specs.Frame.{all_granted}
use Rattle.operator_book.proofs.machine.MachineState.grant_all.Given as goal

abbrev pub invariant-loop-granted : goal.invariant-loop-granted
invariant-loop-granted l =
    record l.self { state = record l.self.state { flows = all_granted l.frame (drop l.granted-index l.grants) l.self.state.flows } }
    ≡ record l.fn.self { state = record l.fn.self.state { flows = all_granted l.frame l.grants l.fn.self.state.flows } }
