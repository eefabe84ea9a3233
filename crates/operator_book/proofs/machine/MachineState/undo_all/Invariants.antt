use Rattle.std.proofs.Common.{◌≡◌, drop}
use Rattle.operator_model.specs.Frame.{all_undone}
use Rattle.operator_book.proofs.machine.MachineState.undo_all.Given as goal

abbrev pub invariant-loop-gone : goal.invariant-loop-gone
invariant-loop-gone l =
    record l.self { state = record l.self.state { flows = all_undone (drop l.gone-index l.given_up) l.self.state.flows } }
    ≡ record l.fn.self { state = record l.fn.self.state { flows = all_undone l.given_up l.fn.self.state.flows } }
