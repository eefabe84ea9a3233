use Rattle.std.proofs.Common.{ℕ, List, subst}
use Rattle.operator_book.proofs.Common.{Flow, HaveOwnSids}
use Rattle.operator_book.proofs.machine.MachineState.resume.Goals as goal

-- the flows of the table are those of the state
pub has_sound_state-requires-clause-own : goal.has_sound_state-requires-clause-own
has_sound_state-requires-clause-own c = subst (λ (flows : List (ℕ × Flow)). HaveOwnSids flows) c.flows.ensures c.in_ok-flows.ensures.own
