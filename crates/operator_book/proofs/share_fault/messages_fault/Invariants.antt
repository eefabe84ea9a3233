use Rattle.std.proofs.Common.{◌≡◌, drop}
use Rattle.operator_book.proofs.Common.{Arrival, first_fault_in, modem_fault}
use Rattle.operator_book.proofs.share_fault.messages_fault.Given as goal

abbrev pub invariant-loop-arrival : goal.invariant-loop-arrival
invariant-loop-arrival l = first_fault_in (λ (arrival : Arrival). modem_fault l.row arrival.modem) (drop l.arrival-index l.inbox) ≡ first_fault_in (λ (arrival : Arrival). modem_fault l.row arrival.modem) l.inbox
