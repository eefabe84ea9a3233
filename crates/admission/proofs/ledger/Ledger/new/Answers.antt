use Rattle.std.proofs.Common.{rules}
use Rattle.admission.proofs.LedgerLemmas.{IsLedger-empty}
use Rattle.admission.proofs.ledger.Ledger.new.Goals as goal

pub invariant_of-result : goal.invariant_of-result
invariant_of-result c = rw c.in_ok-with_capacity.ensures.items (IsLedger-empty _ _ (search rules) c.in_ok-with_capacity.ensures.exact)
