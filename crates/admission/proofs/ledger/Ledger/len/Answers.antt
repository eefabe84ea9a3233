use Rattle.std.proofs.Common.{arith}
use Rattle.admission.proofs.ledger.Ledger.len.Goals as goal

pub overflow_cast-result : goal.overflow_cast-result
overflow_cast-result c = omega (arith, c.len.ensures, c.self.invariant.within, c.self.invariant.small, c.self.inside.rows.ok.0)
