use Rattle.std.proofs.Common.{◌≡◌, Option, Result, Err, ap}
use Rattle.plant_workers.proofs.AuditLemmas.Common.{MapBytes, Refused, GatherFault}
use Rattle.plant_workers.proofs.AuditLemmas.Placed.{fault_refused}
use Rattle.plant_workers.proofs.audit.assembly.put_kept.Goals as goal

pub returns-in-Err-clause-fault : goal.returns-in-Err-clause-fault
returns-in-Err-clause-fault c fault ne = (
  λ e.
      let same : c.in-Err.refused.fault ≡ fault = cc in
      let refused : c.in-Err.refused ≡ record { fault = fault; elements = c.args.elements } = λ i. record { fault = same i; elements = c.in-Err.ensures.refused i } in
      (c.in-Err.ensures.fault fault ne).0 (ap (λ (r : Refused). let x : Result (Option MapBytes) Refused = Err r in x) refused),
  λ e. ap (λ (f : GatherFault). Err f) (ap (fault_refused fault) ((c.in-Err.ensures.fault fault ne).1 e)),
)
