use Rattle.std.proofs.Common.{◌≡◌, ◌≤◌, ◌++◌, take, drop, length}
use Rattle.plant_workers.proofs.AuditLemmas.Common.{frames_in, waiting_in, puts_of}
use Rattle.plant_workers.proofs.audit.putting.first_missed.Given as goal

abbrev pub invariant-loop-placing : goal.invariant-loop-placing
invariant-loop-placing l = record {
  within : l.given ≤ length (take l.due (frames_in l.history));
  left : waiting_in l.history l.from ≡ drop l.given (frames_in l.history);
  followed : puts_of l.op l.placings ≡ take l.given (take l.due (frames_in l.history)) ++ puts_of l.op (drop l.placing-index l.placings);
}
