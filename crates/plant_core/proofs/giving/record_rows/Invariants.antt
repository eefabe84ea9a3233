use Rattle.plant_core.proofs.GiveLemmas.{HaveRecordedSoFar}
use Rattle.plant_core.proofs.giving.record_rows.Given as goal

abbrev pub invariant-loop-op : goal.invariant-loop-op
invariant-loop-op l = HaveRecordedSoFar l.from l.rows l.initial.histories.items l.histories.items l.op
