use Rattle.std.proofs.Common.{inl, inr}
use Rattle.admission.proofs.MarkLemmas.{marks_none, marks_hit, marks_miss}
use Rattle.admission.proofs.id_range.taken_in.Goals as goal
use Rattle.admission.proofs.id_range.taken_in.Goals.{then-number-base+then-number-base-2, else-number-base, else-number-base-via-then-number-base+else-number-base-2, else-number-base-via-else-number-base}

pub loop-number-init : goal.loop-number-init
loop-number-init c = marks_none c.args.base

pub loop-number-preserved : goal.loop-number-preserved
loop-number-preserved c =
    elim c.if-number-base.branch [
      | then-number-base+then-number-base-2 w ↦
          rw w.taken-is (marks_hit _ _ c.loop-number-test.true _ _ w.if-number-base.true w.if-number-base-2.true c.loop-number.invariant)
      | else-number-base w ↦ rw w.taken-is (elim w.else-number-base.branch [
        | else-number-base-via-then-number-base+else-number-base-2 w' ↦
            marks_miss _ _ c.loop-number-test.true _ _ (inr w'.if-number-base-2.false) c.loop-number.invariant
        | else-number-base-via-else-number-base w' ↦
            marks_miss _ _ c.loop-number-test.true _ _ (inl w'.if-number-base.false) c.loop-number.invariant
      ])
    ]
