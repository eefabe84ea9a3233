use Rattle.std.proofs.Common.{refl, ap, arith, below_more, length}
use Rattle.plant_workers.proofs.AuditLemmas.Common.{false≢true, get_or-replicate}
use Rattle.plant_workers.proofs.audit.counting.are_ticked.Goals as goal

pub count_all_ticks-requires : goal.count_all_ticks-requires
count_all_ticks-requires c i lt = get_or-replicate 32 i 0 0 lt

pub count_all_collects-requires : goal.count_all_collects-requires
count_all_collects-requires c i lt = get_or-replicate 32 i 0 0 lt

pub returns-then-ticks-op : goal.returns-then-ticks-op
returns-then-ticks-op c = (
  λ wrong. absurd (false≢true wrong),
  λ ticked.
      let long = ap length c.rows-op-end.ensures.value in
      let few = c.rows-op-end.ensures.valid.few in
      let lt = c.loop-op-test.true in
      let le = ticked c.loop-op.op (omega (arith, lt, long)) in
      let ticks = c.count_all_ticks.ensures c.loop-op.op (omega (arith, lt, long, few, c.count_all_ticks.auto.counts)) in
      let collects = c.count_all_collects.ensures c.loop-op.op (omega (arith, lt, long, few, c.count_all_collects.auto.counts)) in
      absurd (omega (arith, le, c.if-ticks-op.true, ticks, collects)),
)

pub loop-op-preserved : goal.loop-op-preserved
loop-op-preserved c =
    let long = ap length c.rows-op-end.ensures.value in
    let few = c.rows-op-end.ensures.valid.few in
    let lt = c.loop-op-test.true in
    let ticks = c.count_all_ticks.ensures c.loop-op.op (omega (arith, lt, long, few, c.count_all_ticks.auto.counts)) in
    let collects = c.count_all_collects.ensures c.loop-op.op (omega (arith, lt, long, few, c.count_all_collects.auto.counts)) in
    below_more _ _ c.loop-op.invariant (omega (arith, c.if-ticks-op.false, ticks, collects))

pub returns : goal.returns
returns c = (λ _ i lt. let long = ap length c.rows-op-end.ensures.value in c.loop-op.invariant i (omega (arith, lt, long, c.loop-op-test.false)), λ _. refl)
