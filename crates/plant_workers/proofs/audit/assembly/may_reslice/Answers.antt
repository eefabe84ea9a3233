use Rattle.std.proofs.Common.{arith}
use Rattle.std.proofs.lemmas.Bool.{false≢true}
use Rattle.plant_workers.proofs.AuditLemmas.Placed.{are_slices, are_few_slices}
use Rattle.plant_workers.proofs.audit.assembly.may_reslice.Goals as goal

pub returns-then-rows-gt-MOST_SLICES : goal.returns-then-rows-gt-MOST_SLICES
returns-then-rows-gt-MOST_SLICES c = (
  λ wrong. absurd (false≢true wrong),
  λ may.
      let few = are_few_slices c.args.gather.now c.args.from c.args.rows.now c.always.ensures may in
      absurd (omega (arith, few, c.if-rows-gt-MOST_SLICES.true)),
)

pub returns-then-not-are_slices : goal.returns-then-not-are_slices
returns-then-not-are_slices c = (
  λ wrong. absurd (false≢true wrong),
  λ may.
      let slices = are_slices c.args.gather.now c.args.from c.args.rows.now c.always.ensures may in
      absurd (false≢true (c.if-not-are_slices.ensures.1 slices)),
)
