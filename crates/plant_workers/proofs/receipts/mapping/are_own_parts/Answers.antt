use Rattle.std.proofs.Common.{refl, sym, ◌∙◌}
use Rattle.plant_workers.proofs.ReceiptsLemmas.Common.{false≢true, IsFramePart, AreFramesOf}
use Rattle.plant_workers.proofs.ReceiptsLemmas.Lists.{zip_some, all_more, all_end, all_not}
use Rattle.plant_workers.proofs.receipts.mapping.are_own_parts.Goals as goal

pub has_own_part-requires : goal.has_own_part-requires
has_own_part-requires c = zip_some AreFramesOf c.args.all.now c.requires.0 c.loop-own.own-index c.own-item.result c.loop-own-test.true c.own-item.is c.requires.1

pub returns-then-not-branch : goal.returns-then-not-branch
returns-then-not-branch c = λ books zip. (
  λ is. absurd (false≢true is),
  λ all. absurd (all_not AreFramesOf (IsFramePart c.args.made.now c.args.view.now) c.args.all.now books c.loop-own.own-index c.own-item.result c.loop-own-test.true c.own-item.is zip
      (λ book its own. false≢true (sym c.if-not-branch.true ∙ (c.in_ok-has_own_part.ensures book its).1 own)) all),
)

pub loop-own-preserved : goal.loop-own-preserved
loop-own-preserved c = λ books zip.
    all_more AreFramesOf (IsFramePart c.args.made.now c.args.view.now) c.args.all.now books c.loop-own.own-index c.own-item.result c.loop-own-test.true c.own-item.is zip
    (λ book its. (c.in_ok-has_own_part.ensures book its).0 c.if-not-branch.false) (c.loop-own.invariant books zip)

pub returns : goal.returns
returns c = λ books zip. (
  λ is. all_end AreFramesOf (IsFramePart c.args.made.now c.args.view.now) c.args.all.now books c.loop-own.own-index c.loop-own-test.false zip (c.loop-own.invariant books zip),
  λ all. refl,
)
