use Rattle.std.proofs.Common.{sym, subst, map}
use Rattle.plant_core.proofs.LiveLemmas.Common.{sound_of, IsSoundAt, IsAtFrame, WaitsFrom, IsOddFault}
use Rattle.plant_core.proofs.LiveLemmas.ResumeLemmas.{all_more, all_gone}
use Rattle.plant_core.proofs.LiveLemmas.ResumeFaultLemmas.{handed_on, odd_among}
use Rattle.plant_core.proofs.live.resuming.go_together.Goals as goal

pub loop-op-preserved : goal.loop-op-preserved
loop-op-preserved c =
    let at = c.loop-op in
    record {
      sound = all_more IsSoundAt c.args.lives.now at.op c.index-lives-op.result c.loop-op-test.true c.index-lives-op.is at.invariant.sound c.in_ok-goes_along.ensures.sound;
      frames = all_more (IsAtFrame c.args.frame) c.args.lives.now at.op c.index-lives-op.result c.loop-op-test.true c.index-lives-op.is at.invariant.frames c.in_ok-goes_along.ensures.frame;
      alike = all_more (WaitsFrom c.args.from) c.args.lives.now at.op c.index-lives-op.result c.loop-op-test.true c.index-lives-op.is at.invariant.alike c.in_ok-goes_along.ensures.alike;
    }

pub returns : goal.returns
returns c =
    let at = c.loop-op in
    record {
      sound = all_gone IsSoundAt c.args.lives.now at.op c.loop-op-test.false at.invariant.sound;
      frames = all_gone (IsAtFrame c.args.frame) c.args.lives.now at.op c.loop-op-test.false at.invariant.frames;
      alike = all_gone (WaitsFrom c.args.from) c.args.lives.now at.op c.loop-op-test.false at.invariant.alike;
      fault = tt;
    }

pub returns-in_err-goes_along-clause-fault : goal.returns-in_err-goes_along-clause-fault
returns-in_err-goes_along-clause-fault c =
    let fault = c.in_err-goes_along.field-0.0 in
    let at = c.loop-op in
    let Odd = IsOddFault c.args.frame c.args.from (map sound_of c.args.lives.now) in
    handed_on c.from_residual.result _ Odd c.from_residual.ensures.1
    (λ e is. subst Odd (sym is)
    (odd_among c.args.frame c.args.from c.args.lives.now at.op c.index-lives-op.result c.loop-op-test.true c.index-lives-op.is at.invariant.frames at.invariant.alike fault c.in_err-goes_along.ensures.fault))
