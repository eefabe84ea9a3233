use Rattle.std.proofs.Common.{sym, subst}
use Rattle.dsx_messages.proofs.Common.{IfSome, Kind, IsDetailSpelling}
use Rattle.dsx_messages.proofs.Replies.{every_accepted_addition, every_accepted_change, every_refused_addition, every_refused_change}
use Rattle.dsx_messages.proofs.reply_reading.detail_of.Goals as goal

pub returns-in-Okay-clause-every : goal.returns-in-Okay-clause-every
returns-in-Okay-clause-every c =
    every_accepted_addition c.args.tail.now c.accepted_addition.result c.args.kind c.args.code c.in-Dsa.is c.in-Okay.is c.accepted_addition.ensures.every

pub returns-in_default : goal.returns-in_default
returns-in_default c = record {
  spelled = subst (λ (k : Kind). IfSome c.refused_addition.result (IsDetailSpelling k c.args.code c.args.tail.now)) (sym c.in-Dsa.is) (c.refused_addition.ensures.spelled c.in_default.not-Okay);
  every = every_refused_addition c.args.tail.now c.refused_addition.result c.args.kind c.args.code c.in-Dsa.is c.in_default.not-Okay c.refused_addition.ensures.every c.refused_addition.ensures.every_errored c.refused_addition.ensures.every_reference;
}

pub returns-in-Okay-code-clause-every : goal.returns-in-Okay-code-clause-every
returns-in-Okay-code-clause-every c =
    every_accepted_change c.args.tail.now c.accepted_change.result c.args.kind c.args.code c.in-Dsc.is c.in-Okay-code.is c.accepted_change.ensures.every c.accepted_change.ensures.every_with_sid

pub returns-in_default-code : goal.returns-in_default-code
returns-in_default-code c = record {
  spelled = subst (λ (k : Kind). IfSome c.refused_change.result (IsDetailSpelling k c.args.code c.args.tail.now)) (sym c.in-Dsc.is) (c.refused_change.ensures.spelled c.in_default-code.not-Okay);
  every = every_refused_change c.args.tail.now c.refused_change.result c.args.kind c.args.code c.in-Dsc.is c.in_default-code.not-Okay c.refused_change.ensures.every c.refused_change.ensures.every_errored c.refused_change.ensures.every_sfid;
}
