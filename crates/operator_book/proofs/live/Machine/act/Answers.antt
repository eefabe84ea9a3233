use Rattle.operator_book.proofs.Judged.{handed_on}
use Rattle.operator_book.proofs.live.Machine.act.Goals as goal

pub returns-in-Err-clause-not_mine : goal.returns-in-Err-clause-not_mine
returns-in-Err-clause-not_mine c = λ modem. handed_on c.plan.result c.in-Err.fault _ _ c.in-Err.is (c.plan.ensures.not_mine modem)

pub returns-in-Err-clause-unfit : goal.returns-in-Err-clause-unfit
returns-in-Err-clause-unfit c = λ unfit. handed_on c.plan.result c.in-Err.fault _ _ c.in-Err.is (c.plan.ensures.unfit unfit)
