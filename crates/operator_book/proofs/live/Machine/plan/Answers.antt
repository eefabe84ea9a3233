use Rattle.operator_book.proofs.Judged.{handed_on}
use Rattle.operator_book.proofs.live.Machine.plan.Goals as goal

pub returns-in-Err-clause-not_mine : goal.returns-in-Err-clause-not_mine
returns-in-Err-clause-not_mine c = rw (← c.self.view_is) (λ modem. handed_on c.judge.result c.in-Err.fault _ _ c.in-Err.is (c.judge.ensures.not_mine modem))

pub returns-in-Err-clause-unfit : goal.returns-in-Err-clause-unfit
returns-in-Err-clause-unfit c = rw (← c.self.view_is) (λ unfit. handed_on c.judge.result c.in-Err.fault _ _ c.in-Err.is (c.judge.ensures.unfit unfit))
