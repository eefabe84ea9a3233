use Rattle.std.proofs.Common.{refl}
use Rattle.run_model.specs.declared.step.Step.TheVariants as steps
use Rattle.plant_core.proofs.live.held.LiveCore.work.Goals as goal

pub act_if-requires : goal.act_if-requires
act_if-requires c = (steps.Work c.args.op, refl)

pub take_request_at-requires : goal.take_request_at-requires
take_request_at-requires c = (c.request_at.ensures c.in-Some.first).0 c.in-Some.is

pub returns-in-Err-clause-fault : goal.returns-in-Err-clause-fault
returns-in-Err-clause-fault c =
    let has = (c.request_at.ensures c.in-Some.first).0 c.in-Some.is in
    rw has.book_is refl
