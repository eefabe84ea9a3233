use Rattle.std.proofs.Common.{◌≡◌, rules, refl, subst, IfOk}
use Rattle.operator_book.proofs.Common.{Some, length, slice_get, slice_get_read, message_of, StepResult}
use Rattle.operator_model.specs.declared.heard.Heard.TheVariants as heards
use Rattle.operator_book.specs.Planned.{IsPlanFor}
use Rattle.operator_book.proofs.Inbox.{worked_is}
use Rattle.operator_book.proofs.machine.MachineState.work_plan.Goals as goal

pub returns-in-Message : goal.returns-in-Message
returns-in-Message c =
    let first : slice_get c.args.self.now.state.inbox 0 ≡ Some c.in-Some.first.now = slice_get_read c.args.self.now.state.inbox (length c.args.self.now.state.inbox) 0 c.in-Some.first.now refl (search rules) (search rules) in
    subst (λ (ran : StepResult). IfOk c.read_plan.result (IsPlanFor c.args.self.now ran)) (worked_is c.args.self.now c.in-Some.first.now (heards.Message c.in-Message.bytes) first (search rules))
    (c.read_plan.ensures (message_of c.in-Message.bytes) (search rules))

pub returns-in-Request : goal.returns-in-Request
returns-in-Request c =
    let first : slice_get c.args.self.now.state.inbox 0 ≡ Some c.in-Some.first.now = slice_get_read c.args.self.now.state.inbox (length c.args.self.now.state.inbox) 0 c.in-Some.first.now refl (search rules) (search rules) in
    subst (λ (ran : StepResult). IfOk c.bandwidth_request_plan.result (IsPlanFor c.args.self.now ran)) (worked_is c.args.self.now c.in-Some.first.now (heards.Request c.in-Request.sid c.in-Request.minislots) first (search rules))
    c.bandwidth_request_plan.ensures
