use Rattle.std.proofs.Common.{◌≡◌, refl, subst, IfOk, OnOk}
use Rattle.operator_book.proofs.Common.{StepResult}
use Rattle.operator_model.specs.declared.heard.Heard.TheVariants as heards
use Rattle.operator_book.proofs.Inbox.{worked_is}
use Rattle.operator_book.proofs.machine.MachineState.take_request.Goals as goal

pub returns-clause-state : goal.returns-clause-state
returns-clause-state c =
    let first = c.args.first in
    subst (λ (ran : StepResult). OnOk c.take_requested.result (c.take_requested.new.self ≡ record c.args.self.now { state = ran.state }))
    (worked_is c.args.self.now (record { modem = first.modem; heard = heards.Request first.sid first.minislots }) (heards.Request first.sid first.minislots) c.requires refl)
    c.take_requested.ensures.state

pub returns-clause-outputs : goal.returns-clause-outputs
returns-clause-outputs c =
    let first = c.args.first in
    subst (λ (ran : StepResult). IfOk c.take_requested.result (λ outputs. outputs.items ≡ ran.outputs))
    (worked_is c.args.self.now (record { modem = first.modem; heard = heards.Request first.sid first.minislots }) (heards.Request first.sid first.minislots) c.requires refl)
    c.take_requested.ensures.outputs
