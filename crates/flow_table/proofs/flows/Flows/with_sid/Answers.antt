use Rattle.std.proofs.Common.{sym, ◌∙◌}
use Rattle.flow_table.proofs.IndexLemmas.{with_sid_none, with_sid_some, with_sid_there}
use Rattle.flow_table.proofs.flows.Flows.with_sid.Goals as goal

pub returns-in_err-sfid-clause-value : goal.returns-in_err-sfid-clause-value
returns-in_err-sfid-clause-value c =
    rw (← c.self.view_is)
    (c.from_residual.ensures ∙ sym (with_sid_none c.self.invariant.indexed c.args.sid (sym c.get.ensures.value ∙ (sym c.copied.ensures ∙ c.in_err-sfid.was))))

pub returns-in_err-flow-clause-value : goal.returns-in_err-flow-clause-value
returns-in_err-flow-clause-value c =
    let sfid_is = sym c.get.ensures.value ∙ (sym c.copied.ensures ∙ c.in_ok-sfid.was) in
    let none = sym (rw (← c.self.view_is) at c.get-2.ensures) ∙ (sym c.copied-2.ensures ∙ c.in_err-flow.was) in
    absurd (with_sid_there c.self.invariant.indexed c.args.sid c.in_ok-sfid.sfid sfid_is none)

pub returns-clause-value : goal.returns-clause-value
returns-clause-value c =
    let sfid_is = sym c.get.ensures.value ∙ (sym c.copied.ensures ∙ c.in_ok-sfid.was) in
    let flow_is = sym (rw (← c.self.view_is) at c.get-2.ensures) ∙ (sym c.copied-2.ensures ∙ c.in_ok-flow.was) in
    rw (← c.self.view_is)
    (sym (with_sid_some c.self.invariant.indexed c.args.sid c.in_ok-sfid.sfid c.in_ok-flow.flow sfid_is flow_is))
