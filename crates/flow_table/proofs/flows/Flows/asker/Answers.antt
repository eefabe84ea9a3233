use Rattle.std.proofs.Common.{◌≡◌, ℕ, List, Option, Some, IfSome, ap, sym, subst, ◌∙◌}
use Rattle.std.specs.Option.{option_copied}
use Rattle.flow_table.proofs.Common.{Flow, flow_at, asker_of}
use Rattle.flow_table.proofs.IndexLemmas.{with_sid_none, with_sid_some, with_sid_there}
use Rattle.flow_table.proofs.flows.Flows.asker.Goals as goal

abbrev There : List (ℕ × Flow) → Option (ℕ × Flow) → Type 0
There flows o = IfSome o (λ entry. flow_at entry.0 flows ≡ Some entry.1)

pub returns-in_err-sfid-clause-value : goal.returns-in_err-sfid-clause-value
returns-in_err-sfid-clause-value c =
    let sfid_is = sym c.get.ensures.value ∙ (sym c.copied.ensures ∙ c.in_err-sfid.was) in
    rw (← c.self.view_is)
    (c.from_residual.ensures ∙ sym (ap asker_of (with_sid_none c.self.invariant.indexed c.args.sid sfid_is)))

pub returns-in_err-sfid-clause-there : goal.returns-in_err-sfid-clause-there
returns-in_err-sfid-clause-there c =
    let sfid_is = sym c.get.ensures.value ∙ (sym c.copied.ensures ∙ c.in_err-sfid.was) in
    rw (← c.self.view_is)
    (subst (There c.self.inside.by_sfid) (sym (with_sid_none c.self.invariant.indexed c.args.sid sfid_is)) tt)

pub returns-in_err-flow-clause-value : goal.returns-in_err-flow-clause-value
returns-in_err-flow-clause-value c =
    let sfid_is = sym c.get.ensures.value ∙ (sym c.copied.ensures ∙ c.in_ok-sfid.was) in
    let none = sym (rw (← c.self.view_is) at c.get-2.ensures) ∙ ap option_copied c.in_err-flow.was in
    absurd (with_sid_there c.self.invariant.indexed c.args.sid c.in_ok-sfid.sfid sfid_is none)

pub returns-in_err-flow-clause-there : goal.returns-in_err-flow-clause-there
returns-in_err-flow-clause-there c =
    let sfid_is = sym c.get.ensures.value ∙ (sym c.copied.ensures ∙ c.in_ok-sfid.was) in
    let none = sym (rw (← c.self.view_is) at c.get-2.ensures) ∙ ap option_copied c.in_err-flow.was in
    absurd (with_sid_there c.self.invariant.indexed c.args.sid c.in_ok-sfid.sfid sfid_is none)

pub returns-clause-value : goal.returns-clause-value
returns-clause-value c =
    let sfid_is = sym c.get.ensures.value ∙ (sym c.copied.ensures ∙ c.in_ok-sfid.was) in
    let flow_is = sym (rw (← c.self.view_is) at c.get-2.ensures) ∙ ap option_copied c.in_ok-flow.was in
    rw (← c.self.view_is, c.asks_for_grants.ensures)
    (sym (ap asker_of (with_sid_some c.self.invariant.indexed c.args.sid c.in_ok-sfid.sfid c.in_ok-flow.flow.now sfid_is flow_is)))

pub returns-clause-there : goal.returns-clause-there
returns-clause-there c =
    let sfid_is = sym c.get.ensures.value ∙ (sym c.copied.ensures ∙ c.in_ok-sfid.was) in
    let flow_is = sym (rw (← c.self.view_is) at c.get-2.ensures) ∙ ap option_copied c.in_ok-flow.was in
    let some = with_sid_some c.self.invariant.indexed c.args.sid c.in_ok-sfid.sfid c.in_ok-flow.flow.now sfid_is flow_is in
    rw (← c.self.view_is) (subst (There c.self.inside.by_sfid) (sym some) flow_is)
