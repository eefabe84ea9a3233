use Rattle.std.proofs.Common.{ap, sym, ◌∙◌}
use Rattle.flow_table.proofs.Common.{taken_back, told_of}
use Rattle.flow_table.proofs.PlacedLemmas.{absent_changed, back_active, changed_flows, changed_same, placed_at, placed_none}
use Rattle.flow_table.proofs.rows.FlowRows.take_back.Goals as goal

pub returns-in_err-place-clause-flows : goal.returns-in_err-place-clause-flows
returns-in_err-place-clause-flows c =
    rw (← c.self.view_is) (absent_changed c.self.invariant.placed c.args.sfid taken_back (sym c.get.ensures.value ∙ (sym c.copied.ensures ∙ c.in_err-place.was)))

pub returns-in_err-place-clause-told : goal.returns-in_err-place-clause-told
returns-in_err-place-clause-told c =
    let none = placed_none c.self.invariant.placed c.args.sfid (sym c.get.ensures.value ∙ (sym c.copied.ensures ∙ c.in_err-place.was)) in
    rw (← c.self.view_is) (c.from_residual.ensures ∙ sym (ap (told_of c.args.units taken_back) none))

pub returns-clause-flows : goal.returns-clause-flows
returns-clause-flows c =
    rw (← c.self.view_is) (changed_flows c.self.invariant c.args.sfid _ (sym c.get.ensures.value ∙ (sym c.copied.ensures ∙ c.in_ok-place.was)) taken_back c.take_back_in.ensures.flows)

pub returns-clause-told : goal.returns-clause-told
returns-clause-told c =
    let there = placed_at c.self.invariant.placed c.args.sfid _ (sym c.get.ensures.value ∙ (sym c.copied.ensures ∙ c.in_ok-place.was)) in
    rw (← c.self.view_is) (c.take_back_in.ensures.told ∙ sym (ap (told_of c.args.units taken_back) there))

pub invariant_of-self : goal.invariant_of-self
invariant_of-self c =
    changed_same c.self.invariant c.args.sfid _ (sym c.get.ensures.value ∙ (sym c.copied.ensures ∙ c.in_ok-place.was)) taken_back c.take_back_in.ensures.flows back_active
