use Rattle.std.proofs.Common.{ap, sym, ◌∙◌}
use Rattle.flow_table.proofs.Common.{flow_after_ack, told_of}
use Rattle.flow_table.proofs.PlacedLemmas.{absent_changed, active_ascends, active_place, changed_active, changed_flows, changed_room, changed_same, changed_told, placed_at, placed_none, told_as_before}
use Rattle.flow_table.proofs.rows.FlowRows.acknowledge.Goals as goal

pub returns-in_err-place-clause-flows : goal.returns-in_err-place-clause-flows
returns-in_err-place-clause-flows c =
    rw (← c.self.view_is) (absent_changed c.self.invariant.placed c.args.sfid (flow_after_ack c.args.frame) (sym c.get.ensures.value ∙ (sym c.copied.ensures ∙ c.in_err-place.was)))

pub returns-in_err-place-clause-told : goal.returns-in_err-place-clause-told
returns-in_err-place-clause-told c =
    let none = placed_none c.self.invariant.placed c.args.sfid (sym c.get.ensures.value ∙ (sym c.copied.ensures ∙ c.in_err-place.was)) in
    rw (← c.self.view_is) (c.from_residual.ensures ∙ sym (ap (told_of c.args.units (flow_after_ack c.args.frame)) none))

pub returns-in_err-moved-clause-flows : goal.returns-in_err-moved-clause-flows
returns-in_err-moved-clause-flows c =
    rw (← c.self.view_is) (changed_flows c.self.invariant c.args.sfid _ (sym c.get.ensures.value ∙ (sym c.copied.ensures ∙ c.in_ok-place.was)) (flow_after_ack c.args.frame) c.acknowledge_in.ensures.flows)

pub returns-in_err-moved-clause-told : goal.returns-in_err-moved-clause-told
returns-in_err-moved-clause-told c =
    let there = placed_at c.self.invariant.placed c.args.sfid _ (sym c.get.ensures.value ∙ (sym c.copied.ensures ∙ c.in_ok-place.was)) in
    rw (← c.self.view_is) (c.from_residual-in_err-moved.ensures ∙ (sym c.in_err-moved.was ∙ (c.acknowledge_in.ensures.told ∙ sym (ap (told_of c.args.units (flow_after_ack c.args.frame)) there))))

pub invariant_of-self : goal.invariant_of-self
invariant_of-self c =
    told_as_before c.self.invariant c.args.sfid _ (sym c.get.ensures.value ∙ (sym c.copied.ensures ∙ c.in_ok-place.was)) (flow_after_ack c.args.frame) c.acknowledge_in.ensures.flows c.args.units
    (sym c.in_err-moved.was ∙ c.acknowledge_in.ensures.told)

pub mark-requires-clause-ascending : goal.mark-requires-clause-ascending
mark-requires-clause-ascending c = active_ascends c.self.invariant

pub mark-requires-clause-same : goal.mark-requires-clause-same
mark-requires-clause-same c = λ p row. active_place c.self.invariant c.args.sfid _ p (sym c.get.ensures.value ∙ (sym c.copied.ensures ∙ c.in_ok-place.was)) row

pub mark-requires-clause-room : goal.mark-requires-clause-room
mark-requires-clause-room c =
    let at = sym c.get.ensures.value ∙ (sym c.copied.ensures ∙ c.in_ok-place.was) in
    let changed = c.acknowledge_in.ensures.flows in
    let change = flow_after_ack c.args.frame in
    changed_room c.self.invariant c.args.sfid _ at change changed c.in_ok-moved.moved.activity
    (changed_told c.self.invariant c.args.sfid _ at change changed c.args.units c.in_ok-moved.moved (sym c.in_ok-moved.was ∙ c.acknowledge_in.ensures.told))

pub invariant_of-self-2 : goal.invariant_of-self-2
invariant_of-self-2 c =
    let at = sym c.get.ensures.value ∙ (sym c.copied.ensures ∙ c.in_ok-place.was) in
    let changed = c.acknowledge_in.ensures.flows in
    let change = flow_after_ack c.args.frame in
    rw (c.mark.ensures.items, c.mark.ensures.capacity)
    (changed_active c.self.invariant c.args.sfid _ at change changed c.in_ok-moved.moved.activity
    (changed_told c.self.invariant c.args.sfid _ at change changed c.args.units c.in_ok-moved.moved (sym c.in_ok-moved.was ∙ c.acknowledge_in.ensures.told)))

pub returns-clause-flows : goal.returns-clause-flows
returns-clause-flows c =
    rw (← c.self.view_is) (changed_flows c.self.invariant c.args.sfid _ (sym c.get.ensures.value ∙ (sym c.copied.ensures ∙ c.in_ok-place.was)) (flow_after_ack c.args.frame) c.acknowledge_in.ensures.flows)

pub returns-clause-told : goal.returns-clause-told
returns-clause-told c =
    let there = placed_at c.self.invariant.placed c.args.sfid _ (sym c.get.ensures.value ∙ (sym c.copied.ensures ∙ c.in_ok-place.was)) in
    rw (← c.self.view_is) (sym c.in_ok-moved.was ∙ (c.acknowledge_in.ensures.told ∙ sym (ap (told_of c.args.units (flow_after_ack c.args.frame)) there)))
