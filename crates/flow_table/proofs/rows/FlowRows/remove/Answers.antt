use Rattle.std.proofs.Common.{ap, sym, ◌∙◌}
use Rattle.std.specs.Prelude.{option_map}
use Rattle.flow_table.proofs.Common.{sid_if}
use Rattle.flow_table.proofs.PlacedLemmas.{absent_gone, active_ascends, active_place, gone_flows, gone_room, gone_rows, placed_at, placed_none}
use Rattle.flow_table.proofs.rows.FlowRows.remove.Goals as goal

pub returns-in_err-place-clause-flows : goal.returns-in_err-place-clause-flows
returns-in_err-place-clause-flows c =
    rw (c.remove.ensures.entries, ← c.self.view_is) (absent_gone c.self.invariant.placed c.args.sfid (sym c.remove.ensures.value ∙ c.in_err-place.was))

pub returns-in_err-place-clause-had : goal.returns-in_err-place-clause-had
returns-in_err-place-clause-had c =
    let none = placed_none c.self.invariant.placed c.args.sfid (sym c.remove.ensures.value ∙ c.in_err-place.was) in
    rw (← c.self.view_is) (c.from_residual.ensures ∙ sym (ap sid_if none))

pub mark-requires-clause-ascending : goal.mark-requires-clause-ascending
mark-requires-clause-ascending c = active_ascends c.self.invariant

pub mark-requires-clause-same : goal.mark-requires-clause-same
mark-requires-clause-same c = λ p row. active_place c.self.invariant c.args.sfid _ p (sym c.remove.ensures.value ∙ c.in_ok-place.was) row

pub mark-requires-clause-room : goal.mark-requires-clause-room
mark-requires-clause-room c = gone_room c.self.invariant c.args.sfid

pub invariant_of-self-in_err-flow : goal.invariant_of-self-in_err-flow
invariant_of-self-in_err-flow c =
    rw (c.remove.ensures.entries, c.mark.ensures.items, c.mark.ensures.capacity)
    (gone_rows c.self.invariant c.args.sfid c.in_ok-place.place (sym c.remove.ensures.value ∙ c.in_ok-place.was)
    (λ other apart. ap (option_map (λ boxed. boxed.value)) (c.try_remove.ensures.updates.others other apart)))

pub returns-in_err-flow-clause-flows : goal.returns-in_err-flow-clause-flows
returns-in_err-flow-clause-flows c =
    rw (c.remove.ensures.entries, ← c.self.view_is)
    (gone_flows c.self.invariant c.args.sfid c.in_ok-place.place (sym c.remove.ensures.value ∙ c.in_ok-place.was)
    (λ other apart. ap (option_map (λ boxed. boxed.value)) (c.try_remove.ensures.updates.others other apart)))

pub returns-in_err-flow-clause-had : goal.returns-in_err-flow-clause-had
returns-in_err-flow-clause-had c =
    let there = placed_at c.self.invariant.placed c.args.sfid _ (sym c.remove.ensures.value ∙ c.in_ok-place.was) in
    let none = ap (option_map (λ boxed. boxed.value)) (sym c.try_remove.ensures.value ∙ c.in_err-flow.was) in
    rw (← c.self.view_is) (c.from_residual-in_err-flow.ensures ∙ sym (ap sid_if (there ∙ none)))

pub invariant_of-self-2 : goal.invariant_of-self-2
invariant_of-self-2 c =
    rw (c.remove.ensures.entries, c.mark.ensures.items, c.mark.ensures.capacity)
    (gone_rows c.self.invariant c.args.sfid c.in_ok-place.place (sym c.remove.ensures.value ∙ c.in_ok-place.was)
    (λ other apart. ap (option_map (λ boxed. boxed.value)) (c.try_remove.ensures.updates.others other apart)))

pub returns-clause-flows : goal.returns-clause-flows
returns-clause-flows c =
    rw (c.remove.ensures.entries, ← c.self.view_is)
    (gone_flows c.self.invariant c.args.sfid c.in_ok-place.place (sym c.remove.ensures.value ∙ c.in_ok-place.was)
    (λ other apart. ap (option_map (λ boxed. boxed.value)) (c.try_remove.ensures.updates.others other apart)))

pub returns-clause-had : goal.returns-clause-had
returns-clause-had c =
    let there = placed_at c.self.invariant.placed c.args.sfid _ (sym c.remove.ensures.value ∙ c.in_ok-place.was) in
    let some = ap (option_map (λ boxed. boxed.value)) (sym c.try_remove.ensures.value ∙ c.in_ok-flow.was) in
    rw (← c.self.view_is) (ap (λ flow. flow.sid) c.deref.ensures ∙ sym (ap sid_if (there ∙ some)))
