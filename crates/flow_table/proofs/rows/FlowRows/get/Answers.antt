use Rattle.std.proofs.Common.{Some, ap, sym, ◌∙◌}
use Rattle.std.specs.Prelude.{option_copied, option_map}
use Rattle.flow_table.proofs.PlacedLemmas.{placed_at, placed_none}
use Rattle.flow_table.proofs.rows.FlowRows.get.Goals as goal

pub returns-in_err-place : goal.returns-in_err-place
returns-in_err-place c =
    let none = placed_none c.self.invariant.placed c.args.sfid (sym c.get.ensures.value ∙ (sym c.copied.ensures ∙ c.in_err-place.was)) in
    rw (← c.self.view_is) (ap option_copied c.from_residual.ensures ∙ sym none)

pub returns-in_err-flow : goal.returns-in_err-flow
returns-in_err-flow c =
    let there = placed_at c.self.invariant.placed c.args.sfid _ (sym c.get.ensures.value ∙ (sym c.copied.ensures ∙ c.in_ok-place.was)) in
    let none = ap (option_map (λ boxed. boxed.value)) (sym c.get-2.ensures ∙ ap option_copied c.in_err-flow.was) in
    rw (← c.self.view_is) (ap option_copied c.from_residual-in_err-flow.ensures ∙ sym (there ∙ none))

pub returns : goal.returns
returns c =
    let there = placed_at c.self.invariant.placed c.args.sfid _ (sym c.get.ensures.value ∙ (sym c.copied.ensures ∙ c.in_ok-place.was)) in
    let some = ap (option_map (λ boxed. boxed.value)) (sym c.get-2.ensures ∙ ap option_copied c.in_ok-flow.was) in
    rw (← c.self.view_is) (ap Some c.as_ref.ensures ∙ sym (there ∙ some))
