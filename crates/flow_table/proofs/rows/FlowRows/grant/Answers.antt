use Rattle.std.proofs.Common.{refl, sym, ◌∙◌}
use Rattle.flow_table.specs.Flow.{flow_after_grant}
use Rattle.flow_table.proofs.PlacedLemmas.{absent_changed, changed_flows, changed_same}
use Rattle.flow_table.proofs.rows.FlowRows.grant.Goals as goal

pub returns-in-Some : goal.returns-in-Some
returns-in-Some c =
    rw (← c.self.view_is) (changed_flows c.self.invariant c.args.sfid _ (sym c.get.ensures.value ∙ (sym c.copied.ensures ∙ c.in-Some.is)) (flow_after_grant c.args.minislots c.args.frame) c.grant_in.ensures)

pub returns-in_default : goal.returns-in_default
returns-in_default c =
    rw (← c.self.view_is) (absent_changed c.self.invariant.placed c.args.sfid (flow_after_grant c.args.minislots c.args.frame) (sym c.get.ensures.value ∙ (sym c.copied.ensures ∙ c.in_default.is)))

pub invariant_of-self : goal.invariant_of-self
invariant_of-self c =
    changed_same c.self.invariant c.args.sfid _ (sym c.get.ensures.value ∙ (sym c.copied.ensures ∙ c.in-Some.is)) (flow_after_grant c.args.minislots c.args.frame) c.grant_in.ensures (λ f. refl)
