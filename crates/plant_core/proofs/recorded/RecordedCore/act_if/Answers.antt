use Rattle.std.proofs.Common.{sym, subst, ◌∙◌}
use Rattle.plant_core.proofs.Common.{Action, live_view, IsActPlan, record_view}
use Rattle.plant_core.proofs.RecordLemmas.{is_of}
use Rattle.plant_core.proofs.StepLemmas.{plan_behind, same_act_fault}
use Rattle.plant_core.proofs.recorded.RecordedCore.act_if.Goals as goal

pub returns-in_default-clause-fault : goal.returns-in_default-clause-fault
returns-in_default-clause-fault c =
    let core = c.args.self.now in
    same_act_fault (live_view core.live) (record_view core) (is_of _ _ _ c.always.ensures.gathering core.belongs) c.args.op c.args.action ∙ c.in_ok-act.ensures.fault

pub carry_out-requires : goal.carry_out-requires
carry_out-requires c =
    let core = c.args.self.now in
    subst (λ (action : Action). IsActPlan (record_view core) c.args.op action c.in_ok-act.act) (sym c.in-Ok.ensures)
    (plan_behind (live_view core.live) (record_view core) (is_of _ _ _ c.always.ensures.gathering core.belongs) c.args.op c.args.action c.in_ok-act.act c.in_ok-act.ensures.plan)

pub returns-in-Err-clause-fault : goal.returns-in-Err-clause-fault
returns-in-Err-clause-fault c =
    let core = c.args.self.now in
    same_act_fault (live_view core.live) (record_view core) (is_of _ _ _ c.always.ensures.gathering core.belongs) c.args.op c.args.action ∙ c.in_ok-act.ensures.fault
