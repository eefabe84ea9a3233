use Rattle.std.proofs.Common.{[], List, append-nil, refl, sym, subst}
use Rattle.plant_core.proofs.LiveLemmas.Common.{on_ok_weaker, SliceRow, Reslices, Performs, live_view}
use Rattle.run_model.specs.declared.step.Step.TheVariants as steps
use Rattle.plant_core.proofs.LiveLemmas.PartLemmas.{step_is}
use Rattle.plant_core.proofs.live.held.LiveCore.step_into.Goals as goal

pub act_if-requires : goal.act_if-requires
act_if-requires c = (steps.Tick c.in-Tick.op, refl)

pub returns-in-Arrive-clause-ok : goal.returns-in-Arrive-clause-ok
returns-in-Arrive-clause-ok c =
    on_ok_weaker c.arrive.result (λ done. (done.0, done.1, step_is c.args.step (steps.Arrive c.in-Arrive.modem c.in-Arrive.heard) _ _ done.0 c.in-Arrive.is done.2)) c.arrive.ensures.ok

pub returns-in-Work-clause-ok : goal.returns-in-Work-clause-ok
returns-in-Work-clause-ok c =
    on_ok_weaker c.work.result (λ done. (done.0, done.1, step_is c.args.step (steps.Work c.in-Work.op) _ _ done.0 c.in-Work.is done.2)) c.work.ensures.ok

pub returns-in-Tick-clause-ok : goal.returns-in-Tick-clause-ok
returns-in-Tick-clause-ok c =
    on_ok_weaker c.act_if.result (λ done. (done.0, done.1, step_is c.args.step (steps.Tick c.in-Tick.op) _ _ done.0 c.in-Tick.is done.2)) c.act_if.ensures.ok

pub returns-in-Collect-clause-ok : goal.returns-in-Collect-clause-ok
returns-in-Collect-clause-ok c =
    on_ok_weaker c.collect.result (λ done. (done.0, done.1, step_is c.args.step (steps.Collect c.in-Collect.op) _ _ done.0 c.in-Collect.is done.2)) c.collect.ensures.ok

pub returns-in-Reslice-clause-ok : goal.returns-in-Reslice-clause-ok
returns-in-Reslice-clause-ok c =
    on_ok_weaker c.reslice.result
    (λ performs. (
      [],
      sym (append-nil c.args.outs.now.items),
      step_is c.args.step (steps.Reslice c.in-Reslice.from c.in-Reslice.rows) _ _ [] c.in-Reslice.is
          (subst (λ (rows : List SliceRow). Performs (Reslices c.in-Reslice.from rows) (live_view c.args.self.now) (live_view c.reslice.new.self) []) c.as_slice.ensures performs),
    ))
    c.reslice.ensures.ok
