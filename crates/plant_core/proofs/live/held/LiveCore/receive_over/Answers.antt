use Rattle.std.proofs.Common.{sym, refl}
use Rattle.plant_core.proofs.LiveLemmas.PartLemmas.{arrive_on}
use Rattle.plant_core.proofs.LiveLemmas.ReachLemmas.{arrives}
use Rattle.plant_core.proofs.LiveLemmas.RunLemmas.{step_more, step_same}
use Rattle.run_model.specs.declared.step.Step.TheVariants as steps
use Rattle.plant_core.proofs.live.held.LiveCore.receive_over.Goals as goal

pub invariant_of-self : goal.invariant_of-self
invariant_of-self c =
    let core = c.args.self.now in
    record {
      let_go = rw c.empty.ensures.gather core.let_go;
      reached = rw c.empty.ensures.gather core.reached;
    }

pub receive-requires : goal.receive-requires
receive-requires c =
    let plant = c.args.self.now.routes in
    arrives plant plant c.args.modem c.args.heard c.args.op refl (sym c.requires)

pub returns-clause-ok : goal.returns-clause-ok
returns-clause-ok c =
    let done = c.in_ok-receive.ensures.ok in
    let arrived = arrive_on _ _ c.args.modem c.args.heard c.args.op _ done.0 refl (sym c.requires) done.2 in
    rw (← c.empty.ensures.gather) (step_same (steps.Arrive c.args.modem c.args.heard) c.empty.new.outs.items done.0 c.receive.new.outs.items _ _ arrived done.1 c.empty.ensures.outs)

pub returns-clause-reached : goal.returns-clause-reached
returns-clause-reached c =
    let done = c.in_ok-receive.ensures.ok in
    let arrived = arrive_on _ _ c.args.modem c.args.heard c.args.op _ done.0 refl (sym c.requires) done.2 in
    rw (← c.empty.ensures.gather) (λ start before told after.
    step_more c.args.self.now.routes start before told (steps.Arrive c.args.modem c.args.heard) c.empty.new.outs.items done.0 c.receive.new.outs.items _ _ c.always.ensures.plant arrived done.1 c.empty.ensures.outs after)
