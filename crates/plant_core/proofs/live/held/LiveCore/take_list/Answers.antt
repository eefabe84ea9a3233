use Rattle.plant_core.proofs.live.held.LiveCore.take_list.Goals as goal

pub invariant_of-self : goal.invariant_of-self
invariant_of-self c =
    let core = c.args.self.now in
    record {
      let_go = rw c.empty.ensures.gather core.let_go;
      reached = rw c.empty.ensures.gather core.reached;
    }
