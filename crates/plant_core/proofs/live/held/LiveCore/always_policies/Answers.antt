use Rattle.plant_core.proofs.LiveLemmas.PolicyLemmas.{policies_are}
use Rattle.plant_core.proofs.live.held.LiveCore.always_policies.Goals as goal

pub returns : goal.returns
returns c =
    let core = c.args.self.now in
    policies_are core.routes core.gather _ _ core.reached
