use Rattle.std.proofs.Common.{◌≡◌, Some, sym, subst}
use Rattle.plant.specs.Roster.{holder}
use Rattle.plant.specs.declared.plant.PlantFields.{PlantFields}
use Rattle.channel_c.proofs.EndLemmas.{arrival_done}
use Rattle.channel_c.proofs.channel.OpenChannel.receive.Goals as goal

pub returns-in-Ok-step : goal.returns-in-Ok-step
returns-in-Ok-step c =
    arrival_done c.args.modem c.args.heard c.in-Some.op c.args.self.now c.step.new.self c.step-2.new.self
    (subst (λ (plant : PlantFields). holder plant.rows c.args.modem ≡ Some c.in-Some.op) c.plant.ensures (sym c.in-Some.ensures))
    c.in-Ok.ensures.done c.in-Ok-step.ensures.done c.in-Ok.ensures.fault
