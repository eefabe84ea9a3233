use Rattle.std.proofs.Common.{refl, ◌∙◌}
use Rattle.plant_core.specs.live.LiveView.{live_view}
use Rattle.plant_restart.proofs.SaveLemmas.{states_saved}
use Rattle.plant_restart.proofs.saving.save.Goals as goal

pub returns-clause-ok : goal.returns-clause-ok
returns-clause-ok c = record {
  plant_is = refl;
  rests = c.in-Ok.ensures.ok;
  states_are = states_saved (live_view c.args.core.now) c.in-Ok.frame c.from_vec.result (c.from_vec.ensures ∙ c.in_ok-operators.ensures) c.in-Ok.ensures.ok;
}
