use Rattle.std.proofs.Common.{inr, refl}
use Rattle.plant_core.specs.live.LiveView.{live_view}
use Rattle.plant_script.proofs.Services.{service_served}
use Rattle.plant_script.proofs.serving.serve_plant.Goals as goal

pub returns : goal.returns
returns g c =
    inr (refl, service_served (g.R.Read.remaining c.args.reader.now) c.args.service.plant (live_view c.in-Ok-open_core.core) _ _ _ c.in-Ok-open_core.ensures.opened c.in_ok-serve.ensures)
