use Rattle.plant_core.specs.live.LiveView.{live_view}
use Rattle.json_service.proofs.ServiceLemmas.{served}
use Rattle.json_service.proofs.serving.serve_opened.Goals as goal

pub returns-in-Ok-serve-clause-served : goal.returns-in-Ok-serve-clause-served
returns-in-Ok-serve-clause-served g c =
    served (g.R.Read.remaining c.args.reader.now) c.args.plant (live_view c.in-Ok-open_core.core) _ _ _ c.in-Ok-open_core.ensures.opened c.in-Ok-serve.ensures
