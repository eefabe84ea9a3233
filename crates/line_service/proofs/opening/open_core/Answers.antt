use Rattle.plant_core.specs.live.LiveView.{live_view}
use Rattle.line_service.proofs.StepLemmas.{opened_reachable}
use Rattle.line_service.proofs.opening.open_core.Goals as goal

pub returns-clause-reached : goal.returns-clause-reached
returns-clause-reached c = opened_reachable c.args.plant (live_view c.in_ok-core.core) c.in_ok-core.ensures.reached
