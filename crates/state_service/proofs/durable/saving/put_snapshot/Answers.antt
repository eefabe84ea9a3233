use Rattle.plant_core.specs.live.LiveView.{live_view}
use Rattle.state_service.proofs.DurableLemmas.LeadLemmas.{leads_anew}
use Rattle.state_service.proofs.durable.saving.put_snapshot.Goals as goal

pub returns-clause-leads : goal.returns-clause-leads
returns-clause-leads g c plant saved says after =
    leads_anew plant saved (live_view c.args.service.now.core) c.args.service.now.count c.args.snapshot.now _ says after c.in_ok-replace_snapshot.ensures.acknowledged.1
