use Rattle.plant_core.specs.live.LiveView.{live_view}
use Rattle.state_service.proofs.DurableLemmas.LeadLemmas.{leads_from}
use Rattle.state_service.proofs.durable.opening.redo_lines.Goals as goal

pub returns-clause-leads : goal.returns-clause-leads
returns-clause-leads c content plant saved says same restarted =
    leads_from plant saved (live_view c.args.service.now.core) (live_view c.do_lines.new.core) c.args.service.now.count c.do_lines.new.count c.args.lines.now _ _
    restarted c.in_ok-do_lines.ensures.done c.in_ok-do_lines.ensures.count content says same
