use Rattle.std.proofs.Common.{ap, ◌∙◌}
use Rattle.state_service.proofs.ResumedLemmas.Common.{PlantFields, live_view, name_at}
use Rattle.state_service.proofs.ResumedLemmas.SavedLemmas.{restless}
use Rattle.state_service.proofs.resumed.last_state.last_state.Goals as goal

pub returns-in-Err-Unfinished : goal.returns-in-Err-Unfinished
returns-in-Err-Unfinished c =
    let live = live_view c.args.service.now.core in
    restless c.args.at_end c.args.service.now.file live c.in-Err-Unfinished.why c.name_at.result c.in-Snapshot.is
    (c.in-Err-Unfinished.ensures.fault c.in-Err-Unfinished.why (let is = c.in-Err-Unfinished.field-0-is in cc))
    (c.in-Err-Unfinished.ensures.none c.in-Err-Unfinished.why (let is = c.in-Err-Unfinished.field-0-is in cc))
    (c.name_at.ensures ∙ (ap (λ (plant : PlantFields). name_at plant.rows c.restless_operator.result) c.plant.ensures ∙ ap (name_at live.plant.rows) c.restless_operator.ensures))
