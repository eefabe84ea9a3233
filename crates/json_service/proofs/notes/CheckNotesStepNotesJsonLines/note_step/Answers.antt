use Rattle.plant_core.specs.live.LiveView.{live_view}
use Rattle.json_service.proofs.NoteLemmas.{decided_is_done, on_err_map}
use Rattle.json_service.proofs.notes.CheckNotesStepNotesJsonLines.note_step.Goals as goal

pub returns-clause-memory : goal.returns-clause-memory
returns-clause-memory g c =
    on_err_map c.note_report.result _ _
    (λ some. decided_is_done (live_view c.args.core.now) c.args.step.now c.in_ok-seen.seen.decision c.in_ok-seen.ensures.decision some) c.note_report.ensures
