use Rattle.std.proofs.Common.{◌≡◌, ℕ, ◌++◌, List, subst, ap, ◌∙◌}
use Rattle.plant_script.proofs.Common.{slice_get, core_view, if_ok, IsEnded, book_text}
use Rattle.plant_script.proofs.StepRuns.{history_written}
use Rattle.plant_script.proofs.running.answer_of_history.Goals as goal

pub returns-in-Ok : goal.returns-in-Ok
returns-in-Ok g c =
    let core = core_view c.run_unheard.new.core in
    let text : c.put_history.new.text.items ≡ book_text (slice_get core.books c.args.op) =
    c.in-Ok.ensures ∙ ap (λ (t : List ℕ). t ++ book_text (slice_get core.books c.args.op)) c.new-text.ensures.items in
    if_ok c.answer_of_text.result _ _
    (λ answer ended. history_written (core_view c.args.core.now).plant c.args.lines.items c.args.op c.in_ok-refused.refused core answer c.in_ok-refused.ensures
    (subst (λ (t : List ℕ). IsEnded t c.in_ok-refused.refused answer) text ended))
    c.answer_of_text.ensures
