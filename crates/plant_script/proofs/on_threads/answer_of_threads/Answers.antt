use Rattle.std.proofs.Common.{map, ap, ◌∙◌}
use Rattle.plant_script.proofs.Common.{view_of, steps_without_numbers, if_ok}
use Rattle.plant_script.proofs.ThreadedRuns.{settled_run, fault_run}
use Rattle.plant_script.proofs.on_threads.answer_of_threads.Goals as goal

pub returns-in-Ok : goal.returns-in-Ok
returns-in-Ok g c =
    let settled = c.in-Ok.settled in
    if_ok c.answer_of_settled-answer.result _ _
    (λ answer told. settled_run c.args.plant c.in_ok-shown.shown c.args.lines.items c.in_ok-steps.steps.items c.run_workers.result settled (map view_of settled.books.items) settled.receipts.items settled.maps.items answer
    c.in_ok-shown.ensures (c.in_ok-steps.ensures ∙ ap steps_without_numbers c.as_slice.ensures.value) (record { walk = c.run_workers.ensures.walk; spent = c.run_workers.ensures.spent }) c.in-Ok.is c.in-Ok.ensures.ok told)
    c.answer_of_settled-answer.ensures

pub returns-in-Err : goal.returns-in-Err
returns-in-Err g c =
    if_ok c.answer_of_fault.result _ _
    (λ answer told. fault_run c.args.plant c.in_ok-shown.shown c.args.lines.items c.as_slice-in-Err.result.now c.in_ok-steps.steps.items c.run_workers.result c.in-Err.fault answer
    c.in_ok-shown.ensures c.as_slice-in-Err.ensures.value (c.in_ok-steps.ensures ∙ ap steps_without_numbers c.as_slice.ensures.value) (record { walk = c.run_workers.ensures.walk; spent = c.run_workers.ensures.spent }) c.in-Err.is c.in-Err.ensures.err told)
    c.answer_of_fault.ensures
