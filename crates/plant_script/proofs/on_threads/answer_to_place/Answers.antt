use Rattle.plant_script.proofs.Common.{if_ok, status_code}
use Rattle.plant_script.proofs.RefusedSteps.{place_reported}
use Rattle.plant_script.proofs.on_threads.answer_to_place.Goals as goal

pub returns : goal.returns
returns c =
    if_ok c.answer_to_line.result _ _
    (λ answer told. place_reported c.args.lines.now c.args.place c.index-lines-place.result (status_code answer.status) answer.text.items c.requires told)
    c.answer_to_line.ensures
