use Rattle.std.proofs.Common.{List, map, ap₂, ◌∙◌}
use Rattle.plant_restart.proofs.Common.{ConstsFields, RowFields, sound_of, live_view, operator_by_name, saved_by_name}
use Rattle.plant_restart.proofs.RestartLemmas.{rows_by_name, consts_by_name, restarts}
use Rattle.plant_restart.proofs.restarting.restart.Goals as goal

pub resume-requires-clause-rows : goal.resume-requires-clause-rows
resume-requires-clause-rows c =
    let states = map (saved_by_name c.args.frame) c.args.operators.now in
    rows_by_name sound_of c.args.plant c.args.frame states c.in_ok-machines.machines.items
    (c.in_ok-machines.ensures.ok ∙ ap₂ (λ (consts : ConstsFields) (rows : List RowFields). map (operator_by_name consts c.args.frame states) rows) c.consts.ensures.value c.rows.ensures.value)

pub resume-requires-clause-consts : goal.resume-requires-clause-consts
resume-requires-clause-consts c =
    let states = map (saved_by_name c.args.frame) c.args.operators.now in
    consts_by_name sound_of c.args.plant c.args.frame states c.in_ok-machines.machines.items
    (c.in_ok-machines.ensures.ok ∙ ap₂ (λ (consts : ConstsFields) (rows : List RowFields). map (operator_by_name consts c.args.frame states) rows) c.consts.ensures.value c.rows.ensures.value)

pub returns-in-Ok-clause-ok : goal.returns-in-Ok-clause-ok
returns-in-Ok-clause-ok c =
    let states = map (saved_by_name c.args.frame) c.args.operators.now in
    restarts sound_of c.args.plant c.args.frame states c.in_ok-machines.machines.items
    (c.in_ok-machines.ensures.ok ∙ ap₂ (λ (consts : ConstsFields) (rows : List RowFields). map (operator_by_name consts c.args.frame states) rows) c.consts.ensures.value c.rows.ensures.value)
    (live_view c.in-Ok.core) c.in-Ok.ensures.ok c.in-Ok.ensures.reached
