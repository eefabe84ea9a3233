use Rattle.std.proofs.Common.{ℕ, List, map, ap, ◌∙◌}
use Rattle.std.proofs.lemmas.Result.{IfOk-weaker}
use Rattle.plant_restart.proofs.Common.{ConstsFields, RowFields, OperatorState, live_view, saved_by_name, refused_from}
use Rattle.plant_restart.proofs.SaveLemmas.{states_saved}
use Rattle.plant_restart.proofs.refusing.refused_states.Goals as goal

pub returns-clause-rests : goal.returns-clause-rests
returns-clause-rests c =
    let plant = c.args.plant.now in
    let saved = c.as_slice.result.now in
    let states = map (saved_by_name c.in-Ok.frame) saved in
    let are = states_saved (live_view c.args.core.now) c.in-Ok.frame saved (c.as_slice.ensures.value ∙ c.in_ok-operators.ensures) c.in-Ok.ensures.ok in
    IfOk-weaker c.refused_by_name.result _ _
    (λ refused is frame rests.
    is
    ∙ (ap (λ (consts : ConstsFields). refused_from consts states 0 c.rows.result.now) c.consts.ensures.value
    ∙ (ap (λ (rows : List RowFields). refused_from plant.consts states 0 rows) c.rows.ensures.value
    ∙ ap (λ (named : List (List ℕ × OperatorState)). refused_from plant.consts named 0 plant.rows) are)))
    c.refused_by_name.ensures

pub returns-clause-restless : goal.returns-clause-restless
returns-clause-restless c = IfOk-weaker c.refused_by_name.result _ _ (λ refused is none. absurd (none c.in-Ok.frame c.in-Ok.ensures.ok)) c.refused_by_name.ensures
