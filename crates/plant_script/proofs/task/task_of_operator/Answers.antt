use Rattle.std.proofs.Common.{◌≡◌, ℕ, Option, Some, sym, subst}
use Rattle.plant_script.proofs.Common.{position_from, is_named, steps_of, if_ok, Comes, AnswersOperator}
use Rattle.plant_script.proofs.Tasks.{found_at, comes_of_operator}
use Rattle.plant_script.proofs.task.task_of_operator.Goals as goal

pub returns-in-Some-clause-value : goal.returns-in-Some-clause-value
returns-in-Some-clause-value c =
    let plant = c.args.plant in
    let script = c.args.script.now in
    let found : position_from (is_named c.args.name.now) 0 plant.rows ≡ Some c.in-Some.op = cc in
    let row = found_at (is_named c.args.name.now) plant.rows c.in-Some.op found in
    if_ok c.task_of_script.result _ _
    (λ what h. subst (λ (o : Option ℕ). Comes what script (AnswersOperator plant script o)) (sym found) (comes_of_operator plant c.in-Some.op row.0 script (steps_of plant script) what row.1 h))
    c.task_of_script.ensures.value
