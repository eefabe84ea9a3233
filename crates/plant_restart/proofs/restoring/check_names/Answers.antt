use Rattle.std.proofs.Common.{List, ℕ}
use Rattle.plant_restart.specs.Restarted.{HasNoRow}
use Rattle.plant_restart.proofs.RestoreLemmas.{name_more, name_all}
use Rattle.plant_restart.proofs.restoring.check_names.Goals as goal

pub loop-saved-preserved : goal.loop-saved-preserved
loop-saved-preserved c =
    let at = c.loop-saved in
    name_more (λ (name : List ℕ). ¬ HasNoRow c.args.rows.now name) c.args.operators.now at.saved-index c.saved-item.result c.loop-saved-test.true c.saved-item.is at.invariant
    (λ none. let yes = c.has_no_row.ensures.1 none in let no = c.if-has_no_row.false in cc)

pub returns-clause-ok : goal.returns-clause-ok
returns-clause-ok c = name_all (λ (name : List ℕ). ¬ HasNoRow c.args.rows.now name) c.args.operators.now c.loop-saved.saved-index c.loop-saved-test.false c.loop-saved.invariant
