use Rattle.std.proofs.Common.{refl}
use Rattle.plant_restart.proofs.Common.{◌≢◌, RowFields, all_gone}
use Rattle.plant_restart.proofs.restoring.has_no_row.Goals as goal

pub returns : goal.returns
returns c = (λ yes. all_gone (λ (row : RowFields). row.name ≢ c.args.name) c.args.rows.now c.loop-row.row-index c.loop-row-test.false c.loop-row.invariant, λ none. refl)
