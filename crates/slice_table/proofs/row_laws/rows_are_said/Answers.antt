use Rattle.slice_table.proofs.SaidRows.{rows_are}
use Rattle.slice_table.proofs.row_laws.rows_are_said.Goals as goal

pub returns : goal.returns
returns c = rows_are
