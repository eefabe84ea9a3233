use Rattle.slice_table.proofs.SaidRows.{row_is}
use Rattle.slice_table.proofs.row_laws.row_is_said.Goals as goal

pub returns : goal.returns
returns c = row_is
