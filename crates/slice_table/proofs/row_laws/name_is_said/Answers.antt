use Rattle.slice_table.proofs.SaidRows.{name_is}
use Rattle.slice_table.proofs.row_laws.name_is_said.Goals as goal

pub returns : goal.returns
returns c = name_is
