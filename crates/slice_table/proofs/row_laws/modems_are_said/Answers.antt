use Rattle.slice_table.proofs.SaidRows.{modems_are}
use Rattle.slice_table.proofs.row_laws.modems_are_said.Goals as goal

pub returns : goal.returns
returns c = modems_are
