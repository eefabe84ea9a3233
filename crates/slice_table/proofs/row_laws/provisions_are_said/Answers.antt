use Rattle.slice_table.proofs.SaidRows.{provisions_are}
use Rattle.slice_table.proofs.row_laws.provisions_are_said.Goals as goal

pub returns : goal.returns
returns c = provisions_are
