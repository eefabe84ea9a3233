use Rattle.slice_table.proofs.SaidKeys.{address_is}
use Rattle.slice_table.proofs.row_laws.address_is_said.Goals as goal

pub returns : goal.returns
returns c = address_is
