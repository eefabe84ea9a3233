use Rattle.slice_table.proofs.SaidKeys.{slice_is}
use Rattle.slice_table.proofs.key_laws.slice_is_said.Goals as goal

pub returns : goal.returns
returns c = slice_is
