use Rattle.slice_table.proofs.SaidKeys.{number_is}
use Rattle.slice_table.proofs.key_laws.number_is_said.Goals as goal

pub returns : goal.returns
returns c = number_is
