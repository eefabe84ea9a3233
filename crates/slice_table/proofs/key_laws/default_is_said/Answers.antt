use Rattle.slice_table.proofs.SaidKeys.{number_in_is}
use Rattle.slice_table.proofs.key_laws.default_is_said.Goals as goal

pub returns : goal.returns
returns c = number_in_is
