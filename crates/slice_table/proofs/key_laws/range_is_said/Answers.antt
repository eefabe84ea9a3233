use Rattle.slice_table.proofs.SaidKeys.{range_is}
use Rattle.slice_table.proofs.key_laws.range_is_said.Goals as goal

pub returns : goal.returns
returns c = range_is
