use Rattle.slice_table.proofs.SaidConsts.{consts_are}
use Rattle.slice_table.proofs.laws.consts_are_said.Goals as goal

pub returns : goal.returns
returns c = consts_are
