use Rattle.slice_table.proofs.FirstLaws.{again_is}
use Rattle.slice_table.proofs.laws.first_again_is_named.Goals as goal

pub returns : goal.returns
returns c = again_is
