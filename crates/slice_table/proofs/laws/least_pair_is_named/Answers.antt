use Rattle.slice_table.proofs.FirstLaws.{meeting_least}
use Rattle.slice_table.proofs.laws.least_pair_is_named.Goals as goal

pub returns : goal.returns
returns c = meeting_least
