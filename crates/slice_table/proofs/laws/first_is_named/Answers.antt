use Rattle.slice_table.proofs.FirstLaws.{named_first}
use Rattle.slice_table.proofs.laws.first_is_named.Goals as goal

pub returns : goal.returns
returns c = named_first
