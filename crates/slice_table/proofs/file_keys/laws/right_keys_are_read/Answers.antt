use Rattle.slice_table.proofs.FileKeysLemmas.FaultLemmas.{right_is_said}
use Rattle.slice_table.proofs.file_keys.laws.right_keys_are_read.Goals as goal

pub returns : goal.returns
returns c = right_is_said
