use Rattle.slice_table.proofs.FileKeysLemmas.FaultLemmas.{read_is_right}
use Rattle.slice_table.proofs.file_keys.laws.read_keys_are_right.Goals as goal

pub returns : goal.returns
returns c = read_is_right
