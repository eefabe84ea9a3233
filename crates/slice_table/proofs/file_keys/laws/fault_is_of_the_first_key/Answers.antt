use Rattle.slice_table.proofs.FileKeysLemmas.FaultLemmas.{fault_is}
use Rattle.slice_table.proofs.file_keys.laws.fault_is_of_the_first_key.Goals as goal

pub returns : goal.returns
returns c = fault_is
