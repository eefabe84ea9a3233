use Rattle.snapshot_format.proofs.KeptLemmas.{snapshot_keeps}
use Rattle.snapshot_format.proofs.laws.read_states_are_kept.Goals as goal

pub returns : goal.returns
returns c = snapshot_keeps
