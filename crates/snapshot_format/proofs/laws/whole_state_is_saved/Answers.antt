use Rattle.snapshot_format.proofs.StateLemmas.{state_is}
use Rattle.snapshot_format.proofs.laws.whole_state_is_saved.Goals as goal

pub returns : goal.returns
returns c = state_is
