use Rattle.snapshot_format.proofs.SnapshotLemmas.{snapshot_back}
use Rattle.snapshot_format.proofs.laws.snapshot_is_read_back.Goals as goal

pub returns : goal.returns
returns c = snapshot_back
