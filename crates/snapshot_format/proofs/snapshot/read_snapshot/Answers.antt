use Rattle.snapshot_format.proofs.SnapshotLemmas.{read_back}
use Rattle.snapshot_format.proofs.KeptLemmas.{answer_keeps}
use Rattle.snapshot_format.proofs.snapshot.read_snapshot.Goals as goal

pub returns-clause-read_back : goal.returns-clause-read_back
returns-clause-read_back c = read_back c.args.text.now c.snapshot_of.result c.snapshot_of.ensures

pub returns-clause-kept : goal.returns-clause-kept
returns-clause-kept c = answer_keeps c.args.text.now c.snapshot_of.result c.snapshot_of.ensures
