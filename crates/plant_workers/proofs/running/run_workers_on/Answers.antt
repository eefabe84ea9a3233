use Rattle.std.proofs.Common.{◌≡◌, sym}
use Rattle.plant_workers.proofs.running.run_workers_on.Goals as goal

pub returns-clause-walk : goal.returns-clause-walk
returns-clause-walk g c = rw (sym c.as_slice.ensures.value) c.run_walked.ensures.walk

pub returns-clause-spent : goal.returns-clause-spent
returns-clause-spent g c = rw (sym c.as_slice.ensures.value) c.run_walked.ensures.spent
