use Rattle.run_model.proofs.Changes.{goes_through}
use Rattle.run_model.proofs.laws.kept_rows_go_through.Goals as goal

pub returns : goal.returns
returns c = goes_through
