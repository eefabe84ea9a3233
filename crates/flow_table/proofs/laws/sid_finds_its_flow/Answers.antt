use Rattle.flow_table.proofs.StandLemmas.{found_iff}
use Rattle.flow_table.proofs.laws.sid_finds_its_flow.Goals as goal

pub returns : goal.returns
returns c = found_iff
