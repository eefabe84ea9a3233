use Rattle.flow_table.proofs.StandLemmas.{new_may_stand}
use Rattle.flow_table.proofs.laws.new_flow_may_stand.Goals as goal

pub returns : goal.returns
returns c = new_may_stand
