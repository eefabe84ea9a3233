use Rattle.flow_table.proofs.StandLemmas.{known_may_stand_anew}
use Rattle.flow_table.proofs.laws.known_flow_may_stand_anew.Goals as goal

pub returns : goal.returns
returns c = known_may_stand_anew
