use Rattle.slice_table.proofs.SaidKeys.{policy_is}
use Rattle.slice_table.proofs.key_laws.policy_is_said.Goals as goal

pub returns : goal.returns
returns c = policy_is
