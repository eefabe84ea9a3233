use Rattle.plant.proofs.Holders.{one_lists}
use Rattle.plant.proofs.laws.one_operator_lists.Goals as goal

pub returns : goal.returns
returns c = λ plant modem i j a b h. one_lists plant.rows modem i j a b h.modems
