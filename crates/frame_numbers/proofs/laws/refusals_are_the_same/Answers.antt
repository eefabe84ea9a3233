use Rattle.std.proofs.Common.{arith}
use Rattle.frame_numbers.proofs.StepLemmas.{stranger-same, unfit-same}
use Rattle.frame_numbers.proofs.laws.refusals_are_the_same.Goals as goal

pub returns : goal.returns
returns c = λ consts row a b action same. (stranger-same consts row a.frame b.frame a b same (omega arith) action, unfit-same consts row a.frame b.frame a b same (omega arith) action)
