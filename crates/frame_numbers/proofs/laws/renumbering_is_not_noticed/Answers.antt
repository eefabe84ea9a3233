use Rattle.std.proofs.Common.{arith}
use Rattle.frame_numbers.proofs.StepLemmas.{run-same}
use Rattle.frame_numbers.proofs.laws.renumbering_is_not_noticed.Goals as goal

pub returns : goal.returns
returns c = λ consts row a b actions sound_a sound_b same may numbers. run-same consts row a.frame b.frame a b actions sound_a sound_b same (omega arith) may numbers
