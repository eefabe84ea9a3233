use Rattle.slice_scheduler.proofs.Common.{recursion_from_All, AsksWhereItMay}
use Rattle.slice_scheduler.proofs.FewLemmas.{elements-few}
use Rattle.slice_scheduler.proofs.laws.elements_are_few.Goals as goal

pub returns : goal.returns
returns c = λ policy at flows asks. elements-few policy at flows (recursion_from_All AsksWhereItMay flows asks)
