use Rattle.slice_scheduler.proofs.Common.{recursion_from_All, IsOfItsKind}
use Rattle.slice_scheduler.proofs.TiledLemmas.{elements-tiled}
use Rattle.slice_scheduler.proofs.laws.elements_are_tiled.Goals as goal

pub returns : goal.returns
returns c = λ policy at flows ascend fits kinds. elements-tiled policy at flows ascend fits (recursion_from_All IsOfItsKind flows kinds)
