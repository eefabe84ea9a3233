use Rattle.map_assembly.proofs.GoneLemmas.{alike_again}
use Rattle.map_assembly.proofs.gather.Gather.let_go.Goals as goal

pub loop-self-preserved : goal.loop-self-preserved
loop-self-preserved c = alike_again _ _ _ c.loop-self.invariant c.let_go_first.ensures.alike
