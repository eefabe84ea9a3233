use Rattle.std.proofs.Common.{rules}
use Rattle.map_assembly.proofs.NewLemmas.{resliced_seen}
use Rattle.map_assembly.proofs.gather.Gather.reslice.Goals as goal

pub invariant_of-self-2 : goal.invariant_of-self-2
invariant_of-self-2 c = resliced_seen _ c.args.self.now c.args.from c.args.slices.items _ c.self.view_is c.self.invariant c.requires (search rules)
