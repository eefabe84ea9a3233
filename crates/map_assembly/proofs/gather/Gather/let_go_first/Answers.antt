use Rattle.map_assembly.proofs.GoneLemmas.{first_gone, first_alike}
use Rattle.map_assembly.proofs.gather.Gather.let_go_first.Goals as goal

pub invariant_of-self : goal.invariant_of-self
invariant_of-self c = first_gone _ c.args.self.now c.remove.result c.remove.new.self.items c.self.view_is c.requires c.remove.ensures.value c.remove.ensures.items c.self.invariant

pub returns-clause-alike : goal.returns-clause-alike
returns-clause-alike c = first_alike _ c.args.self.now c.remove.result c.remove.new.self.items c.self.view_is c.requires c.remove.ensures.value c.remove.ensures.items
