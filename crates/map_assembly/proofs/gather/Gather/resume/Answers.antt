use Rattle.std.proofs.Common.{rules}
use Rattle.map_assembly.proofs.NewLemmas.{gathering_resumed, same_new}
use Rattle.map_assembly.proofs.gather.Gather.resume.Goals as goal

pub invariant_of-result : goal.invariant_of-result
invariant_of-result c =
    gathering_resumed c.args.plant.now _ c.args.frame c.args.slices.items c.rows-rows.ensures.valid c.requires.slices c.requires.started
    (same_new _ _ (search rules) (search rules) (search rules) (search rules) (search rules) (search rules))
