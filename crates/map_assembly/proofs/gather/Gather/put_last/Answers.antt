use Rattle.std.proofs.Common.{subst}
use Rattle.map_assembly.specs.Gathering.{Gathering, frame_slices, frame_parts}
use Rattle.map_assembly.specs.Assembled.{IsMapOf}
use Rattle.map_assembly.proofs.gather.Gather.put_last.Goals as goal

pub returns-in-Ok-clause-bytes : goal.returns-in-Ok-clause-bytes
returns-in-Ok-clause-bytes c =
    rw c.take_bytes-bytes.ensures
    (subst (λ (g : Gathering). IsMapOf g.channel c.args.frame g.quotas (frame_slices g c.args.frame) (frame_parts g c.args.op c.args.elements) c.map_of.new.memory.bytes.items) c.take_memory-memory.ensures c.in-Ok.ensures.bytes)
