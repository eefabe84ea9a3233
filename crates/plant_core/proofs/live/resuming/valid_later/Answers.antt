use Rattle.std.proofs.Common.{ap, ◌∙◌}
use Rattle.plant_core.proofs.LiveLemmas.Common.{ConstsFields, sound_of, later_of}
use Rattle.plant_core.proofs.LiveLemmas.ResumeFaultLemmas.{first_seen}
use Rattle.plant_core.proofs.live.resuming.valid_later.Goals as goal

pub returns-in-Some-clause-fault : goal.returns-in-Some-clause-fault
returns-in-Some-clause-fault c = (
  c.requires,
  first_seen (later_of) sound_of c.args.plant.now.consts.channel c.get_fields.result.now.channel c.args.lives.now c.as_slice.result.now c.in_ok-slices.slices.items c.in-Some.op
      (ap (λ (f : ConstsFields). f.channel) (c.get_fields.ensures.value ∙ c.consts.ensures.value)) c.as_slice.ensures.value c.in_ok-slices.ensures c.in-Some.ensures.first,
)
