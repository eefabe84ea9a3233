use Rattle.plant_workers.proofs.AuditLemmas.Making.{are_maps}
use Rattle.plant_workers.proofs.audit.laws.placings_make_the_maps.Goals as goal

pub returns : goal.returns
returns c = λ plant steps placings maps after have is due. are_maps plant steps placings maps after due have is
