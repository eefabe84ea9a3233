use Rattle.admission.proofs.PlaceLemmas.{stands}
use Rattle.admission.proofs.place.packed_place.Goals as goal

pub returns-then-rows-place : goal.returns-then-rows-place
returns-then-rows-place g c = stands c.index-rows-place.result c.args.rows.now c.requires c.args.sfid _ c.if-place-rows.true c.if-rows-place.true
