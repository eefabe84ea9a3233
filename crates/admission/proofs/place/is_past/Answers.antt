use Rattle.std.proofs.Common.{rules}
use Rattle.admission.proofs.PlaceLemmas.{past_last, past_nothing}
use Rattle.admission.proofs.place.is_past.Goals as goal

pub returns-in-Some : goal.returns-in-Some
returns-in-Some g c past = past_last c.args.rows.now c.requires c.args.sfid c.in-Some.last.now c.in-Some.ensures.value (search rules)

pub returns-in-None : goal.returns-in-None
returns-in-None g c is = past_nothing c.args.rows.now c.args.sfid c.in-None.ensures.value
