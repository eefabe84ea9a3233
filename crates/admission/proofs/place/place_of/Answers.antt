use Rattle.std.proofs.Common.{IfOk, IfErr, rules}
use Rattle.admission.proofs.Common.{answers_always, StandsAt, IsGap}
use Rattle.admission.proofs.PlaceLemmas.{searched}
use Rattle.admission.proofs.place.place_of.Given.{Over}
use Rattle.admission.proofs.place.place_of.Goals as goal

-- the closure gives a row's SFID
both : (g : Over) (c : goal.After-binary_search_by_key g) → IfOk c.binary_search_by_key.result (StandsAt c.args.rows.now c.args.sfid) × IfErr c.binary_search_by_key.result (IsGap c.args.rows.now c.args.sfid)
both g c =
    let facts = c.binary_search_by_key.ensures in
    let by_key = facts.position (λ row. row.0) (answers_always _ _ _ (λ f a r h called. search rules)) in
    searched c.args.rows.now c.requires c.args.sfid c.binary_search_by_key.result facts.bound by_key

pub returns-clause-found : goal.returns-clause-found
returns-clause-found g c = (both g c).0

pub returns-clause-absent : goal.returns-clause-absent
returns-clause-absent g c = (both g c).1
