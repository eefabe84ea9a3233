use Rattle.std.proofs.Common.{List, [], length, take, replicate, map, refl, sym, subst}
use Rattle.plant_workers.proofs.AuditLemmas.Common.{RowFields, view_of, HaveAdvanced}
use Rattle.plant_workers.proofs.AuditLemmas.Advanced.{none_yet, own_runs}
use Rattle.plant_workers.proofs.audit.advancing.all_follow.Goals as goal

pub advance_to_the_end-requires-clause-begin : goal.advance_to_the_end-requires-clause-begin
advance_to_the_end-requires-clause-begin g c =
    subst (λ (rows : List RowFields). HaveAdvanced c.args.plant.now (map view_of c.args.books.now) [] (take (length rows) (replicate 32 0))) (sym c.rows-operators.ensures.value)
    (none_yet c.args.plant.now (map view_of c.args.books.now) 32 c.rows-operators.ensures.valid.few)

pub returns-then-advance_to_the_end : goal.returns-then-advance_to_the_end
returns-then-advance_to_the_end g c so =
    own_runs c.args.plant.now (map view_of c.args.books.now) c.args.steps.now c.advance_to_the_end.new.places (c.if-advance_to_the_end.ensures refl) (c.all_end_at.ensures so)
