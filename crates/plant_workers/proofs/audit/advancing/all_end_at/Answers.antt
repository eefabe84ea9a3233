use Rattle.std.proofs.Common.{◌≡◌, ℕ, Some, refl, arith, subst}
use Rattle.plant_workers.proofs.AuditLemmas.Common.{slice_get, slice_get_within, get_or_from_slice_get, RowFields, view_of, EndsAt}
use Rattle.plant_workers.proofs.AuditLemmas.Least.{next_place, map_there}
use Rattle.plant_workers.proofs.audit.advancing.all_end_at.Goals as goal

pub loop-op-preserved : goal.loop-op-preserved
loop-op-preserved g c i row book place lt r b p =
    next_place _ c.loop-op.op (view_of c.index-books-op.result)
    (map_there view_of c.args.books.now c.loop-op.op c.index-books-op.result c.loop-op-test.true c.index-books-op.is)
    (λ k other. (other_row : RowFields) (q : ℕ) → slice_get c.args.plant.now.rows k ≡ Some other_row → slice_get c.args.places.now k ≡ Some q → EndsAt c.args.plant.now other_row other q)
    (λ k other below e other_row q f h. c.loop-op.invariant k other_row other q below f e h)
    (λ other_row q f h. subst (λ (n : ℕ). EndsAt c.args.plant.now other_row (view_of c.index-books-op.result) n) (get_or_from_slice_get c.args.places.now c.loop-op.op q 0 h)
    (c.if-not-ends_at.ensures refl other_row f))
    i book lt b row place r p

pub returns : goal.returns
returns g c so i row book place r b p =
    let within = slice_get_within c.args.plant.now.rows i row r in
    c.loop-op.invariant i row book place (omega (arith, within, c.requires.one_each, c.loop-op-test.false)) r b p
