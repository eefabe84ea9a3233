use Rattle.std.proofs.Common.{◌≡◌, Some, arith}
use Rattle.plant_workers.proofs.Common.{slice_get, slice_get_within, RowFields, cell_book, IsBookAfter, some_at, next_place, map_there}
use Rattle.plant_workers.proofs.following.first_stray.Goals as goal

pub returns-in-Some : goal.returns-in-Some
returns-in-Some g c =
    let row = some_at c.args.plant.now.rows c.loop-op.op (omega (arith, c.loop-op-test.true, c.requires)) in
    record {
      row = row.0;
      book = cell_book c.index-helds-op.result;
      row_is = row.1;
      book_is = map_there cell_book c.args.helds.now c.loop-op.op c.index-helds-op.result c.loop-op-test.true c.index-helds-op.is;
      strays = c.in-Some.ensures row.0 row.1;
      before = c.loop-op.invariant;
    }

pub loop-op-preserved : goal.loop-op-preserved
loop-op-preserved g c i row book lt here there =
    next_place _ c.loop-op.op (cell_book c.index-helds-op.result)
    (map_there cell_book c.args.helds.now c.loop-op.op c.index-helds-op.result c.loop-op-test.true c.index-helds-op.is)
    (λ k b. (r : RowFields) → slice_get c.args.plant.now.rows k ≡ Some r → IsBookAfter c.args.plant.now c.args.steps.now k r b)
    (λ k b below e r f. c.loop-op.invariant k r b below f e)
    (λ r f. c.in_default.ensures r f)
    i book lt there row here

pub returns : goal.returns
returns g c i row book here there =
    let within = slice_get_within c.args.plant.now.rows i row here in
    c.loop-op.invariant i row book (omega (arith, within, c.requires, c.loop-op-test.false)) here there
