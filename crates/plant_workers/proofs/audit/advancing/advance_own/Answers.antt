use Rattle.std.proofs.Common.{length, map, get_or, refl, arith}
use Rattle.plant_workers.proofs.AuditLemmas.Common.{slice_get_read, actions_of, view_of}
use Rattle.plant_workers.proofs.AuditLemmas.Advanced.{stranger_advanced, untaken_advanced, own_advanced, moves_there, taken_moves}
use Rattle.plant_workers.proofs.AuditLemmas.Least.{map_there}
use Rattle.plant_workers.proofs.audit.advancing.advance_own.Goals as goal
use Rattle.plant_workers.proofs.audit.advancing.advance_own.Goals.{then-op-books-via-then-op-books, then-op-books-via-else-op-books+then-not-is_taken}

pub returns-then-op-books : goal.returns-then-op-books
returns-then-op-books g c so =
    let step = c.index-steps-at.result in
    let here = slice_get_read c.args.steps.now (length c.args.steps.now) c.args.at step refl c.requires.within c.index-steps-at.is in
    elim c.then-op-books.branch [
      | then-op-books-via-then-op-books w ↦
          stranger_advanced c.args.plant.now (map view_of c.args.books.now) c.args.steps.now c.args.at step here c.rows-rows.ensures.valid c.args.op (c.requires.own step here)
          (omega (arith, w.if-op-books.true, c.requires.one_each)) c.args.places.now c.requires.before
      | then-op-books-via-else-op-books+then-not-is_taken w ↦
          untaken_advanced c.args.plant.now (map view_of c.args.books.now) c.args.steps.now c.args.at step here c.rows-rows.ensures.valid c.args.op (c.requires.own step here)
          w.if-not-is_taken.ensures c.args.places.now c.requires.before
    ]

pub returns : goal.returns
returns g c so =
    let step = c.index-steps-at.result in
    let here = slice_get_read c.args.steps.now (length c.args.steps.now) c.args.at step refl c.requires.within c.index-steps-at.is in
    let is = c.rows-rows.ensures.valid in
    let waits = c.requires.own step here in
    own_advanced c.args.plant.now (map view_of c.args.books.now) c.args.steps.now c.args.at step here c.args.op c.args.places.now
    (omega (arith, c.if-op-books.false, c.requires.one_each, c.requires.before.one_each)) c.advance_past.new.place
    (moves_there c.args.plant.now (map view_of c.args.books.now) step c.args.places.now c.args.op c.advance_past.new.place (view_of c.index-books-op.result) c.history.result.now
    (map_there view_of c.args.books.now c.args.op c.index-books-op.result (omega (arith, c.if-op-books.false)) c.index-books-op.is) c.history.ensures
    (λ row r. taken_moves c.args.plant.now step c.args.op row is waits r c.if-not-is_taken.ensures (actions_of c.history.result.now) (get_or c.args.places.now c.args.op 0) c.advance_past.new.place (c.advance_past.ensures so)))
    is waits c.requires.before
