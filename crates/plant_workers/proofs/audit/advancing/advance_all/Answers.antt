use Rattle.std.proofs.Common.{length, map, refl, arith}
use Rattle.plant_workers.proofs.AuditLemmas.Common.{slice_get_read, view_of}
use Rattle.plant_workers.proofs.AuditLemmas.Advanced.{none_advanced, one_advanced, all_advanced, moves_there}
use Rattle.plant_workers.proofs.AuditLemmas.Least.{map_there}
use Rattle.plant_workers.proofs.audit.advancing.advance_all.Goals as goal

pub loop-op-init : goal.loop-op-init
loop-op-init g c = none_advanced c.args.plant.now (map view_of c.args.books.now) c.args.steps.now c.args.at c.args.places.now c.requires.before

pub loop-op-preserved : goal.loop-op-preserved
loop-op-preserved g c =
    let step = c.index-steps-at.result in
    let here = slice_get_read c.args.steps.now (length c.args.steps.now) c.args.at step refl c.requires.within c.index-steps-at.is in
    one_advanced c.args.plant.now (map view_of c.args.books.now) c.args.steps.now c.args.at step here c.loop-op.op c.loop-op.places
    (omega (arith, c.loop-op-test.true, c.loop-op.invariant.one_each, c.requires.one_each)) c.advance.new.place
    (moves_there c.args.plant.now (map view_of c.args.books.now) step c.loop-op.places c.loop-op.op c.advance.new.place (view_of c.index-books-op.result) c.history.result.now
    (map_there view_of c.args.books.now c.loop-op.op c.index-books-op.result c.loop-op-test.true c.index-books-op.is) c.history.ensures
    (c.if-not-advance.ensures refl))
    c.loop-op.invariant

pub returns : goal.returns
returns g c so =
    all_advanced c.args.plant.now (map view_of c.args.books.now) c.args.steps.now c.args.at c.loop-op.op c.loop-op.places
    (omega (arith, c.loop-op-test.false, c.loop-op.invariant.one_each, c.requires.one_each)) c.loop-op.invariant
