use Rattle.std.proofs.Common.{ℕ, List, take, All, sym, ◌∙◌, ap, subst, arith}
use Rattle.plant_workers.proofs.AuditLemmas.Common.{Entry, view_of, frames_in, IsOneFrame, replay_one, length-map, get_or-replicate}
use Rattle.plant_workers.proofs.AuditLemmas.Least.{first_more, first_of_all, map_there}
use Rattle.plant_workers.proofs.audit.putting.first_put_stray.Goals as goal

pub count_all_collects-requires : goal.count_all_collects-requires
count_all_collects-requires g c i lt = get_or-replicate 32 i 0 0 lt

pub first_missed-requires : goal.first_missed-requires
first_missed-requires g c =
    subst (λ (h : List Entry). All IsOneFrame h) (sym c.history.ensures) (replay_one (view_of c.index-books-op.result) c.always_replayed.ensures)

pub returns : goal.returns
returns g c first are =
    let long = length-map c.args.books.now view_of in
    first_of_all first c.args.steps.now _ c.args.placings.now c.loop-op.op c.loop-op.least (omega (arith, c.loop-op-test.false, long)) (c.loop-op.invariant first are)

pub loop-op-preserved : goal.loop-op-preserved
loop-op-preserved g c first are =
    first_more first c.args.steps.now _ c.args.placings.now c.loop-op.op (view_of c.index-books-op.result)
    (map_there view_of c.args.books.now c.loop-op.op c.index-books-op.result c.loop-op-test.true c.index-books-op.is)
    (take c.collects_of-due.result (frames_in c.history.result.now))
    (ap (λ (h : List Entry). take c.collects_of-due.result (frames_in h)) c.history.ensures
    ∙ ap (λ (n : ℕ). take n (frames_in (view_of c.index-books-op.result).history)) c.collects_of-due.ensures)
    c.loop-op.least c.first_missed.result c.lesser-least.result c.lesser-least.ensures are (c.first_missed.ensures first) (c.loop-op.invariant first are)

pub loop-op-init : goal.loop-op-init
loop-op-init g c first are i book lt = absurd (omega (arith, lt))
