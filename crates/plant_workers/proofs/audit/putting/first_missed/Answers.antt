use Rattle.std.proofs.Common.{◌≡◌, ℕ, ◌+◌, ◌∙◌, take, drop, ◌++◌, List, sym, ap, arith}
use Rattle.plant_workers.proofs.AuditLemmas.Common.{slice_get_within, frames_in, Numbered, numbered_frame, put_by, puts_of}
use Rattle.plant_workers.proofs.AuditLemmas.Differing.{walk_none, walk_here, walk_some, walk_end, same_end}
use Rattle.plant_workers.proofs.AuditLemmas.Numbered.{missed_here, missed_end}
use Rattle.plant_workers.proofs.AuditLemmas.Dues.{past_end}
use Rattle.plant_workers.proofs.audit.putting.first_missed.Goals as goal
use Rattle.plant_workers.proofs.audit.putting.first_missed.Goals.{in-Some+in-Some-behind_due, in_default}

pub returns-in_default-behind_due : goal.returns-in_default-behind_due
returns-in_default-behind_due c first puts_are due_are =
    let due : List Numbered = take c.args.due (frames_in c.args.history.now) in
    missed_here first (puts_of c.args.op c.args.placings.now) due _ c.loop-placing.given (numbered_frame c.in-Some.put) c.loop-placing.invariant.within
    (walk_here (put_by c.args.op) (puts_of c.args.op c.args.placings.now) due c.args.placings.now c.loop-placing.given c.loop-placing.placing-index c.placing-item.result
    c.loop-placing.invariant.followed c.loop-placing-test.true c.placing-item.is (numbered_frame c.in-Some.put) (sym c.in-Some.ensures))
    c.in_default-behind_due.ensures.next puts_are

pub loop-placing-preserved : goal.loop-placing-preserved
loop-placing-preserved c =
    let due : List Numbered = take c.args.due (frames_in c.args.history.now) in
    elim c.match-put_by.branch [
      | in-Some+in-Some-behind_due w ↦
          let next : c.match-put_by.given ≡ c.loop-placing.given + 1 = w.given-is in
          let told = w.in-Some-behind_due.ensures.next in
          record {
            within = let lt = slice_get_within due c.loop-placing.given _ told.0 in omega (arith, lt, next);
            left = rw (w.from-is, next) told.1;
            followed =
                walk_some (put_by c.args.op) (puts_of c.args.op c.args.placings.now) due c.args.placings.now c.loop-placing.given c.loop-placing.placing-index c.placing-item.result
                c.loop-placing.invariant.followed c.loop-placing-test.true c.placing-item.is (numbered_frame w.in-Some.put) (sym w.in-Some.ensures) told.0
                ∙ ap (λ (n : ℕ). take n due ++ puts_of c.args.op (drop (c.loop-placing.placing-index + 1) c.args.placings.now)) (sym next);
          }
      | in_default w ↦
          let same : c.match-put_by.given ≡ c.loop-placing.given = w.given-is in
          record {
            within = omega (arith, c.loop-placing.invariant.within, same);
            left = rw (w.from-is, same) c.loop-placing.invariant.left;
            followed =
                walk_none (put_by c.args.op) (puts_of c.args.op c.args.placings.now) due c.args.placings.now c.loop-placing.given c.loop-placing.placing-index c.placing-item.result
                c.loop-placing.invariant.followed c.loop-placing-test.true c.placing-item.is (sym w.in_default.ensures)
                ∙ ap (λ (n : ℕ). take n due ++ puts_of c.args.op (drop (c.loop-placing.placing-index + 1) c.args.placings.now)) (sym same);
          }
    ]

pub returns-in-Some-next_due : goal.returns-in-Some-next_due
returns-in-Some-next_due c first puts_are due_are =
    let due : List Numbered = take c.args.due (frames_in c.args.history.now) in
    missed_end first (puts_of c.args.op c.args.placings.now) due c.loop-placing.given (numbered_frame c.in-Some-next_due.frame)
    (walk_end (put_by c.args.op) (puts_of c.args.op c.args.placings.now) due c.args.placings.now c.loop-placing.given c.loop-placing.placing-index
    c.loop-placing.invariant.followed c.loop-placing-test.false)
    c.in-Some-next_due.ensures.next.0 due_are

pub returns-in-None : goal.returns-in-None
returns-in-None c first puts_are due_are =
    let due : List Numbered = take c.args.due (frames_in c.args.history.now) in
    same_end due (puts_of c.args.op c.args.placings.now) c.loop-placing.given (past_end due c.loop-placing.given c.in-None.ensures.next)
    (walk_end (put_by c.args.op) (puts_of c.args.op c.args.placings.now) due c.args.placings.now c.loop-placing.given c.loop-placing.placing-index
    c.loop-placing.invariant.followed c.loop-placing-test.false)
