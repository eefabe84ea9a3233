use Rattle.std.proofs.Common.{refl, get_or}
use Rattle.slice_scheduler.proofs.Common.{nat_lt, lt-ltb, le-ltb, Award}
use Rattle.slice_scheduler.proofs.MoreLemmas.{map-kept, map-left}
use Rattle.slice_scheduler.proofs.planning.pending.Goals as goal
use Rattle.slice_scheduler.proofs.planning.pending.Goals.{then-award+in_ok-push, else-award}

pub loop-award-preserved : goal.loop-award-preserved
loop-award-preserved c =
    let none : Award = record { sfid = 0; sid = 0; rank = 0; backlog = 0; grant = 0 } in
    let awards = c.args.awards.now in
    let i = c.loop-award.award-index in
    let award = get_or awards i none in
    elim c.if-award.branch [
      | then-award+in_ok-push w ↦ rw (w.sids-is, w.in_ok-push.ensures.items)
          (map-kept awards i award none c.loop-award-test.true refl (λ a. a.sid) (λ a. nat_lt a.grant a.backlog) c.loop-award.sids.items (lt-ltb _ _ w.if-award.true) c.loop-award.invariant)
      | else-award w ↦ rw w.sids-is
          (map-left awards i award none c.loop-award-test.true refl (λ a. a.sid) (λ a. nat_lt a.grant a.backlog) c.loop-award.sids.items (le-ltb _ _ w.if-award.false) c.loop-award.invariant)
    ]
