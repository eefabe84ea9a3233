use Rattle.std.proofs.Common.{ℕ, List, refl, ap, ◌∙◌, subst, get_or, map, filter}
use Rattle.std.specs.List.Sorted.{IsPermutation}
use Rattle.std.specs.Ordering.{nat_cmp}
use Rattle.slice_scheduler.proofs.Common.{nat_lt, lt-ltb, le-ltb, take_all, Award}
use Rattle.slice_scheduler.proofs.OrderLemmas.{rise_from_sort}
use Rattle.slice_scheduler.proofs.MoreLemmas.{map-kept, map-left}
use Rattle.slice_scheduler.proofs.planning.grants_of_awards.Goals as goal
use Rattle.slice_scheduler.proofs.planning.grants_of_awards.Goals.{then-award-gt0+in_ok-push, else-award-gt0}

pub loop-award-preserved : goal.loop-award-preserved
loop-award-preserved c =
    let none : Award = record { sfid = 0; sid = 0; rank = 0; backlog = 0; grant = 0 } in
    let awards = c.args.awards.now in
    let i = c.loop-award.award-index in
    let award = get_or awards i none in
    elim c.if-award-gt0.branch [
      | then-award-gt0+in_ok-push w ↦ rw (w.grants-is, w.in_ok-push.ensures.items)
          (map-kept awards i award none c.loop-award-test.true refl (λ a. (a.sfid, a.grant)) (λ a. nat_lt 0 a.grant) c.loop-award.grants.items (lt-ltb _ _ w.if-award-gt0.true) c.loop-award.invariant)
      | else-award-gt0 w ↦ rw w.grants-is
          (map-left awards i award none c.loop-award-test.true refl (λ a. (a.sfid, a.grant)) (λ a. nat_lt 0 a.grant) c.loop-award.grants.items (le-ltb _ _ w.if-award-gt0.false) c.loop-award.invariant)
    ]

pub returns : goal.returns
returns c = record {
  all = subst (λ (grants : List (ℕ × ℕ)). IsPermutation grants c.sort_unstable.new.self.items)
      (c.loop-award.invariant ∙ ap (λ (awards : List Award). map (λ (a : Award). (a.sfid, a.grant)) (filter (λ (a : Award). nat_lt 0 a.grant) awards)) (take_all c.loop-award.award-index c.args.awards.now c.loop-award-test.false))
      c.sort_unstable.ensures.permutation;
  sorted = rise_from_sort nat_cmp c.sort_unstable.new.self.items c.sort_unstable.ensures.sorted;
}
