use Rattle.std.proofs.Common.{◌≡◌, take, map, filter}
use Rattle.std.specs.Prelude.{nat_lt}
use Rattle.slice_scheduler.proofs.planning.grants_of_awards.Given as goal

abbrev pub invariant-loop-award : goal.invariant-loop-award
invariant-loop-award l = l.grants.items ≡ map (λ a. (a.sfid, a.grant)) (filter (λ a. nat_lt 0 a.grant) (take l.award-index l.awards))
