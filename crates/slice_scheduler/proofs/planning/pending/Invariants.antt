use Rattle.std.proofs.Common.{◌≡◌, take, map, filter}
use Rattle.std.specs.Prelude.{nat_lt}
use Rattle.slice_scheduler.proofs.planning.pending.Given as goal

abbrev pub invariant-loop-award : goal.invariant-loop-award
invariant-loop-award l = l.sids.items ≡ map (λ a. a.sid) (filter (λ a. nat_lt a.grant a.backlog) (take l.award-index l.awards))
