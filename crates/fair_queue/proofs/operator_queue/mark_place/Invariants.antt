use Rattle.std.proofs.Common.{◌≡◌, ◌+◌, drop}
use Rattle.fair_queue.specs.Items.{owner_place}
use Rattle.fair_queue.proofs.operator_queue.mark_place.Given as goal

abbrev pub invariant-loop-place : goal.invariant-loop-place
invariant-loop-place l = owner_place l.fn.items.items ≡ l.place + owner_place (drop l.place l.fn.items.items)
