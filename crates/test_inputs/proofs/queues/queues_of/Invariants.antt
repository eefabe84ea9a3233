use Rattle.std.proofs.Common.{◌≡◌, [], All}
use Rattle.fair_queue.specs.Items.{QueueView}
use Rattle.test_inputs.proofs.queues.queues_of.Given as goal

abbrev pub invariant-loop : goal.invariant-loop
invariant-loop l = All (λ (q : QueueView). q.items ≡ []) l.queues.items
