use Rattle.std.proofs.Common.{ap, sym, subst, List, []}
use Rattle.std.specs.Prelude.{All, ◌≡◌}
use Rattle.std.proofs.lemmas.List.Elements.{All-push}
use Rattle.fair_queue.specs.Items.{QueueView}
use Rattle.test_inputs.proofs.queues.queues_of.Goals as goal

pub loop-preserved : goal.loop-preserved
loop-preserved c =
    subst (λ (queues : List QueueView). All (λ q. q.items ≡ []) queues) (sym c.in-Ok-push.ensures.items)
    (All-push (λ (q : QueueView). q.items ≡ []) c.loop.queues.items c.in-Ok.queue c.loop.invariant (ap (λ (q : QueueView). q.items) c.in-Ok.ensures.ok))
