use Rattle.std.proofs.Common.{◌≡◌, ◌∙◌, sym, refl, ap, subst, arith, List, length, ◌++◌, ◌∷◌, []}
use Rattle.fair_queue.specs.Items.{QueueView, OwnerView}
use Rattle.fair_queue.specs.Runs.{IsArrival}
use Rattle.fair_queue.specs.Fair.{AllAct, AreInStep}
use Rattle.fair_queue.specs.declared.line.Item.TheVariants as items
use Rattle.fair_queue.proofs.FairLemmas.{in_step_all, written, marked_step, owner_offered_one}
use Rattle.fair_queue.proofs.fair_queue.FairQueue.offer_owner.Goals as goal

pub invariant_of-self-in-Ok : goal.invariant_of-self-in-Ok
invariant_of-self-in-Ok c =
    let act : AllAct (IsArrival (items.Owner c.args.line.is_tick)) c.self.inside.queues.items c.mark_all.new.queues =
    subst (λ (l : List QueueView). AllAct (IsArrival (items.Owner c.args.line.is_tick)) l c.mark_all.new.queues) c.as_mut_slice.ensures.value c.in_ok-mark_all.ensures in
    let w = written c.self.inside.queues.len c.self.inside.queues.items c.mark_all.new.queues
    (act.as_many ∙ omega (arith, c.as_mut_slice.ensures.len, ap (λ (l : List QueueView). length l) c.as_mut_slice.ensures.value)) in
    λ whole. rw w (subst (λ (o : OwnerView). AreInStep o.lines c.mark_all.new.queues) (sym c.in-Ok.ensures.ok)
    (in_step_all (IsArrival (items.Owner c.args.line.is_tick)) c.self.inside.owner.lines (c.self.inside.owner.lines ++ c.args.line ∷ []) c.self.inside.queues.items c.mark_all.new.queues
    (λ q q' comes. marked_step c.args.line c.self.inside.owner.lines q q' comes) act (c.self.invariant whole)))
