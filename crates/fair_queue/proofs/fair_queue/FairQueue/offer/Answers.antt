use Rattle.std.proofs.Common.{◌≡◌, ◌<◌, ◌∙◌, sym, refl, ap, subst, arith, length}
use Rattle.fair_queue.specs.Fair.{FairView}
use Rattle.fair_queue.proofs.FairLemmas.{in_step_set, there, on_ok_map, offered_one, places_kept}
use Rattle.fair_queue.proofs.fair_queue.FairQueue.offer.Goals as goal

pub invariant_of-self : goal.invariant_of-self
invariant_of-self c =
    let less : c.args.op < length c.self.inside.queues.items = subst (λ (f : FairView). c.args.op < length f.queues) (sym c.self.view_is) c.requires.op in
    λ whole. in_step_set c.self.inside.owner.lines c.self.inside.queues.items c.args.op c.index_mut.result.now c.offer.new.self (c.self.invariant whole)
    (there c.self.inside.queues.items c.args.op c.index_mut.result.now less c.index_mut.ensures.value)
    (places_kept c.offer.result c.args.line c.index_mut.result.now c.offer.new.self c.offer.ensures.ok c.offer.ensures.err)

pub returns-clause-ok : goal.returns-clause-ok
returns-clause-ok c =
    let less : c.args.op < length c.self.inside.queues.items = subst (λ (f : FairView). c.args.op < length f.queues) (sym c.self.view_is) c.requires.op in
    rw (← c.self.view_is) (on_ok_map c.offer.result _ _
    (offered_one c.args.op c.args.line _ c.index_mut.result.now c.offer.new.self (there c.self.inside.queues.items c.args.op c.index_mut.result.now less c.index_mut.ensures.value))
    c.offer.ensures.ok)
