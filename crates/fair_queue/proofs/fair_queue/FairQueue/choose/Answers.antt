use Rattle.std.proofs.Common.{◌≡◌, ◌∙◌, ◌∷◌, sym, refl, ap, subst, arith, List, length, ℕ}
use Rattle.fair_queue.specs.Items.{QueueView}
use Rattle.fair_queue.specs.Runs.{IsPassed, IsTaken}
use Rattle.fair_queue.specs.Fair.{FairView, AreInStep, AllAct, IsNextReady, NoneReady}
use Rattle.fair_queue.proofs.ItemLemmas.{taken_places}
use Rattle.fair_queue.proofs.FairLemmas.{in_step_set, in_step_all, written, passed_step, place_first, chosen_one, owner_one, idle_one, there, ready_there}
use Rattle.fair_queue.proofs.fair_queue.FairQueue.choose.Goals as goal

pub invariant_of-self : goal.invariant_of-self
invariant_of-self c =
    let next : IsNextReady c.self.inside.queues.items c.self.inside.turn c.in-Some.op = subst (λ (l : List QueueView). IsNextReady l c.self.inside.turn c.in-Some.op) c.as_slice.ensures.value c.in-Some.ensures.some in
    λ whole. in_step_set c.self.inside.owner.lines c.self.inside.queues.items c.in-Some.op c.index_mut.result.now c.choose-chosen.new.self (c.self.invariant whole)
    (there c.self.inside.queues.items c.in-Some.op c.index_mut.result.now (ready_there _ _ _ next) c.index_mut.ensures.value)
    (taken_places c.choose-chosen.result.line c.index_mut.result.now c.choose-chosen.new.self c.choose-chosen.ensures.taken)

pub returns-in-Some-clause-some : goal.returns-in-Some-clause-some
returns-in-Some-clause-some c =
    let next : IsNextReady c.self.inside.queues.items c.self.inside.turn c.in-Some.op = subst (λ (l : List QueueView). IsNextReady l c.self.inside.turn c.in-Some.op) c.as_slice.ensures.value c.in-Some.ensures.some in
    rw (← c.self.view_is) (chosen_one c.in-Some.op c.choose-chosen.result.number c.choose-chosen.result.line _ c.index_mut.result.now c.choose-chosen.new.self next
    (there c.self.inside.queues.items c.in-Some.op c.index_mut.result.now (ready_there _ _ _ next) c.index_mut.ensures.value) c.choose-chosen.ensures.taken c.choose-chosen.ensures.number)

pub returns-in_err-line-clause-none : goal.returns-in_err-line-clause-none
returns-in_err-line-clause-none c =
    let none : NoneReady c.self.inside.queues.items = subst (λ (l : List QueueView). NoneReady l) c.as_slice.ensures.value c.in_default.ensures.none in
    rw (← c.self.view_is, c.from_residual.ensures)
    (idle_one _ none c.in_err-line.ensures.none.0, rw c.in_err-line.ensures.none.1 refl)

pub pass_all-requires-clause-none : goal.pass_all-requires-clause-none
pass_all-requires-clause-none c =
    subst (λ (l : List QueueView). NoneReady l) (c.as_slice.ensures.value ∙ sym c.as_mut_slice.ensures.value) c.in_default.ensures.none

pub invariant_of-self-2 : goal.invariant_of-self-2
invariant_of-self-2 c =
    let act : AllAct (IsPassed c.in_ok-line.line.is_tick) c.self.inside.queues.items c.pass_all.new.queues =
    subst (λ (l : List QueueView). AllAct (IsPassed c.in_ok-line.line.is_tick) l c.pass_all.new.queues) c.as_mut_slice.ensures.value c.pass_all.ensures in
    let w = written c.self.inside.queues.len c.self.inside.queues.items c.pass_all.new.queues (act.as_many ∙ omega (arith, c.as_mut_slice.ensures.len, ap (λ (l : List QueueView). length l) c.as_mut_slice.ensures.value)) in
    λ whole. rw w (in_step_all (IsPassed c.in_ok-line.line.is_tick) c.self.inside.owner.lines c.take.new.self.lines c.self.inside.queues.items c.pass_all.new.queues
    (λ q q' passed. passed_step c.in_ok-line.line c.self.inside.owner.lines c.take.new.self.lines q q' c.in_ok-line.ensures.some.first passed) act (c.self.invariant whole))

pub returns-clause-some : goal.returns-clause-some
returns-clause-some c =
    let none : NoneReady c.self.inside.queues.items = subst (λ (l : List QueueView). NoneReady l) c.as_slice.ensures.value c.in_default.ensures.none in
    let act : AllAct (IsPassed c.in_ok-line.line.is_tick) c.self.inside.queues.items c.pass_all.new.queues =
    subst (λ (l : List QueueView). AllAct (IsPassed c.in_ok-line.line.is_tick) l c.pass_all.new.queues) c.as_mut_slice.ensures.value c.pass_all.ensures in
    let w = written c.self.inside.queues.len c.self.inside.queues.items c.pass_all.new.queues (act.as_many ∙ omega (arith, c.as_mut_slice.ensures.len, ap (λ (l : List QueueView). length l) c.as_mut_slice.ensures.value)) in
    rw (← c.self.view_is, w) (owner_one _ c.in_ok-line.line _ c.take.new.self c.pass_all.new.queues none c.in_ok-line.ensures.some c.counts.ensures.taken act)
