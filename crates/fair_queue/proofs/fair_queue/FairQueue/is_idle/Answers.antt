use Rattle.std.proofs.Common.{◌≡◌, ◌∙◌, sym, subst, List, Bool, false, true}
use Rattle.fair_queue.specs.Items.{QueueView}
use Rattle.fair_queue.specs.Fair.{FairView, NoneReady, IsNothingReady}
use Rattle.fair_queue.proofs.FairLemmas.{someone_ready, idle_one}
use Rattle.fair_queue.proofs.fair_queue.FairQueue.is_idle.Goals as goal

pub returns-in-Some-clause-ready : goal.returns-in-Some-clause-ready
returns-in-Some-clause-ready c = λ is idle.
    let inside = subst (λ (f : FairView). IsNothingReady f) (sym c.self.view_is) idle in
    someone_ready _ c.self.inside.queues.items _ _ c.in-Some.ensures.some c.as_slice.ensures.value inside.none

pub returns-clause-idle : goal.returns-clause-idle
returns-clause-idle c = λ is.
    let none : NoneReady c.self.inside.queues.items = subst (λ (l : List QueueView). NoneReady l) c.as_slice.ensures.value c.in_default.ensures.none in
    rw (← c.self.view_is) (idle_one _ none (c.is_empty.ensures.0 is))

pub returns-clause-ready : goal.returns-clause-ready
returns-clause-ready c = λ is idle.
    let inside = subst (λ (f : FairView). IsNothingReady f) (sym c.self.view_is) idle in
    let wrong : false ≡ true = sym is ∙ c.is_empty.ensures.1 inside.no_owner in cc
