-- What the core becomes when an operator does an action that outputs no frame.
use Rattle.std.proofs.Common.{◌≡◌, ℕ, ◌<◌, List, [], ◌++◌, ◌↔◌, length, map, Option, arith, Result, Ok, Err, OnOk, OnErr, Some, refl, sym, ap, subst, append-nil, ◌∙◌}
use Rattle.plant_core.proofs.LiveLemmas.Common.{slice_get, slice_set, length-map, same_Some, slice_get_within, ElementsFields, PlantFields, IsPlant, Modem, Heard, Action, own_step, IsAllowed, BookView, operator_of_book, Gathering, IsGathering, Out, outputs_under, CoreView, frames_of, Acts, core_of, IsOfAStep, forgotten, went, Performs, IsReachableFromStart}
use Rattle.operator_model.specs.declared.action.Action.TheVariants as actions
use Rattle.operator_book.specs.declared.handling.FirstRequest.{FirstRequest}
use Rattle.operator_book.specs.Planned.{IsFirstRequest}
use Rattle.plant_core.specs.live.Planning.{HasRequest}
use Rattle.plant_core.proofs.LiveLemmas.StepLemmas.{same_view}
use Rattle.plant_core.proofs.LiveLemmas.PartLemmas.{acts_as_its_own}
use Rattle.plant_core.proofs.LiveLemmas.GoLemmas.{performed, acts_on, acts_step, stepped_on}

-- what is received of a modem by a step is not refused by the operator that has the modem
pub may_receive : (plant : PlantFields) (gathering : Gathering) (lives : List BookView) (queues : List (List (ℕ × ElementsFields))) (op : ℕ) (modem : Modem) (heard : Heard) (b : BookView)
    → ∥ IsReachableFromStart (core_of plant lives queues gathering) ∥₁ → IsOfAStep plant op (actions.Arrive modem heard) → slice_get lives op ≡ Some b → IsAllowed (operator_of_book b) (actions.Arrive modem heard)
may_receive plant gathering lives queues op modem heard b reached goal there = record {
  mine = acts_as_its_own plant gathering lives queues op (actions.Arrive modem heard) b reached goal there;
  not_spent = refl;
  fit = refl;
}

-- the operator of a request is one of the core
pub request_within : {X : Type 0} (f : X → BookView) (plant : PlantFields) (gathering : Gathering) (queues : List (List (ℕ × ElementsFields))) (desks : List X) (n op : ℕ) (first : FirstRequest) → n ≡ length desks
    → HasRequest (core_of plant (map f desks) queues gathering) op first → op < n
request_within f plant gathering queues desks n op first long is = omega (arith, long, length-map desks f, slice_get_within (map f desks) op is.book is.book_is)

pub request_here : (core : CoreView) (op : ℕ) (first : FirstRequest) (b : BookView) → HasRequest core op first → slice_get core.books op ≡ Some b → IsFirstRequest b.state.inbox first
request_here core op first b is there = subst (λ (x : BookView). IsFirstRequest x.state.inbox first) (same_Some is.book b (sym is.book_is ∙ there)) is.first_is

-- the first request of the operator's book is the one that the core has there
pub request_iff : (r : Option FirstRequest) (core : CoreView) (op : ℕ) (b : BookView) → slice_get core.books op ≡ Some b
    → ((first : FirstRequest) → (r ≡ Some first) ↔ IsFirstRequest b.state.inbox first) → (first : FirstRequest) → (r ≡ Some first) ↔ HasRequest core op first
request_iff r core op b there iff first = (
  λ e. record { book = b; book_is = there; first_is = (iff first).0 e },
  λ is. (iff first).1 (request_here core op first b is there),
)

pub may_work : (b : BookView) → IsAllowed (operator_of_book b) actions.Work
may_work b = record { mine = refl; not_spent = refl; fit = refl }

module _ (plant : PlantFields) (gathering : Gathering) (lives lives' : List BookView) (queues queues' : List (List (ℕ × ElementsFields))) (op : ℕ) (action : Action) (b : BookView) (waiting : List (ℕ × ElementsFields))
    (there : slice_get lives op ≡ Some b) (waits : slice_get queues op ≡ Some waiting) (bare : map forgotten lives ≡ lives) (held : IsGathering gathering) (allowed : IsAllowed (operator_of_book b) action)
    (none : frames_of (own_step (operator_of_book b) action).outputs ≡ []) where
  abbrev old : CoreView
  old = core_of plant lives queues gathering

  abbrev new : CoreView
  new = core_of plant lives' queues' gathering

  abbrev told : List Out
  told = outputs_under op (own_step (operator_of_book b) action).outputs

  -- the book at its place has done it, and the frames wait as before
  abbrev HasBook : Type 0
  HasBook = lives' ≡ slice_set lives op (went b action)

  abbrev HasQueue : Type 0
  HasQueue = queues' ≡ slice_set queues op waiting

  acted : HasBook → HasQueue → Performs (Acts op action) old new told
  acted books qs =
      performed (Acts op action) plant gathering lives queues new told bare held
      (acts_on plant gathering lives lives' queues queues' op action b waiting told there waits allowed books
      (qs ∙ ap (λ (fs : List (ℕ × ElementsFields)). slice_set queues op fs)
      (sym (append-nil waiting) ∙ ap (λ (fs : List (ℕ × ElementsFields)). waiting ++ fs) (sym none)))
      refl)

  -- whether or not the desk found memory
  pub acted_on : {A E : Type 0} (result : Result A E) (outs outs' : List Out) → OnOk result HasBook → OnOk result HasQueue → OnOk result (outs' ≡ outs ++ told)
      → OnOk result ((now : List Out) × (outs' ≡ outs ++ now) × Performs (Acts op action) old new now)
  acted_on (Ok x) outs outs' books qs is = (told, is, acted books qs)
  acted_on (Err e) outs outs' books qs is = tt

  pub acted_reaches : {A E : Type 0} (result : Result A E) → IsPlant plant → IsOfAStep plant op action → OnOk result HasBook → OnOk result HasQueue
      → OnErr result (lives' ≡ lives) → OnErr result (queues' ≡ queues) → ∥ IsReachableFromStart old ∥₁ → ∥ IsReachableFromStart new ∥₁
  acted_reaches (Ok x) valid goal books qs same_books same_queues reached =
      stepped_on goal.0 old new told valid refl (acts_step goal.0 op action old new told goal.1 (acted books qs)) reached
  acted_reaches (Err e) valid goal books qs same_books same_queues reached =
      subst (λ (core : CoreView). ∥ IsReachableFromStart core ∥₁) (sym (same_view plant gathering lives lives' queues queues' same_books same_queues)) reached
