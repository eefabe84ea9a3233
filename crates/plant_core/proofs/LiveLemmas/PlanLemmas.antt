-- A plan of an action, and what the core becomes when it is committed.
use Rattle.std.proofs.Common.{◌≡◌, ℕ, ◌<◌, List, [], ◌++◌, length, map, Result, Ok, Err, IfOk, OnOk, OnErr, Option, Some, None, refl, sym, ap, subst, ◌∙◌, ◌≤◌, arith}
use Rattle.plant_core.proofs.LiveLemmas.Common.{slice_get, slice_set, option_to_list, length-map, same_Some, slice_get_within, ElementsFields, PlantFields, IsPlant, Action, Output, OperatorState, own_step, IsAllowed, BookView, operator_of_book, Gathering, IsGathering, Out, outputs_under, CoreView, frames_of, Acts, core_of, IsOfAStep, book_of, forgotten, went, Performs, IsReachableFromStart}
use Rattle.operator_book.specs.Planned.{IsPlanOf, IsCommittable, after_effect}
use Rattle.plant_core.specs.declared.live.act_plan.ActPlan.{ActPlan}
use Rattle.plant_core.specs.live.Planning.{IsActPlan, IsSomeActPlan}
use Rattle.plant_core.proofs.LiveLemmas.FrameLemmas.{one_frame, first_none, first_alone}
use Rattle.plant_core.proofs.LiveLemmas.StepLemmas.{same_view}
use Rattle.plant_core.proofs.LiveLemmas.GoLemmas.{performed, acts_on, acts_step, stepped_on}

-- ---- planning

-- what a desk plans is the plan of the core
pub planned_if : {E : Type 0} (result : Result ActPlan E) (core : CoreView) (op : ℕ) (action : Action) (b : BookView) → IsOfAStep core.plant op action → slice_get core.books op ≡ Some b
    → IfOk result (λ act. act.op ≡ op) → OnOk result (IsAllowed (operator_of_book b) action) → IfOk result (λ act. IsPlanOf (operator_of_book b) action act.plan)
    → IfOk result (λ act. IsCommittable (operator_of_book b) act.plan) → IfOk result (IsActPlan core op action)
planned_if (Ok act) core op action b goal there same allowed plan may = record {
  of_step = goal;
  op_is = same;
  book = b;
  book_is = there;
  allowed = allowed;
  plan_is = plan;
  committable = may;
}
planned_if (Err e) core op action b goal there same allowed plan may = tt

-- the frame that a plan puts out
abbrev frame_of : ActPlan → Option (ℕ × ElementsFields)
frame_of act = slice_get (frames_of act.plan.outputs.items) 0

-- ---- what a plan says of the book at its place

first_only : {X : Type 0} (first : Option X) (xs : List X) → first ≡ slice_get xs 0 → length xs ≤ 1 → option_to_list first ≡ xs
first_only None xs is few = sym (first_none xs (sym is))
first_only (Some x) xs is few = sym (first_alone xs x (sym is) few)

record Promises (action : Action) (act : ActPlan) (b : BookView) : Type 0 where
  allowed : IsAllowed (operator_of_book b) action
  book_is : book_of (after_effect (operator_of_book b) act.plan.effect) ≡ went b action
  frames_are : option_to_list (frame_of act) ≡ frames_of (own_step (operator_of_book b) action).outputs
  outputs_are : act.plan.outputs.items ≡ (own_step (operator_of_book b) action).outputs

promises : (core : CoreView) (op : ℕ) (action : Action) (act : ActPlan) (b : BookView) → IsActPlan core op action act → slice_get core.books op ≡ Some b → Promises action act b
promises core op action act b is there =
    subst (λ (x : BookView). Promises action act x) (same_Some is.book b (sym is.book_is ∙ there))
    (record {
      allowed = is.allowed;
      book_is = ap (λ (s : OperatorState). let x : BookView = record { row = is.book.row; consts = is.book.consts; state = s; history = [] } in x) is.plan_is.state;
      frames_are = first_only (frame_of act) _ (ap (λ (os : List Output). slice_get (frames_of os) 0) is.plan_is.outputs) (one_frame is.book.consts is.book.row is.book.state action);
      outputs_are = is.plan_is.outputs;
    })

-- the plan names its operator
here : (core : CoreView) (op : ℕ) (action : Action) (act : ActPlan) → IsActPlan core op action act → IsActPlan core act.op action act
here core op action act is = subst (λ (i : ℕ). IsActPlan core i action act) (sym is.op_is) is

pub planned_within : {X : Type 0} (f : X → BookView) (plant : PlantFields) (gathering : Gathering) (queues : List (List (ℕ × ElementsFields))) (desks : List X) (n : ℕ) (act : ActPlan) → n ≡ length desks
    → IsSomeActPlan (core_of plant (map f desks) queues gathering) act → act.op < n
planned_within f plant gathering queues desks n act long some =
    let is = here (core_of plant (map f desks) queues gathering) some.0 some.1 act some.2 in
    omega (arith, long, length-map desks f, slice_get_within (map f desks) act.op is.book is.book_is)

pub planned_may : (core : CoreView) (act : ActPlan) (b : BookView) → IsSomeActPlan core act → slice_get core.books act.op ≡ Some b → IsCommittable (operator_of_book b) act.plan
planned_may core act b some there =
    let is = here core some.0 some.1 act some.2 in
    subst (λ (x : BookView). IsCommittable (operator_of_book x) act.plan) (same_Some is.book b (sym is.book_is ∙ there)) is.committable

-- ---- committing

module _ (plant : PlantFields) (gathering : Gathering) (lives lives' : List BookView) (queues queues' : List (List (ℕ × ElementsFields))) (act : ActPlan) (b : BookView) (waiting : List (ℕ × ElementsFields))
    (there : slice_get lives act.op ≡ Some b) (waits : slice_get queues act.op ≡ Some waiting) (bare : map forgotten lives ≡ lives) (held : IsGathering gathering) where
  abbrev old : CoreView
  old = core_of plant lives queues gathering

  abbrev new : CoreView
  new = core_of plant lives' queues' gathering

  -- the book at its place is as the plan has it, and its frame waits behind the others
  abbrev HasBook : Type 0
  HasBook = lives' ≡ slice_set lives act.op (book_of (after_effect (operator_of_book b) act.plan.effect))

  abbrev HasQueue : Type 0
  HasQueue = queues' ≡ slice_set queues act.op (waiting ++ option_to_list (frame_of act))

  committed : (action : Action) → IsActPlan old act.op action act → HasBook → HasQueue → Performs (Acts act.op action) old new (outputs_under act.op act.plan.outputs.items)
  committed action is books qs =
      let all = promises old act.op action act b is there in
      performed (Acts act.op action) plant gathering lives queues new (outputs_under act.op act.plan.outputs.items) bare held
      (acts_on plant gathering lives lives' queues queues' act.op action b waiting (outputs_under act.op act.plan.outputs.items) there waits all.allowed
      (books ∙ ap (λ (x : BookView). slice_set lives act.op x) all.book_is)
      (qs ∙ ap (λ (fs : List (ℕ × ElementsFields)). slice_set queues act.op (waiting ++ fs)) all.frames_are)
      (ap (λ (os : List Output). outputs_under act.op os) all.outputs_are))

  -- whether or not the desk found memory
  pub committed_on : {A E : Type 0} (result : Result A E) (outs outs' : List Out) → OnOk result HasBook → OnOk result HasQueue → OnOk result (outs' ≡ outs ++ outputs_under act.op act.plan.outputs.items)
      → OnOk result ((op : ℕ) (action : Action) → IsActPlan old op action act → (now : List Out) × (outs' ≡ outs ++ now) × Performs (Acts op action) old new now)
  committed_on (Ok x) outs outs' books qs told = λ op action is. (
    outputs_under act.op act.plan.outputs.items,
    told,
    subst (λ (i : ℕ). Performs (Acts i action) old new (outputs_under act.op act.plan.outputs.items)) is.op_is (committed action (here old op action act is) books qs),
  )
  committed_on (Err e) outs outs' books qs told = tt

  pub committed_reaches : {A E : Type 0} (result : Result A E) → IsPlant plant → IsSomeActPlan old act → OnOk result HasBook → OnOk result HasQueue → OnErr result (lives' ≡ lives) → OnErr result (queues' ≡ queues)
      → ∥ IsReachableFromStart old ∥₁ → ∥ IsReachableFromStart new ∥₁
  committed_reaches (Ok x) valid some books qs same_books same_queues reached =
      let is = here old some.0 some.1 act some.2 in
      stepped_on is.of_step.0 old new (outputs_under act.op act.plan.outputs.items) valid refl
      (acts_step is.of_step.0 act.op some.1 old new (outputs_under act.op act.plan.outputs.items) is.of_step.1 (committed some.1 is books qs))
      reached
  committed_reaches (Err e) valid some books qs same_books same_queues reached =
      subst (λ (core : CoreView). ∥ IsReachableFromStart core ∥₁) (sym (same_view plant gathering lives lives' queues queues' same_books same_queues)) reached
