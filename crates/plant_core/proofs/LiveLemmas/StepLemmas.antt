-- What one step makes of a core.
use Rattle.std.proofs.Common.{◌≡◌, ℕ, List, ◌∷◌, Result, Ok, Err, Option, Some, None, OnErr, refl, sym, ap₂, subst}
use Rattle.plant_core.proofs.LiveLemmas.Common.{slice_get, ElementsFields, PlantFields, Action, BookView, Gathering, CoreView, act_fault, collect_fault, IsReported}
use Rattle.plant_core.specs.declared.live.core_fault.CoreFault.{CoreFault}

abbrev view : PlantFields → Gathering → List BookView → List (List (ℕ × ElementsFields)) → CoreView
view plant gathering books queues = record { plant = plant; books = books; queues = queues; gathering = gathering }

pub same_view : (plant : PlantFields) (gathering : Gathering) (books books' : List BookView) (queues queues' : List (List (ℕ × ElementsFields)))
    → books' ≡ books → queues' ≡ queues → view plant gathering books' queues' ≡ view plant gathering books queues
same_view plant gathering books books' queues queues' b q = ap₂ (view plant gathering) b q

pub same_if : {A E : Type 0} (result : Result A E) (plant : PlantFields) (gathering : Gathering) (books books' : List BookView) (queues queues' : List (List (ℕ × ElementsFields)))
    → OnErr result (books' ≡ books) → OnErr result (queues' ≡ queues) → OnErr result (view plant gathering books' queues' ≡ view plant gathering books queues)
same_if (Ok x) plant gathering books books' queues queues' b q = tt
same_if (Err y) plant gathering books books' queues queues' b q = same_view plant gathering books books' queues queues' b q

pub told_at : {A : Type 0} (result : Result A CoreFault) (op : ℕ) (action : Action) (books : List BookView) (book : BookView) → slice_get books op ≡ Some book
    → IsReported result (act_fault op action (Some book)) → IsReported result (act_fault op action (slice_get books op))
told_at result op action books book there told = subst (λ (o : Option BookView). IsReported result (act_fault op action o)) (sym there) told

-- ---- collecting

pub waits_in_front : (op : ℕ) (waiting rest : List (ℕ × ElementsFields)) (frame : ℕ × ElementsFields) → waiting ≡ frame ∷ rest → collect_fault op (Some waiting) ≡ None
waits_in_front op waiting rest frame front = rw front refl

pub collect_told : {A : Type 0} (result : Result A CoreFault) (op : ℕ) (queues : List (List (ℕ × ElementsFields))) (waiting : List (ℕ × ElementsFields)) → slice_get queues op ≡ Some waiting
    → IsReported result (collect_fault op (Some waiting)) → IsReported result (collect_fault op (slice_get queues op))
collect_told result op queues waiting there told = subst (λ (o : Option (List (ℕ × ElementsFields))). IsReported result (collect_fault op o)) (sym there) told
