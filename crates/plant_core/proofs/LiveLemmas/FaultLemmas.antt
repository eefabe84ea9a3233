-- A core refuses the same steps without its histories.
use Rattle.std.proofs.Common.{◌≡◌, ℕ, ◌+◌, ◌==◌, List, [], ◌∷◌, length, map, Option, Some, None, if◌then◌else◌, option_map, refl, sym, ap, ap₂, ◌∙◌}
use Rattle.plant_core.proofs.LiveLemmas.Common.{slice_get, length-map, slice_get-map, PlantFields, holder, SliceRow, Action, Unfit, unfit_from, BookView, operator_of_book, ElementsFields, Step, CoreView, act_fault, arrive_fault, collect_fault, step_fault, is_unfit, least_unfit, least_meeting, first_fault, row_fault, reslice_fault, forgotten, IsOf}
use Rattle.operator_model.specs.declared.action.Action.TheVariants as actions
use Rattle.operator_model.specs.declared.action.Unfit.TheVariants as unfits
use Rattle.run_model.specs.declared.step.Step.TheVariants as steps
use Rattle.plant_core.specs.declared.live.core_fault.CoreFault.TheVariants.{Reslice}
use Rattle.plant_core.specs.declared.live.core_fault.ResliceFault.{ResliceFault}
use Rattle.plant_core.specs.declared.live.core_fault.ResliceFault.TheVariants as found

-- ---- other slices

same_unfit : (unfit : Unfit) (from n : ℕ) (books : List BookView) (rows : List SliceRow) → least_unfit unfit from n (map forgotten books) rows ≡ least_unfit unfit from n books rows
same_unfit unfit from n [] rows = refl
same_unfit unfit from n (book ∷ books) [] = refl
same_unfit unfit from n (book ∷ books) (row ∷ rows) =
    ap (λ (o : Option ℕ). if is_unfit unfit (unfit_from (operator_of_book book) from row) then Some n else o) (same_unfit unfit from (n + 1) books rows)

same_row_fault : (from : ℕ) (books : List BookView) (rows : List SliceRow) → row_fault from (map forgotten books) rows ≡ row_fault from books rows
same_row_fault from books rows = λ k. first_fault (record {
  not_past = same_unfit unfits.NotPast from 0 books rows k;
  unfinished = same_unfit unfits.Unfinished from 0 books rows k;
  off_frame = same_unfit unfits.OffFrame from 0 books rows k;
  budget_over_slice = same_unfit unfits.BudgetOverSlice from 0 books rows k;
  over_budget = same_unfit unfits.OverBudget from 0 books rows k;
}) (least_meeting 0 rows)

same_reslice_fault : (from : ℕ) (books : List BookView) (rows : List SliceRow) → reslice_fault from (map forgotten books) rows ≡ reslice_fault from books rows
same_reslice_fault from books rows =
    ap₂ (λ (n : ℕ) (fault : Option ResliceFault). if length rows == n then fault else Some found.Count) (length-map books forgotten) (same_row_fault from books rows)

-- ---- an action

same_act_fault : (op : ℕ) (action : Action) (books : List BookView) → act_fault op action (slice_get (map forgotten books) op) ≡ act_fault op action (slice_get books op)
same_act_fault op action books = ap (act_fault op action) (slice_get-map forgotten books op) ∙ at (slice_get books op)
  where
    at : (book : Option BookView) → act_fault op action (option_map forgotten book) ≡ act_fault op action book
    at None = refl
    at (Some book) = refl

same_action : (live core : CoreView) (op : ℕ) (action : Action) → IsOf live core → act_fault op action (slice_get core.books op) ≡ act_fault op action (slice_get live.books op)
same_action live core op action is = sym (same_act_fault op action core.books) ∙ ap (λ (bs : List BookView). act_fault op action (slice_get bs op)) is.books_are

-- ---- a step

pub same_step_fault : (live core : CoreView) (step : Step) → IsOf live core → step_fault core step ≡ step_fault live step
same_step_fault live core (steps.Arrive modem heard) is =
    ap (λ (p : PlantFields). arrive_fault core (steps.Arrive modem heard) (holder p.rows modem)) is.plant_is ∙ at (holder live.plant.rows modem)
  where
    at : (place : Option ℕ) → arrive_fault core (steps.Arrive modem heard) place ≡ arrive_fault live (steps.Arrive modem heard) place
    at None = refl
    at (Some op) = same_action live core op (actions.Arrive modem heard) is
same_step_fault live core (steps.Work op) is = same_action live core op actions.Work is
same_step_fault live core (steps.Tick op) is = same_action live core op actions.Tick is
same_step_fault live core (steps.Collect op) is = ap (λ (qs : List (List (ℕ × ElementsFields))). collect_fault op (slice_get qs op)) is.queues_are
same_step_fault live core (steps.Reslice from rows) is =
    ap (λ (fault : Option ResliceFault). option_map (λ f. Reslice f) fault)
    (sym (same_reslice_fault from core.books rows) ∙ ap (λ (bs : List BookView). reslice_fault from bs rows) is.books_are)
