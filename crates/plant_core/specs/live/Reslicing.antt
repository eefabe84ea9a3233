-- Why new slices are refused: fault by fault over all operators, and of one fault the least operator or pair (implementation-specific).
use Rattle.std.specs.Prelude.{ℕ, ◌+◌, ◌==◌, Bool, true, false, List, [], ◌∷◌, length, option_map, Option, Some, None, if◌then◌else◌}
use Rattle.std.specs.Option.{option_or}
use Rattle.std.specs.List.{position_from}
use Rattle.slice_scheduler.specs.Minislots.{slices_overlap}
use Rattle.operator_model.specs.declared.action.SliceRow.{SliceRow}
use Rattle.operator_model.specs.declared.action.Unfit.{Unfit}
use Rattle.operator_model.specs.declared.action.Unfit.TheVariants as unfits
use Rattle.operator_model.specs.Machine.{unfit_from}
use Rattle.operator_model.specs.Replay.{BookView, operator_of_book}
use Rattle.run_model.specs.OwnSteps.{slice_of}
use Rattle.plant_core.specs.declared.live.core_fault.Unfits.{Unfits}
use Rattle.plant_core.specs.declared.live.core_fault.ResliceFault.{ResliceFault}
use Rattle.plant_core.specs.declared.live.core_fault.ResliceFault.TheVariants as faults

-- a book refuses its row for this reason
abbrev pub is_unfit : Unfit → Option Unfit → Bool
is_unfit unfits.NotPast (Some unfits.NotPast) = true
is_unfit unfits.Unfinished (Some unfits.Unfinished) = true
is_unfit unfits.OffFrame (Some unfits.OffFrame) = true
is_unfit unfits.BudgetOverSlice (Some unfits.BudgetOverSlice) = true
is_unfit unfits.OverBudget (Some unfits.OverBudget) = true
is_unfit unfit found = false

-- the least operator, counted from n on, whose book refuses its row so
abbrev pub least_unfit : Unfit → ℕ → ℕ → List BookView → List SliceRow → Option ℕ
least_unfit unfit from n (book ∷ books) (row ∷ rows) =
    if is_unfit unfit (unfit_from (operator_of_book book) from row) then Some n else least_unfit unfit from (n + 1) books rows
least_unfit unfit from n books rows = None

-- the slices of two rows have a minislot in common
abbrev pub do_meet : SliceRow → SliceRow → Bool
do_meet a b = slices_overlap (slice_of a) (slice_of b)

-- the least pair of operators, counted from n on, whose slices have a minislot in common
abbrev pub least_meeting : ℕ → List SliceRow → Option (ℕ × ℕ)
least_meeting n [] = None
least_meeting n (row ∷ rows) = option_or (option_map (λ k. (n, k)) (position_from (do_meet row) (n + 1) rows)) (least_meeting (n + 1) rows)

-- for each reason, the least operator whose book refuses its row so
abbrev pub least_unfits : ℕ → List BookView → List SliceRow → Unfits
least_unfits from books rows = record {
  not_past = least_unfit unfits.NotPast from 0 books rows;
  unfinished = least_unfit unfits.Unfinished from 0 books rows;
  off_frame = least_unfit unfits.OffFrame from 0 books rows;
  budget_over_slice = least_unfit unfits.BudgetOverSlice from 0 books rows;
  over_budget = least_unfit unfits.OverBudget from 0 books rows;
}

-- the first of these faults, in the order in which they are reported, each with its least operator or pair: overlapping slices come between
-- those off the frame and a budget over its slice
abbrev pub first_fault : Unfits → Option (ℕ × ℕ) → Option ResliceFault
first_fault least meeting =
    option_or (option_map (λ op. faults.NotPast op) least.not_past)
    (option_or (option_map (λ op. faults.Unfinished op) least.unfinished)
    (option_or (option_map (λ op. faults.OffFrame op) least.off_frame)
    (option_or (option_map (λ pair. faults.SlicesMeet pair.0 pair.1) meeting)
    (option_or (option_map (λ op. faults.BudgetOverSlice op) least.budget_over_slice)
    (option_map (λ op. faults.Unfit op) least.over_budget)))))

-- the first fault, where there is one row for each operator
abbrev pub row_fault : ℕ → List BookView → List SliceRow → Option ResliceFault
row_fault from books rows = first_fault (least_unfits from books rows) (least_meeting 0 rows)

-- why a slice change is refused: the number of its rows, else the first fault
abbrev pub reslice_fault : ℕ → List BookView → List SliceRow → Option ResliceFault
reslice_fault from books rows = if length rows == length books then row_fault from books rows else Some faults.Count
