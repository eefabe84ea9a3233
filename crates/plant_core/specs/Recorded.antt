-- A core next to the record of its run (implementation-specific).
use Rattle.std.specs.Prelude.{◌≡◌, ℕ, ◌-◌, ◌≤◌, List, [], ◌∷◌, ◌++◌, length, map, drop, All}
use Rattle.operator_model.specs.declared.action.SliceRow.{SliceRow}
use Rattle.operator_model.specs.declared.action.Action.TheVariants as actions
use Rattle.operator_model.specs.declared.action.Entry.{Entry}
use Rattle.operator_model.specs.Replay.{BookView}
use Rattle.map_assembly.specs.declared.slicing.Reslicing.{Reslicing}
use Rattle.map_assembly.specs.Plan.{AreSlices}
use Rattle.map_assembly.specs.Gathering.{Gathering, frame_slices}
use Rattle.run_model.specs.OwnSteps.{slice_of}
use Rattle.run_model.specs.IsStateAfter.{CoreView}
use Rattle.plant_core.specs.live.Performing.{forgotten}
use Rattle.plant_core.specs.declared.slice_change.SliceChange.{SliceChange}

-- a book with this history
abbrev pub with_history : BookView → List Entry → BookView
with_history book history = record { row = book.row; consts = book.consts; state = book.state; history = history }

-- the books with these histories, place by place
abbrev pub with_histories : List BookView → List (List Entry) → List BookView
with_histories (book ∷ books) (history ∷ histories) = with_history book history ∷ with_histories books histories
with_histories books histories = []

-- the slices of a slice change
abbrev pub reslicing_of : SliceChange → Reslicing
reslicing_of change = record { from = change.from; slicing = map slice_of change.rows }

-- what is gathered, with the plant's slices and with all that were given in place of those that frames to come have
abbrev pub recorded_gathering : CoreView → List SliceChange → Gathering
recorded_gathering live changes = record live.gathering { slices = map (λ row. row.slice) live.plant.rows; reslicings = map reslicing_of changes }

-- a core without histories, with these histories and slice changes
abbrev pub recorded_view : CoreView → List (List Entry) → List SliceChange → CoreView
recorded_view live histories changes = record {
  plant = live.plant;
  books = with_histories live.books histories;
  queues = live.queues;
  gathering = recorded_gathering live changes;
}

-- the record belongs to the live core: there is a history for each operator, the live core has the books without them and the last of the
-- slice changes, each frame to come has the same slices in both, and all slices are valid; the type `RecordedCore` keeps it
pub record IsRecordOf (live : CoreView) (histories : List (List Entry)) (changes : List SliceChange) : Type 0 where
  pub one_each : length histories ≡ length live.books
  pub books_are : map forgotten (with_histories live.books histories) ≡ live.books
  pub left : drop (length changes - length live.gathering.reslicings) (map reslicing_of changes) ≡ live.gathering.reslicings
  pub slices_are : (frame : ℕ) → live.gathering.next ≤ frame → frame_slices live.gathering frame ≡ frame_slices (recorded_gathering live changes) frame
  pub first_are : AreSlices live.gathering.channel (length live.gathering.quotas) (map (λ row. row.slice) live.plant.rows)
  pub later_are : All (λ reslicing. AreSlices live.gathering.channel (length live.gathering.quotas) reslicing.slicing) (map reslicing_of changes)

-- the histories after a slice change: each with one more entry, of its own row, which outputs nothing
abbrev pub histories_after_reslice : ℕ → List SliceRow → List (List Entry) → List (List Entry)
histories_after_reslice from (row ∷ rows) (history ∷ histories) =
    (history ++ record { action = actions.Reslice from row; outputs = [] } ∷ []) ∷ histories_after_reslice from rows histories
histories_after_reslice from rows histories = histories
