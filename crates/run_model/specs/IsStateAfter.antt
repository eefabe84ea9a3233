-- What a core is after a run (implementation-specific).
use Rattle.std.specs.Prelude.{◌≡◌, ℕ, ◌+◌, ◌≤◌, List, [], ◌∷◌, ◌++◌, map, length, take, drop, filter_map, slice_get, Option, Some, None}
use Rattle.slice_scheduler.specs.declared.elements.ElementsFields.{ElementsFields}
use Rattle.plant.specs.declared.operator_row.RowFields.{RowFields}
use Rattle.plant.specs.declared.plant.PlantFields.{PlantFields}
use Rattle.operator_model.specs.declared.output.Output.{Output}
use Rattle.operator_model.specs.declared.output.Output.TheVariants.{Reply, Silent, Frame}
use Rattle.operator_model.specs.Replay.{BookView, IsReplayFrom, actions_of}
use Rattle.map_assembly.specs.Part.{quota_of}
use Rattle.map_assembly.specs.Gathering.{Gathering}
use Rattle.run_model.specs.declared.step.Step.{Step}
use Rattle.run_model.specs.declared.step.Out.{Out}
use Rattle.run_model.specs.OwnSteps.{own_steps, maps_in, collects_of, reslicings_of}
use Rattle.run_model.specs.Starts.{Start, first_start, StandAtOneFrame}
use Rattle.run_model.specs.IsTraceOf.{isolated_run_from, IsTraceFrom}
use Rattle.run_model.specs.Ordered.{OrderedFrom}
use Rattle.run_model.specs.Places.{AtEachOperator, AtEachPlace}

-- what contracts see of a core: the plant, each operator's book, the frames of each that wait to be collected, and what is
-- gathered
pub record CoreView : Type 0 where
  pub plant : PlantFields
  pub books : List BookView
  pub queues : List (List (ℕ × ElementsFields))
  pub gathering : Gathering

-- the frame of an output with its number, if the output is one
abbrev pub frame_with_number : Output → Option (ℕ × ElementsFields)
frame_with_number (Reply modem bytes) = None
frame_with_number (Silent modem cause) = None
frame_with_number (Frame number elements) = Some (number, elements)

-- the frames of these outputs, each with its number
abbrev pub frames_of : List Output → List (ℕ × ElementsFields)
frames_of outputs = filter_map frame_with_number outputs

-- frames are numbered one after the other, from n on
abbrev pub AreNumbered : ℕ → List (ℕ × ElementsFields) → Type 0
AreNumbered n [] = Unit {0}
AreNumbered n (frame ∷ frames) = (frame.0 ≡ n) × AreNumbered (n + 1) frames

-- an operator's book after the steps: the state and the entries are those of its own machine run alone
pub record IsBookFrom (plant : PlantFields) (start : Start) (steps : List Step) (i : ℕ) (row : RowFields) (book : BookView) : Type 0 where
  pub row_is : book.row ≡ row
  pub consts_are : book.consts ≡ plant.consts
  pub state_is : book.state ≡ (isolated_run_from plant.consts start row i steps).state
  pub actions_are : actions_of book.history ≡ own_steps row i steps
  pub replay : IsReplayFrom plant.consts row (start.state row) book.history book.state

-- an operator's frames after the steps: those collected and in no MAP are gathered, those not collected wait
pub record AreFramesFrom (plant : PlantFields) (start : Start) (steps : List Step) (made : ℕ) (i : ℕ) (row : RowFields) (waiting : List (ℕ × ElementsFields)) (put : List ElementsFields) : Type 0 where
  pub waiting_are : waiting ≡ drop (collects_of i steps) (frames_of (isolated_run_from plant.consts start row i steps).outputs)
  pub put_are : put ≡ map (λ frame. frame.1) (drop made (take (collects_of i steps) (frames_of (isolated_run_from plant.consts start row i steps).outputs)))

-- what is gathered after the run: it is gathered for the plant, the slices of its start and its slice changes, the next MAP is the one
-- after those that were made, and no more frames of an operator were collected than it output
pub record IsGatheredFrom (plant : PlantFields) (start : Start) (steps : List Step) (outs : List Out) (gathering : Gathering) : Type 0 where
  pub channel_is : gathering.channel ≡ plant.consts.channel
  pub quotas_are : gathering.quotas ≡ map quota_of plant.rows
  pub slices_are : gathering.slices ≡ map (λ row. (start.state row).share.slice) plant.rows
  pub reslicings_are : gathering.reslicings ≡ start.waiting ++ reslicings_of steps
  pub one_each : length gathering.queues ≡ length plant.rows
  pub next_is : gathering.next ≡ start.frame + length (maps_in outs)
  pub collected : AtEachOperator plant (λ i row. collects_of i steps ≤ length (frames_of (isolated_run_from plant.consts start row i steps).outputs))

-- what a core is after a run from a start: the run is `IsTraceFrom` and `OrderedFrom` the start, each operator's book is that of its own
-- machine run alone, its frames that were not collected wait, and the others are in MAPs or gathered
pub record IsStateAfterFrom (plant : PlantFields) (start : Start) (steps : List Step) (outs : List Out) (core : CoreView) : Type 0 where
  pub at_one_frame : StandAtOneFrame plant start
  pub plant_is : core.plant ≡ plant
  pub shown : IsTraceFrom plant start steps outs
  pub ordered : OrderedFrom plant start steps outs
  pub one_book : length core.books ≡ length plant.rows
  pub one_queue : length core.queues ≡ length plant.rows
  pub books : AtEachPlace plant.rows core.books (IsBookFrom plant start steps)
  pub frames : (i : ℕ) (row : RowFields) (waiting : List (ℕ × ElementsFields)) (put : List ElementsFields) → slice_get plant.rows i ≡ Some row
      → slice_get core.queues i ≡ Some waiting → slice_get core.gathering.queues i ≡ Some put → AreFramesFrom plant start steps (length (maps_in outs)) i row waiting put
  pub gathered : IsGatheredFrom plant start steps outs core.gathering

-- ---- a run from the opened plant

-- an operator's book after the steps of a run from the opened plant
abbrev pub IsBookAfter : PlantFields → List Step → ℕ → RowFields → BookView → Type 0
IsBookAfter plant steps i row book = IsBookFrom plant (first_start plant) steps i row book

-- what a core is after a run from the opened plant: the run is `IsTraceOf` and `Ordered`, and each operator's book, its waiting frames and
-- those in the assembly are those of its own machine run alone
abbrev pub IsStateAfter : PlantFields → List Step → List Out → CoreView → Type 0
IsStateAfter plant steps outs core = IsStateAfterFrom plant (first_start plant) steps outs core
