-- What a run of a plant shows: to each operator its own machine run alone, and MAPs of these machines' frames (implementation-specific).
use Rattle.std.specs.Prelude.{◌≡◌, ℕ, ◌<◌, ◌≤◌, List, map, length, All, Option, Some, None, if◌then◌else◌, filter_map, ◌∷◌, [], ◌==◌}
use Rattle.std.specs.List.{range_with_len}
use Rattle.slice_scheduler.specs.declared.elements.ElementsFields.{ElementsFields}
use Rattle.plant.specs.declared.consts.ConstsFields.{ConstsFields}
use Rattle.plant.specs.declared.operator_row.RowFields.{RowFields}
use Rattle.plant.specs.declared.plant.PlantFields.{PlantFields}
use Rattle.operator_model.specs.declared.output.Output.{Output}
use Rattle.operator_model.specs.declared.output.Output.TheVariants.{Reply, Silent, Frame}
use Rattle.operator_model.specs.State.{opened_state, operator}
use Rattle.operator_model.specs.Handle.{StepResult}
use Rattle.operator_model.specs.Machine.{own_run}
use Rattle.map_assembly.specs.declared.map_bytes.MapBytes.{MapBytes}
use Rattle.map_assembly.specs.Part.{quota_of}
use Rattle.map_assembly.specs.Assembled.{IsMapOf}
use Rattle.run_model.specs.declared.step.Step.{Step}
use Rattle.run_model.specs.declared.step.Out.{Out}
use Rattle.run_model.specs.declared.step.Out.TheVariants as out
use Rattle.run_model.specs.OwnSteps.{own_steps, answers_of, maps_in, collects_of}
use Rattle.run_model.specs.Starts.{Start, first_start}
use Rattle.run_model.specs.Places.{AtEachOperator, AtEachPlace}

-- the operator's own machine, run alone on its own steps from where it starts
abbrev pub isolated_run_from : ConstsFields → Start → RowFields → ℕ → List Step → StepResult
isolated_run_from consts start row i steps = own_run (operator consts row (start.state row)) (own_steps row i steps)

-- the same from the opened state
abbrev pub isolated_run : ConstsFields → RowFields → ℕ → List Step → StepResult
isolated_run consts row i steps = own_run (operator consts row (opened_state consts row)) (own_steps row i steps)

-- ---- frames

-- the elements of the frame of this number
abbrev pub frame_if : ℕ → Output → Option ElementsFields
frame_if frame (Reply modem bytes) = None
frame_if frame (Silent modem cause) = None
frame_if frame (Frame number elements) = if number == frame then Some elements else None

-- the elements of the frames of this number among these outputs
abbrev pub elements_at_frame : ℕ → List Output → List ElementsFields
elements_at_frame frame outputs = filter_map (frame_if frame) outputs

-- these are the operators' parts of a frame, in the plant's order: each the frame of that operator's machine run alone
pub record ArePartsFrom (plant : PlantFields) (start : Start) (steps : List Step) (frame : ℕ) (parts : List ElementsFields) : Type 0 where
  pub one_each : length parts ≡ length plant.rows
  pub own : AtEachPlace plant.rows parts (λ i row part. elements_at_frame frame (isolated_run_from plant.consts start row i steps).outputs ≡ part ∷ [])

-- ---- MAPs

-- a MAP of the run: it is the MAP of its frame with the parts of all operators, so it gives no minislot twice, and each
-- operator's part of it is that operator's frame
pub record IsMapFrom (plant : PlantFields) (start : Start) (steps : List Step) (made : MapBytes) : Type 0 where
  pub parts : List ElementsFields
  pub parts_are : ArePartsFrom plant start steps made.frame parts
  pub map_is : IsMapOf plant.consts.channel made.frame (map quota_of plant.rows) (map (λ part. part.slice) parts) parts made.bytes

-- the least number of frames that were collected of any operator
pub record IsLeast (plant : PlantFields) (steps : List Step) (count : ℕ) : Type 0 where
  pub at_most : (i : ℕ) → i < length plant.rows → count ≤ collects_of i steps
  pub one : (i : ℕ) × (i < length plant.rows) × (collects_of i steps ≡ count)

-- the MAPs are those of the frames from that of the start on, each once and in order, as many as the least number of frames that were
-- collected of any operator
pub record AreMapsFrom (plant : PlantFields) (start : Start) (steps : List Step) (made : List MapBytes) : Type 0 where
  pub frames : map (λ m. m.frame) made ≡ range_with_len start.frame (length made)
  pub count : IsLeast plant steps (length made)
  pub each : All (IsMapFrom plant start steps) made

-- an output is under one of so many operators, or is a MAP
abbrev pub IsUnder : ℕ → Out → Type 0
IsUnder count (out.Of op output) = op < count
IsUnder count (out.Map made) = Unit {0}

-- to each operator its answers are those of its own machine run alone from where it starts, and the MAPs are of these machines'
-- frames; nothing is under anybody else
pub record IsTraceFrom (plant : PlantFields) (start : Start) (steps : List Step) (outs : List Out) : Type 0 where
  pub answers : AtEachOperator plant (λ i row. answers_of i outs ≡ (isolated_run_from plant.consts start row i steps).outputs)
  pub maps : AreMapsFrom plant start steps (maps_in outs)
  pub under_plant : All (IsUnder (length plant.rows)) outs

-- ---- a run from the opened plant

-- these are the operators' parts of a frame of a run from the opened plant
abbrev pub ArePartsAt : PlantFields → List Step → ℕ → List ElementsFields → Type 0
ArePartsAt plant steps frame parts = ArePartsFrom plant (first_start plant) steps frame parts

-- a MAP of a run from the opened plant
abbrev pub IsMapIn : PlantFields → List Step → MapBytes → Type 0
IsMapIn plant steps made = IsMapFrom plant (first_start plant) steps made

-- the MAPs of a run from the opened plant
abbrev pub AreMaps : PlantFields → List Step → List MapBytes → Type 0
AreMaps plant steps made = AreMapsFrom plant (first_start plant) steps made

-- the outputs are those of a run from the opened plant: each operator's are those of its own machine run alone on its own steps, the MAPs
-- are those of the frames from the first on, and each output is a MAP or is under one of the operators
abbrev pub IsTraceOf : PlantFields → List Step → List Out → Type 0
IsTraceOf plant steps outs = IsTraceFrom plant (first_start plant) steps outs
