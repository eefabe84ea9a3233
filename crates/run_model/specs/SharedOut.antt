-- What the bytes of a MAP of a run say of each minislot and to each operator (implementation-specific).
use Rattle.std.specs.Prelude.{◌≡◌, ℕ, ◌<◌, List, [], ◌∷◌, count_by}
use Rattle.slice_scheduler.specs.declared.elements.ElementsFields.{ElementsFields}
use Rattle.plant.specs.declared.operator_row.RowFields.{RowFields}
use Rattle.plant.specs.declared.plant.PlantFields.{PlantFields}
use Rattle.map_assembly.specs.declared.map_bytes.MapBytes.{MapBytes}
use Rattle.map_assembly.specs.declared.view.MapView.{MapView}
use Rattle.map_assembly.specs.Tiled.{holds, part_of, own_part}
use Rattle.run_model.specs.declared.step.Step.{Step}
use Rattle.run_model.specs.Starts.{Start, first_start}
use Rattle.run_model.specs.IsTraceOf.{isolated_run_from, elements_at_frame}
use Rattle.run_model.specs.Places.{AtEachOperator}

-- an operator's part of a MAP is the frame of that number of its own machine run alone
pub record IsOwnPartFrom (plant : PlantFields) (start : Start) (steps : List Step) (i : ℕ) (row : RowFields) (made : MapBytes) (view : MapView) : Type 0 where
  pub part : ElementsFields
  pub put : elements_at_frame made.frame (isolated_run_from plant.consts start row i steps).outputs ≡ part ∷ []
  pub part_is : part_of row.sids view ≡ own_part part

-- each minislot of the frame is given once, and each operator's part is its own
pub record IsSharedOutFrom (plant : PlantFields) (start : Start) (steps : List Step) (made : MapBytes) (view : MapView) : Type 0 where
  pub once : (m : ℕ) → m < plant.consts.channel.frame_minislots → count_by (holds m) view.spans ≡ 1
  pub own : AtEachOperator plant (λ i row. IsOwnPartFrom plant start steps i row made view)

-- ---- a run from the opened plant

-- the same of a MAP of a run from the opened plant
abbrev pub IsSharedOut : PlantFields → List Step → MapBytes → MapView → Type 0
IsSharedOut plant steps made view = IsSharedOutFrom plant (first_start plant) steps made view
