-- A live core that is resumed of another one's operators (implementation-specific).
use Rattle.std.specs.Prelude.{◌≡◌, ◌≢◌, ℕ, List, [], slice_get, Some}
use Rattle.plant.specs.declared.plant.PlantFields.{PlantFields}
use Rattle.plant.specs.Consts.{KeepsConsts}
use Rattle.plant.specs.Plant.{IsPlant}
use Rattle.operator_model.specs.State.{Operator, opened_before}
use Rattle.operator_model.specs.Replay.{BookView}
use Rattle.run_model.specs.declared.step.Step.{Step}
use Rattle.run_model.specs.declared.step.Out.{Out}
use Rattle.run_model.specs.Starts.{Start}
use Rattle.map_assembly.specs.Gathering.{IsGathering}
use Rattle.run_model.specs.Opened.{gathering_from}
use Rattle.run_model.specs.IsStateAfter.{CoreView}
use Rattle.run_model.specs.Changing.{IsPlantChange}
use Rattle.plant_core.specs.live.After.{IsAfterFrom}
use Rattle.plant_core.specs.live.Resumed.{start_with, MayResume}
use Rattle.plant_core.specs.live.Resting.{Rests}

-- whoever has the name of one of the core's operators has his state, and whoever has none of theirs is opened before this frame
pub record ComeFrom (live : CoreView) (plant : PlantFields) (frame : ℕ) (ops : List Operator) : Type 0 where
  pub go_on : (i j : ℕ) (book : BookView) (op : Operator) → slice_get live.books i ≡ Some book → slice_get ops j ≡ Some op → book.row.name ≡ op.row.name → op.state ≡ book.state
  pub open_anew : (j : ℕ) (op : Operator) → slice_get ops j ≡ Some op → ((i : ℕ) (book : BookView) → slice_get live.books i ≡ Some book → book.row.name ≢ op.row.name)
      → op.state ≡ opened_before frame plant.consts op.row

-- a core at rest whose operators are resumed so under another plant is changed to that plant
abbrev pub ResumedIsChanged : Type 0
ResumedIsChanged = (plant next : PlantFields) (start : Start) (steps : List Step) (outs : List Out) (live : CoreView) (frame : ℕ) (ops : List Operator)
    → IsAfterFrom plant start steps outs live → Rests live frame → IsPlant next → KeepsConsts plant.consts next.consts → MayResume next frame ops → IsGathering (gathering_from next (start_with next frame ops)) → ComeFrom live next frame ops
    → IsPlantChange (record { plant = plant; start = start; steps = steps; outs = outs }) (record { plant = next; start = start_with next frame ops; steps = []; outs = [] })
