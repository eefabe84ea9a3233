-- A live core whose plant is changed (implementation-specific).
use Rattle.std.specs.Prelude.{ℕ, List, []}
use Rattle.plant.specs.declared.plant.PlantFields.{PlantFields}
use Rattle.plant.specs.Consts.{KeepsConsts}
use Rattle.run_model.specs.IsStateAfter.{CoreView}
use Rattle.run_model.specs.Changing.{IsPlantChange}
use Rattle.plant_core.specs.live.After.{BehindEachRun}
use Rattle.plant_core.specs.live.Resting.{Rests, IsRestFault}
use Rattle.plant_restart.specs.declared.fault.RestartFault.{RestartFault}
use Rattle.plant_restart.specs.declared.fault.ChangeFault.{ChangeFault}
use Rattle.plant_restart.specs.declared.fault.ChangeFault.TheVariants.{Unfinished, ConstantsDiffer, Restart}
use Rattle.plant_restart.specs.ByName.{start_by_name}
use Rattle.plant_restart.specs.Saving.{states_by_name}
use Rattle.plant_restart.specs.Restarted.{IsRestarted, IsRestartFault, CanRestart}

-- the core of this plant, to which the plant of an old core is changed: the old core rests before the frame, the operators of the new one
-- are in the states of the old one's by their names, and whatever run led to the old core, its plant is changed to this one
pub record IsChangeOf (old : CoreView) (plant : PlantFields) (new : CoreView) : Type 0 where
  pub frame : ℕ
  pub rests : Rests old frame
  pub is_restarted : IsRestarted plant frame (states_by_name old) new
  pub changes : BehindEachRun old (λ was start before told. IsPlantChange
      (record { plant = was; start = start; steps = before; outs = told })
      (record { plant = plant; start = start_by_name plant frame (states_by_name old); steps = []; outs = [] }))

-- ---- why it is not changed

-- the old core rests before a frame, the constants are kept, and yet the operators do not start there so
pub record IsChangeRefused (old : CoreView) (plant : PlantFields) (why : RestartFault) : Type 0 where
  pub frame : ℕ
  pub rests : Rests old frame
  pub shared : KeepsConsts old.plant.consts plant.consts
  pub is : IsRestartFault plant frame (states_by_name old) why

-- what each refusal of a change says: the constants differ, the old core does not rest, or the operators do not start so
abbrev pub IsChangeFault : CoreView → PlantFields → ChangeFault → Type 0
IsChangeFault old plant ConstantsDiffer = ¬ KeepsConsts old.plant.consts plant.consts
IsChangeFault old plant (Unfinished why) = KeepsConsts old.plant.consts plant.consts × IsRestFault old why
IsChangeFault old plant (Restart why) = IsChangeRefused old plant why

-- the old core rests before a frame, the constants are kept, and the operators can start there so
pub record CanChange (old : CoreView) (plant : PlantFields) : Type 0 where
  pub frame : ℕ
  pub rests : Rests old frame
  pub shared : KeepsConsts old.plant.consts plant.consts
  pub can : CanRestart plant frame (states_by_name old)
