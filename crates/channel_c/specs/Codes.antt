-- The numbers by which calls say how they ended (implementation-specific). 0: done. 1: out of memory. 2: the handle is closed.
-- 3: a buffer is too small. 4: no output waits. 5: a message was received, and out of memory kept it from being handled.
use Rattle.std.specs.Prelude.{◌≡◌, ◌⊎◌, ℕ, Option, Some, None, Result, Ok, Err}
use Rattle.plant.specs.declared.plant.PlantFields.{PlantFields}
use Rattle.slice_table.specs.declared.plant_fault.PlantFault.{PlantFault}
use Rattle.slice_table.specs.declared.plant_fault.PlantFault.TheVariants as plants
use Rattle.slice_table.specs.Tree.{PlantResult}
use Rattle.operator_book.specs.declared.book.BookFault.TheVariants as books
use Rattle.plant_core.specs.declared.live.core_fault.ResliceFault.{ResliceFault}
use Rattle.plant_core.specs.declared.live.core_fault.ResliceFault.TheVariants as reslices
use Rattle.plant_core.specs.declared.live.core_fault.CoreFault.{CoreFault}
use Rattle.plant_core.specs.declared.live.core_fault.CoreFault.TheVariants as cores
use Rattle.plant_core.specs.declared.live.rest_fault.RestFault.{RestFault}
use Rattle.plant_core.specs.declared.live.rest_fault.RestFault.TheVariants as rests
use Rattle.snapshot_format.specs.declared.fault.SnapshotFault.{SnapshotFault}
use Rattle.snapshot_format.specs.declared.fault.SnapshotFault.TheVariants as snapshots
use Rattle.plant_restart.specs.declared.fault.SaveFault.{SaveFault}
use Rattle.plant_restart.specs.declared.fault.SaveFault.TheVariants as saves
use Rattle.plant_restart.specs.declared.fault.RestartFault.{RestartFault}
use Rattle.plant_restart.specs.declared.fault.RestartFault.TheVariants as restarts
use Rattle.plant_restart.specs.declared.fault.ChangeFault.{ChangeFault}
use Rattle.plant_restart.specs.declared.fault.ChangeFault.TheVariants as changes
use Rattle.plant_restart.specs.declared.fault.RestoreFault.{RestoreFault}
use Rattle.plant_restart.specs.declared.fault.RestoreFault.TheVariants as restores

-- 10 to 19: why a plant file is refused, in the order in which its faults are reported
abbrev pub plant_code : PlantFault → ℕ
plant_code plants.NotToml = 10
plant_code (plants.Missing key) = 11
plant_code (plants.BadValue key) = 12
plant_code (plants.SlicesMeet a b) = 13
plant_code (plants.SidsMeet a b) = 14
plant_code (plants.SfidsMeet a b) = 15
plant_code (plants.ModemTwice modem) = 16
plant_code (plants.TooManyElements total) = 17
plant_code (plants.BudgetOverSlice operator) = 18
plant_code (plants.ProvisionedOver operator) = 19
plant_code plants.NoMemory = 1

-- 30 to 36: why a slice change is refused, in the order in which its faults are reported
abbrev pub reslice_code : ResliceFault → ℕ
reslice_code reslices.Count = 30
reslice_code (reslices.NotPast op) = 31
reslice_code (reslices.Unfinished op) = 32
reslice_code (reslices.OffFrame op) = 33
reslice_code (reslices.SlicesMeet a b) = 34
reslice_code (reslices.BudgetOverSlice op) = 35
reslice_code (reslices.Unfit op) = 36

-- 20 to 25: why another step is refused
abbrev pub core_code : CoreFault → ℕ
core_code (cores.UnknownModem modem) = 20
core_code (cores.UnknownOperator op) = 21
core_code (cores.Book books.FramesSpent) = 22
core_code (cores.NothingToCollect op) = 23
core_code (cores.Book fault) = 24
core_code (cores.Gather fault) = 25
core_code cores.NoMemory = 1
core_code (cores.Reslice fault) = reslice_code fault

-- 40 and 41: why a channel does not rest before a frame
abbrev pub rest_code : RestFault → ℕ
rest_code (rests.FrameWaits op) = 40
rest_code (rests.NotAtFrame op) = 41

-- 40 and 41: why a channel is not saved, since it does not rest; 1: out of memory
abbrev pub save_code : SaveFault → ℕ
save_code (saves.Unfinished why) = rest_code why
save_code saves.NoMemory = 1

-- 43 and 44: why operators do not start in their states
abbrev pub restart_code : RestartFault → ℕ
restart_code (restarts.State op why) = 43
restart_code (restarts.Core why) = 44
restart_code restarts.NoMemory = 1

-- 42: what all operators share would change
abbrev pub change_code : ChangeFault → ℕ
change_code changes.ConstantsDiffer = 42
change_code (changes.Unfinished why) = rest_code why
change_code (changes.Restart why) = restart_code why

-- 45: the text is not a snapshot
abbrev pub snapshot_code : SnapshotFault → ℕ
snapshot_code snapshots.NoMemory = 1
snapshot_code (snapshots.Line number wrong) = 45

-- 46: the plant has no operator of a name that the snapshot has
abbrev pub restore_code : RestoreFault → ℕ
restore_code (restores.UnknownOperator name) = 46
restore_code (restores.Restart why) = restart_code why

-- the number of an opening: 0 only where the text says a plant; out of memory says nothing of the text
abbrev pub IsOpenCode : ℕ → PlantResult PlantFields → Type 0
IsOpenCode code (Ok plant) = (code ≡ 0) ⊎ (code ≡ 1)
IsOpenCode code (Err fault) = (code ≡ plant_code fault) ⊎ (code ≡ 1)

-- the number of a step: 0 or out of memory where it has no fault, else that of its fault
abbrev pub IsStepCode : ℕ → Option CoreFault → Type 0
IsStepCode code None = (code ≡ 0) ⊎ (code ≡ 1)
IsStepCode code (Some fault) = code ≡ core_code fault
