-- The numbers of faults.
use Rattle.std.proofs.Common.{◌≡◌, ◌≢◌, ℕ, Option, Some, None, Result, Ok, Err, ◌⊎◌, inl, inr, refl, sym, subst, ap, ◌∙◌}
use Rattle.std.proofs.lemmas.Bool.{eqb-false}
use Rattle.plant.specs.declared.plant.PlantFields.{PlantFields}
use Rattle.slice_table.specs.declared.plant_fault.PlantFault.{PlantFault}
use Rattle.slice_table.specs.declared.plant_fault.PlantFault.TheVariants as plants
use Rattle.lists.specs.Results.{Fails}
use Rattle.slice_table.specs.Tree.{PlantResult, plant_cause}
use Rattle.operator_book.specs.declared.book.BookFault.{BookFault}
use Rattle.operator_book.specs.declared.book.BookFault.TheVariants as books
use Rattle.plant_core.specs.declared.live.core_fault.ResliceFault.{ResliceFault}
use Rattle.plant_core.specs.declared.live.core_fault.ResliceFault.TheVariants as reslices
use Rattle.plant_core.specs.declared.live.core_fault.CoreFault.{CoreFault}
use Rattle.plant_core.specs.declared.live.core_fault.CoreFault.TheVariants as cores
use Rattle.plant_core.specs.live.Faults.{IsReported}
use Rattle.channel_c.specs.Codes.{plant_code, reslice_code, core_code, IsOpenCode, IsStepCode}

-- the least number of a fault is 1
reslice_more : (fault : ResliceFault) → reslice_code fault ≢ 0
reslice_more reslices.Count = eqb-false 30 0 refl
reslice_more (reslices.NotPast op) = eqb-false 31 0 refl
reslice_more (reslices.Unfinished op) = eqb-false 32 0 refl
reslice_more (reslices.OffFrame op) = eqb-false 33 0 refl
reslice_more (reslices.SlicesMeet a b) = eqb-false 34 0 refl
reslice_more (reslices.BudgetOverSlice op) = eqb-false 35 0 refl
reslice_more (reslices.Unfit op) = eqb-false 36 0 refl

reslice_other : (fault : ResliceFault) → reslice_code fault ≢ 5
reslice_other reslices.Count = eqb-false 30 5 refl
reslice_other (reslices.NotPast op) = eqb-false 31 5 refl
reslice_other (reslices.Unfinished op) = eqb-false 32 5 refl
reslice_other (reslices.OffFrame op) = eqb-false 33 5 refl
reslice_other (reslices.SlicesMeet a b) = eqb-false 34 5 refl
reslice_other (reslices.BudgetOverSlice op) = eqb-false 35 5 refl
reslice_other (reslices.Unfit op) = eqb-false 36 5 refl

pub core_more : (fault : CoreFault) → core_code fault ≢ 0
core_more (cores.UnknownModem modem) = eqb-false 20 0 refl
core_more (cores.UnknownOperator op) = eqb-false 21 0 refl
core_more (cores.Book books.FramesSpent) = eqb-false 22 0 refl
core_more (cores.Book books.NoMemory) = eqb-false 24 0 refl
core_more (cores.Book (books.NotMine modem)) = eqb-false 24 0 refl
core_more (cores.Book (books.Unfit why)) = eqb-false 24 0 refl
core_more (cores.Gather fault) = eqb-false 25 0 refl
core_more (cores.NothingToCollect op) = eqb-false 23 0 refl
core_more cores.NoMemory = eqb-false 1 0 refl
core_more (cores.Reslice fault) = reslice_more fault

pub core_other : (fault : CoreFault) → core_code fault ≢ 5
core_other (cores.UnknownModem modem) = eqb-false 20 5 refl
core_other (cores.UnknownOperator op) = eqb-false 21 5 refl
core_other (cores.Book books.FramesSpent) = eqb-false 22 5 refl
core_other (cores.Book books.NoMemory) = eqb-false 24 5 refl
core_other (cores.Book (books.NotMine modem)) = eqb-false 24 5 refl
core_other (cores.Book (books.Unfit why)) = eqb-false 24 5 refl
core_other (cores.Gather fault) = eqb-false 25 5 refl
core_other (cores.NothingToCollect op) = eqb-false 23 5 refl
core_other cores.NoMemory = eqb-false 1 5 refl
core_other (cores.Reslice fault) = reslice_other fault

pub plant_more : (fault : PlantFault) → plant_code fault ≢ 0
plant_more plants.NotToml = eqb-false 10 0 refl
plant_more (plants.Missing key) = eqb-false 11 0 refl
plant_more (plants.BadValue key) = eqb-false 12 0 refl
plant_more (plants.SlicesMeet a b) = eqb-false 13 0 refl
plant_more (plants.SidsMeet a b) = eqb-false 14 0 refl
plant_more (plants.SfidsMeet a b) = eqb-false 15 0 refl
plant_more (plants.ModemTwice modem) = eqb-false 16 0 refl
plant_more (plants.TooManyElements total) = eqb-false 17 0 refl
plant_more (plants.BudgetOverSlice operator) = eqb-false 18 0 refl
plant_more (plants.ProvisionedOver operator) = eqb-false 19 0 refl
plant_more plants.NoMemory = eqb-false 1 0 refl

-- ---- a step

-- done, it has no fault
pub code_done : (fault : Option CoreFault) → fault ≡ None → IsStepCode 0 fault
code_done fault is = subst (λ (f : Option CoreFault). IsStepCode 0 f) (sym is) (inl refl)

has_code : (told : CoreFault) (fault : Option CoreFault) → fault ≡ Some told → IsStepCode (core_code told) fault
has_code told fault is = subst (λ (f : Option CoreFault). IsStepCode (core_code told) f) (sym is) refl

-- refused, it has this fault
pub code_refused : (A : Type 0) (told : CoreFault) (fault : Option CoreFault) → IsReported {A = A} (Err told) fault → IsStepCode (core_code told) fault
code_refused A (cores.UnknownModem modem) fault is = has_code (cores.UnknownModem modem) fault is
code_refused A (cores.UnknownOperator op) fault is = has_code (cores.UnknownOperator op) fault is
code_refused A (cores.Book why) fault is = has_code (cores.Book why) fault is
code_refused A (cores.Gather why) fault is = has_code (cores.Gather why) fault is
code_refused A (cores.NothingToCollect op) fault is = has_code (cores.NothingToCollect op) fault is
code_refused A cores.NoMemory fault is = subst (λ (f : Option CoreFault). IsStepCode 1 f) (sym is) (inr refl)
code_refused A (cores.Reslice why) fault is = has_code (cores.Reslice why) fault is

-- ---- a plant file

pub open_without_memory : (said : PlantResult PlantFields) → IsOpenCode 1 said
open_without_memory (Ok plant) = inr refl
open_without_memory (Err fault) = inr refl

pub open_done : (said : PlantResult PlantFields) (plant : PlantFields) → said ≡ Ok plant → IsOpenCode 0 said
open_done said plant is = subst (λ (s : PlantResult PlantFields). IsOpenCode 0 s) (sym is) (inl refl)

said_code : (fault : PlantFault) (said : PlantResult PlantFields) → said ≡ Err fault → IsOpenCode (plant_code fault) said
said_code fault said is = subst (λ (s : PlantResult PlantFields). IsOpenCode (plant_code fault) s) (sym is) (inl refl)

pub open_refused : (fault : PlantFault) (said : PlantResult PlantFields) → Fails (plant_cause fault) said → IsOpenCode (plant_code fault) said
open_refused plants.NotToml said is = said_code plants.NotToml said is
open_refused (plants.Missing key) said is = said_code (plants.Missing key) said is
open_refused (plants.BadValue key) said is = said_code (plants.BadValue key) said is
open_refused (plants.SlicesMeet a b) said is = said_code (plants.SlicesMeet a b) said is
open_refused (plants.SidsMeet a b) said is = said_code (plants.SidsMeet a b) said is
open_refused (plants.SfidsMeet a b) said is = said_code (plants.SfidsMeet a b) said is
open_refused (plants.ModemTwice modem) said is = said_code (plants.ModemTwice modem) said is
open_refused (plants.TooManyElements total) said is = said_code (plants.TooManyElements total) said is
open_refused (plants.BudgetOverSlice operator) said is = said_code (plants.BudgetOverSlice operator) said is
open_refused (plants.ProvisionedOver operator) said is = said_code (plants.ProvisionedOver operator) said is
open_refused plants.NoMemory said is = open_without_memory said
