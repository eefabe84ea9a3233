-- What a run on threads is refused for.
use Rattle.std.proofs.Common.{◌≡◌, Option, Some, None, option_map, Err}
use Rattle.plant_workers.proofs.Common.{none-some, CoreFault, IsResliceTold}
use Rattle.plant_core.specs.declared.live.core_fault.CoreFault.TheVariants as core_faults
use Rattle.plant_core.specs.declared.live.core_fault.ResliceFault.{ResliceFault}
use Rattle.plant_core.specs.live.Faults.{IsReported}

-- what is told of slices is the fault that they have
pub told_of : (fault : CoreFault) (found : Option ResliceFault) → IsReported {A = Unit {0}} (Err fault) (option_map (λ f. core_faults.Reslice f) found) → IsResliceTold fault found
told_of (core_faults.Reslice fault) None is = cc
told_of (core_faults.Reslice fault) (Some other) is = let same : other ≡ fault = cc in cc
told_of (core_faults.UnknownModem modem) found is = tt
told_of (core_faults.UnknownOperator op) found is = tt
told_of (core_faults.Book fault) found is = tt
told_of (core_faults.Gather fault) found is = tt
told_of (core_faults.NothingToCollect op) found is = tt
told_of core_faults.NoMemory found is = tt

-- slices that have a fault are refused for it
pub is_told : (fault : CoreFault) (found : Option ResliceFault) (refusal : ResliceFault) → found ≡ Some refusal → IsReported {A = Unit {0}} (Err fault) (option_map (λ f. core_faults.Reslice f) found) → fault ≡ core_faults.Reslice refusal
is_told fault None refusal same is = absurd (none-some refusal same)
is_told (core_faults.Reslice fault) (Some other) refusal same is = let one : other ≡ refusal = cc in let two : other ≡ fault = cc in cc
is_told (core_faults.UnknownModem modem) (Some other) refusal same is = cc
is_told (core_faults.UnknownOperator op) (Some other) refusal same is = cc
is_told (core_faults.Book fault) (Some other) refusal same is = cc
is_told (core_faults.Gather fault) (Some other) refusal same is = cc
is_told (core_faults.NothingToCollect op) (Some other) refusal same is = cc
is_told core_faults.NoMemory (Some other) refusal same is = cc
