-- Why the plant of a core is not changed, and what always holds of a core that is restarted.
use Rattle.std.proofs.Common.{◌≢◌, ℕ, List, [], refl, sym, ap, subst}
use Rattle.state_service.proofs.ResumedLemmas.Common.{OperatorState, PlantFields, CoreView, IsAfterFrom, IsReachableFromStart, State, Core, NoMemory, start_by_name, IsChangeFault, IsRestarted, IsChangeRefusal}
use Rattle.plant_restart.specs.declared.fault.ChangeFault.{ChangeFault}
use Rattle.plant_restart.specs.declared.fault.ChangeFault.TheVariants.{ConstantsDiffer, Unfinished, Restart}
use Rattle.plant_restart.specs.declared.fault.RestartFault.{RestartFault}
use Rattle.state_service.specs.declared.resumed.new_plant_fault.NewPlantFault.TheVariants as new_faults

-- a fault that is not about memory
pub not_changed : (live : CoreView) (plant : PlantFields) (why : ChangeFault) → why ≢ Restart NoMemory → IsChangeFault live plant why
    → IsChangeRefusal live plant (new_faults.NotChanged why)
not_changed live plant ConstantsDiffer other is = (is, other)
not_changed live plant (Unfinished why) other is = (is, other)
not_changed live plant (Restart (State op why)) other is = (record { frame = is.frame; rests = is.rests; shared = is.shared; is = is.is }, other)
not_changed live plant (Restart (Core why)) other is = (record { frame = is.frame; rests = is.rests; shared = is.shared; is = is.is }, other)
not_changed live plant (Restart NoMemory) other is = absurd (other refl)

-- where memory runs out, the core rests and the constants are kept
pub out_of_memory : (live : CoreView) (plant : PlantFields) (why : RestartFault) → IsChangeFault live plant (Restart why) → IsChangeRefusal live plant new_faults.NoMemory
out_of_memory live plant why is = (is.shared, (is.frame, is.rests))

pub restarted_is_reached : (plant : PlantFields) (frame : ℕ) (states : List (List ℕ × OperatorState)) (live : CoreView) → IsRestarted plant frame states live → IsReachableFromStart live
restarted_is_reached plant frame states live is =
    let start = start_by_name plant frame states in
    (start, [], [], subst (λ (p : PlantFields). IsAfterFrom p start [] [] live) (sym (ap (λ (v : CoreView). v.plant) is.is_started)) is.reached)
