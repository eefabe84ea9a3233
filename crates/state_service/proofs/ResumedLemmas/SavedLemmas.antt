-- A service whose lines are performed for the snapshot after them.
use Rattle.std.proofs.Common.{◌≡◌, ℕ, List, Option, Some, None, IfSome, sym, subst}
use Rattle.state_service.proofs.ResumedLemmas.Common.{PlantFields, CoreView, Snapshot, AtEnd, LastState, IsBeginningRead, IsLastState, IsServedTo, name_at, restless_operator, resumed_service}
use Rattle.plant_core.specs.declared.live.rest_fault.RestFault.{RestFault}
use Rattle.plant_core.specs.live.Resting.{Rests, IsRestFault}
use Rattle.state_service.specs.declared.resumed.last_state.AtEnd.TheVariants as asked
use Rattle.state_service.specs.declared.resumed.last_state.LastState.TheVariants as states
use Rattle.state_service.specs.declared.resumed.saving.SnapshotEnd.{SnapshotEnd}
use Rattle.state_service.specs.declared.resumed.saving.SnapshotEnd.TheVariants.{Saved, Unfinished, NoMemory, NotBegun}
use Rattle.state_service.specs.resumed.SavedAfter.{IsSnapshotWritten, IsSnapshotAfter, SnapshotServiceEnds, EndsWithSnapshot}

-- the core rests before no frame
pub restless : (at_end : AtEnd) (file : List ℕ) (live : CoreView) (why : RestFault) (operator : Option (List ℕ)) → at_end ≡ asked.Snapshot → IsRestFault live why → ((frame : ℕ) → Rests live frame → ⊥)
    → operator ≡ name_at live.plant.rows (restless_operator why) → IsLastState at_end file live (states.Unfinished why operator)
restless at_end file live why operator is fault nowhere named =
    subst (λ (end : AtEnd). IsLastState end file live (states.Unfinished why operator)) (sym is) (record { is_fault = fault; rests_nowhere = nowhere; operator_is = named })

-- a service that has begun has an end of its own
begun_end : (text lines : List ℕ) (a0 a1 w0 w1 : Option (List ℕ)) (file : List ℕ) (live : CoreView) (end : SnapshotEnd) → IsSnapshotWritten file live w0 w1 end
    → IsSnapshotAfter text lines a0 a1 w0 w1 end → SnapshotServiceEnds text lines a0 a1 w0 w1 end
begun_end text lines a0 a1 w0 w1 file live Saved wrote after = after
begun_end text lines a0 a1 w0 w1 file live (Unfinished why operator) wrote after = after
begun_end text lines a0 a1 w0 w1 file live NoMemory wrote after = after
begun_end text lines a0 a1 w0 w1 file live (NotBegun fault) wrote after = absurd wrote

-- the lines are performed, and what is made of the core after them is written
pub saved_after : (known mid : Option (List ℕ)) (plant : PlantFields) (saved : Snapshot) (a0 a1 w0 w1 : Option (List ℕ)) (last : LastState) (end : SnapshotEnd)
    → IfSome known (λ input. IsBeginningRead input mid plant saved) → IfSome mid (λ lines. IsServedTo (resumed_service plant saved) lines a0 a1 asked.Snapshot last)
    → ((file : List ℕ) (live : CoreView) → IsLastState asked.Snapshot file live last → IsSnapshotWritten file live w0 w1 end) → EndsWithSnapshot known a0 a1 w0 w1 end
saved_after None mid plant saved a0 a1 w0 w1 last end read served wrote = tt
saved_after (Some input) mid plant saved a0 a1 w0 w1 last end read served wrote =
    let to = subst (λ (m : Option (List ℕ)). IfSome m (λ lines. IsServedTo (resumed_service plant saved) lines a0 a1 asked.Snapshot last)) read.left_is served in
    let snapshot = wrote _ to.live to.last_is in
    begun_end _ _ a0 a1 w0 w1 _ to.live end snapshot
    (record {
      plant = plant;
      saved = saved;
      begins = read.begins;
      live = to.live;
      performed = to.performed;
      answered = to.written;
      snapshot = snapshot;
    })
