-- A service that begins with a plant file or a snapshot (implementation-specific).
use Rattle.std.specs.Prelude.{◌≡◌, ℕ, List, [], Option, IfSome}
use Rattle.plant.specs.declared.plant.PlantFields.{PlantFields}
use Rattle.snapshot_format.specs.declared.saved.Snapshot.{Snapshot}
use Rattle.snapshot_format.specs.States.{states_of}
use Rattle.plant_restart.specs.ByName.{start_by_name}
use Rattle.state_service.specs.declared.resumed.serving.ServiceEnd.{ServiceEnd}
use Rattle.state_service.specs.declared.resumed.serving.ServiceEnd.TheVariants.{Served, NotBegun}
use Rattle.state_service.specs.resumed.Beginning.{front_text, lines_after, IsBeginning, IsBeginFault}
use Rattle.state_service.specs.resumed.Items.{InService, IsServedFrom}

-- a run that begins at the snapshot's frame: each operator goes on in the state that is saved under its name, and without one it is
-- opened before that frame. The plant file is that of the snapshot.
abbrev pub resumed_service : PlantFields → Snapshot → InService
resumed_service plant saved = record {
  run = record { plant = plant; start = start_by_name plant saved.frame (states_of saved); steps = []; outs = [] };
  file = saved.plant;
}

-- the lines are answered, one after the other, from `resumed_service`, where each operator goes on in its saved state
pub record IsResumedService (text lines : List ℕ) (old new : Option (List ℕ)) : Type 0 where
  pub plant : PlantFields
  pub saved : Snapshot
  pub begins : IsBeginning text plant saved
  pub served : IsServedFrom (resumed_service plant saved) lines old new

-- what is written: the answers; or nothing, for this reason
abbrev pub ServiceEnds : List ℕ → List ℕ → Option (List ℕ) → Option (List ℕ) → ServiceEnd → Type 0
ServiceEnds text lines old new Served = IsResumedService text lines old new
ServiceEnds text lines old new (NotBegun fault) = IsBeginFault text fault × (new ≡ old)

-- if the input could be read, its lines are answered, or the service does not begin for a fault of it
abbrev pub EndsInput : Option (List ℕ) → Option (List ℕ) → Option (List ℕ) → ServiceEnd → Type 0
EndsInput read old new end = IfSome read (λ input. ServiceEnds (front_text input) (lines_after input) old new end)
