-- What was placed in an assembly, and the MAPs that it gave (implementation-specific).
use Rattle.std.specs.Prelude.{◌≡◌, ℕ, ◌==◌, List, [], ◌∷◌, ◌++◌, map, filter_map, Option, Some, None, if◌then◌else◌}
use Rattle.slice_scheduler.specs.declared.elements.ElementsFields.{ElementsFields}
use Rattle.plant.specs.declared.plant.PlantFields.{PlantFields}
use Rattle.operator_model.specs.declared.action.SliceRow.{SliceRow}
use Rattle.map_assembly.specs.declared.map_bytes.MapBytes.{MapBytes}
use Rattle.map_assembly.specs.Gathering.{Gathering, gathering_of, put_fault, after_put, MayReslice, gathering_after_reslice, IsGathering}
use Rattle.map_assembly.specs.Assembled.{IsPutResult}
use Rattle.run_model.specs.OwnSteps.{slice_of}
use Rattle.plant_workers.specs.declared.audit.placing.Placing.{Placing}
use Rattle.plant_workers.specs.declared.audit.placing.Placing.TheVariants.{Put, Reslice}

-- what contracts see of an assembly: its plant, what is gathered, all that was placed, in order, and the MAPs that it
-- gave
pub record AssemblyView : Type 0 where
  pub plant : PlantFields
  pub gathering : Gathering
  pub placings : List Placing
  pub maps : List MapBytes

-- nothing is placed in the assembly of a plant
abbrev pub new_assembly : PlantFields → AssemblyView
new_assembly plant = record { plant = plant; gathering = gathering_of plant; placings = []; maps = [] }

-- ---- what was put

-- a part that this operator put, under its frame's number
abbrev pub put_by : ℕ → Placing → Option (ℕ × ElementsFields)
put_by i (Put op frame elements) = if op == i then Some (frame, elements) else None
put_by i (Reslice from rows) = None

-- what an operator put, in order
abbrev pub puts_of : ℕ → List Placing → List (ℕ × ElementsFields)
puts_of i placings = filter_map (put_by i) placings

-- ---- the MAPs

-- one MAP, or none
abbrev pub map_if_made : Option MapBytes → List MapBytes
map_if_made None = []
map_if_made (Some made) = made ∷ []

-- one after the other, these placings lead from one assembly to another and give these MAPs: no part is refused, each slice change may be
-- given, and each finds what is gathered as its type keeps it; the type `Assembly` keeps it, from a new assembly of its plant on
abbrev pub HaveMade : Gathering → List Placing → List MapBytes → Gathering → Type 0
HaveMade g [] maps after = (maps ≡ []) × (after ≡ g)
HaveMade g (Put op frame part ∷ later) maps after =
    (made : Option MapBytes) × (rest : List MapBytes) × IsGathering g × (put_fault g op frame part ≡ None)
    × IsPutResult g op frame part made × (maps ≡ map_if_made made ++ rest) × HaveMade (after_put g op part) later rest after
HaveMade g (Reslice from rows ∷ later) maps after =
    IsGathering g × MayReslice g from (map slice_of rows)
    × HaveMade (gathering_after_reslice g from (map slice_of rows)) later maps after

-- ---- one placing

-- the operator has put this part, and the MAP is where it was the last of its frame
pub record HasPut (op frame : ℕ) (part : ElementsFields) (old new : AssemblyView) : Type 0 where
  pub fits : put_fault old.gathering op frame part ≡ None
  pub plant_is : new.plant ≡ old.plant
  pub gathering_is : new.gathering ≡ after_put old.gathering op part
  pub placings_are : new.placings ≡ old.placings ++ Put op frame part ∷ []
  pub made : Option MapBytes
  pub made_is : IsPutResult old.gathering op frame part made
  pub maps_are : new.maps ≡ old.maps ++ map_if_made made

-- the operators have new slices from a frame on
pub record HasResliced (from : ℕ) (rows : List SliceRow) (old new : AssemblyView) : Type 0 where
  pub fits : MayReslice old.gathering from (map slice_of rows)
  pub plant_is : new.plant ≡ old.plant
  pub gathering_is : new.gathering ≡ gathering_after_reslice old.gathering from (map slice_of rows)
  pub placings_are : new.placings ≡ old.placings ++ Reslice from rows ∷ []
  pub maps_are : new.maps ≡ old.maps
