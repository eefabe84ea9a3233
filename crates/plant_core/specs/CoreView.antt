-- What contracts see of a core (implementation-specific).
use Rattle.run_model.specs.IsStateAfter.{CoreView}
use Rattle.plant_core.specs.declared.held.PlantCore.{PlantCore}
use Rattle.plant_core.specs.RecordView.{record_view}

-- what contracts see of a core: the plant, the books with their histories, the waiting frames, and what is gathered
abbrev pub core_view : {D : Type 0} {F : D → Type 0} {m : _} → PlantCore D F m → CoreView
core_view core = record_view core.recorded
