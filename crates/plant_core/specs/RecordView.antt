-- What contracts see of a core next to its record (implementation-specific).
use Rattle.std.specs.Prelude.{map}
use Rattle.run_model.specs.IsStateAfter.{CoreView}
use Rattle.plant_core.specs.live.LiveView.{live_view}
use Rattle.plant_core.specs.Recorded.{recorded_view}
use Rattle.plant_core.specs.declared.recorded.RecordedCore.{RecordedCore}

-- the core with its histories, and with all slices that were given
abbrev pub record_view : RecordedCore → CoreView
record_view core = recorded_view (live_view core.live) (map (λ history. history.entries) core.histories.items) core.changes.items
