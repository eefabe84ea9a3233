-- What contracts see of a live core (implementation-specific).
use Rattle.std.specs.Prelude.{map}
use Rattle.run_model.specs.IsStateAfter.{CoreView}
use Rattle.plant_core.specs.live.Reachable.{core_of}
use Rattle.plant_core.specs.declared.live.held.LiveCore.{LiveCore}
use Rattle.plant_core.specs.live.DeskView.{slot_book, slot_waiting}

-- what contracts see of a live core: a core of which the histories are forgotten
abbrev pub live_view : LiveCore → CoreView
live_view core = core_of core.routes (map slot_book core.desks.items) (map slot_waiting core.desks.items) core.gather
