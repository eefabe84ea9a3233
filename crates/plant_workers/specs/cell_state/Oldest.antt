-- The frame of a history that waits longest (implementation-specific).
use Rattle.std.specs.Prelude.{◌≡◌, ℕ, ◌≤◌, List, [], ◌∷◌, length, Option, Some, None}
use Rattle.operator_model.specs.declared.action.Entry.{Entry}
use Rattle.plant_core.specs.Waiting.{waiting_in}
use Rattle.plant_workers.specs.declared.cell_state.collecting.Oldest.{Oldest}

-- the first of the frames that wait from a place on, and the place from which on the others do; none where none waits
abbrev pub IsOldest : List Entry → ℕ → Option Oldest → Type 0
IsOldest history place None = waiting_in history place ≡ []
IsOldest history place (Some oldest) =
    (waiting_in history place ≡ (oldest.number, oldest.elements) ∷ waiting_in history oldest.behind) × (oldest.behind ≤ length history)
