-- The frames of a history that wait to be collected (implementation-specific).
use Rattle.std.specs.Prelude.{ℕ, ◌≤◌, List, drop, length}
use Rattle.std.specs.List.{flat_map}
use Rattle.slice_scheduler.specs.declared.elements.ElementsFields.{ElementsFields}
use Rattle.operator_model.specs.declared.action.Entry.{Entry}
use Rattle.run_model.specs.IsStateAfter.{frames_of}

-- the frames of these entries, each with its number
abbrev pub frames_in : List Entry → List (ℕ × ElementsFields)
frames_in entries = frames_of (flat_map (λ entry. entry.outputs) entries)

-- the frames of a history from a place on
abbrev pub waiting_in : List Entry → ℕ → List (ℕ × ElementsFields)
waiting_in history place = frames_in (drop place history)

-- an entry with one frame at most
abbrev pub IsOneFrame : Entry → Type 0
IsOneFrame entry = length (frames_of entry.outputs) ≤ 1
