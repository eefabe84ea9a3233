-- Histories of a cell, whose entries name the pass that made them (implementation-specific).
use Rattle.std.specs.Prelude.{◌≡◌, ℕ, ◌+◌, ◌==◌, if◌then◌else◌, List, [], ◌∷◌, ◌++◌, map, length, nat_lt}
use Rattle.operator_model.specs.declared.action.Action.{Action}
use Rattle.operator_model.specs.declared.action.Entry.{Entry}
use Rattle.operator_model.specs.declared.output.Output.{Output}
use Rattle.plant_passes.specs.declared.view.MarkedEntry.{MarkedEntry}

-- an action, and what it output
abbrev pub history_entry : Action → List Output → Entry
history_entry action outputs = record { action = action; outputs = outputs }

-- an entry of the pass of this number
abbrev pub mark_entry : ℕ → Entry → MarkedEntry
mark_entry number entry = record { entry = entry; by = number }

-- entries of one pass; those of the number 0 are the book's own past
abbrev pub mark_entries : ℕ → List Entry → List MarkedEntry
mark_entries number history = map (mark_entry number) history

-- a history without the numbers of the passes
abbrev pub entries : List MarkedEntry → List Entry
entries history = map (λ m. m.entry) history

-- the places of a pass's entries, counted from n
abbrev pub places_from : ℕ → ℕ → List MarkedEntry → List ℕ
places_from number n [] = []
places_from number n (m ∷ history) =
    if m.by == number then n ∷ places_from number (n + 1) history else places_from number (n + 1) history

-- the places of a pass's entries
abbrev pub places : ℕ → List MarkedEntry → List ℕ
places number history = places_from number 0 history

-- the history begins with what was seen
abbrev pub StartsWith : List MarkedEntry → List MarkedEntry → Type 0
StartsWith history seen = (rest : List MarkedEntry) × (history ≡ seen ++ rest)

-- the history begins with each of these
abbrev pub StartsWithAll : List MarkedEntry → List (List MarkedEntry) → Type 0
StartsWithAll history [] = Unit {0}
StartsWithAll history (seen ∷ others) = StartsWith history seen × StartsWithAll history others

-- the longer of two histories
abbrev pub longer : List MarkedEntry → List MarkedEntry → List MarkedEntry
longer a b = if nat_lt (length a) (length b) then b else a
