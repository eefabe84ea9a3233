-- Lines in memory, as a contract sees them (implementation-specific).
use Rattle.std.specs.Prelude.{ℕ, List, map, Option, Some, None, Vec}
use Rattle.std.specs.declared.alloc.Global.{Global}
use Rattle.line_journal.specs.Journal.{JournalContent}
use Rattle.line_journal.specs.declared.recovery.Recovered.{Recovered}

-- the texts of lines in memory
abbrev pub texts : List (Vec ℕ Global) → List (List ℕ)
texts lines = map (λ v. v.items) lines

-- what was found, without where it lies
abbrev pub found_of : Option Recovered → Option JournalContent
found_of None = None
found_of (Some found) = Some (record { snapshot = texts found.snapshot.items; lines = texts found.lines.items })
