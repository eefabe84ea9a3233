-- What a file of a journal shows.
use Rattle.std.specs.Prelude.{ℕ, List, [], ◌∷◌}
use Rattle.journal_file.specs.declared.calls.FileCall.TheVariants.{Open}
use Rattle.journal_file.specs.declared.file.JournalFile.{JournalFile}
use Rattle.journal_file.specs.Disk.{FileEvent}

-- what a read returns
abbrev pub seen_bytes : JournalFile → List ℕ
seen_bytes f = f.bytes.items

-- the calls that were made on it
abbrev pub calls_made : JournalFile → List FileEvent
calls_made f = f.log.items

-- its opening alone, with what was read
abbrev pub calls_at_opening : JournalFile → List FileEvent
calls_at_opening f = (Open, f.bytes) ∷ []
