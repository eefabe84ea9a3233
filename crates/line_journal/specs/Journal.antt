-- What a file stands for: a snapshot, and the lines since (implementation-specific).
use Rattle.std.specs.Prelude.{◌≡◌, ◌⊎◌, ◌==◌, ℕ, ◌+◌, List, [], ◌∷◌, ◌++◌, length, drop, Option, Some, None, if◌then◌else◌}
use Rattle.line_journal.specs.Device.{Only}
use Rattle.line_journal.specs.Lines.{marked_lines, records}

-- the lines of a snapshot, and the lines since
pub record JournalContent : Type 0 where
  pub snapshot : List (List ℕ)
  pub lines : List (List ℕ)

-- the text of a snapshot: its lines begin with '=', and an empty line follows them
abbrev pub snapshot_lines : List (List ℕ) → List ℕ
snapshot_lines snapshot = records 61 snapshot ++ 10 ∷ []

-- lines that count, which begin with '+', and then a closed gate, '-'
abbrev pub shut_text : List (List ℕ) → List ℕ
shut_text lines = records 43 lines ++ 45 ∷ []

-- the file at rest
abbrev pub journal_text : JournalContent → List ℕ
journal_text stored = snapshot_lines stored.snapshot ++ shut_text stored.lines

-- behind the snapshot stand an empty line and the lines that count; without the empty line there is no snapshot
abbrev pub stored_behind : List (List ℕ) → List ℕ → Option JournalContent
stored_behind snapshot [] = None
stored_behind snapshot (b ∷ rest) = if b == 10 then Some (record { snapshot = snapshot; lines = marked_lines 43 rest }) else None

-- what a file stands for, whatever a crash made of its end
abbrev pub journal_content : List ℕ → Option JournalContent
journal_content file = stored_behind (marked_lines 61 file) (drop (length (records 61 (marked_lines 61 file))) file)

-- what a batch makes of a journal: the same snapshot, with these lines at the end
abbrev pub with_lines : List (List ℕ) → Option JournalContent → Option JournalContent
with_lines new None = None
with_lines new (Some stored) = Some (record { snapshot = stored.snapshot; lines = stored.lines ++ new })

-- what another snapshot makes of a journal: this snapshot, and no line since
abbrev pub fresh : List (List ℕ) → Option JournalContent
fresh snapshot = Some (record { snapshot = snapshot; lines = [] })

-- the file is at rest with its gate at this offset, and all of it is on the disk
pub record IsJournalSettled {D : Type 0} (seen : D → List ℕ) (may_leave : D → List ℕ → Type 0) (device : D) (gate : ℕ) : Type 0 where
  pub stored : JournalContent
  pub stands_for : journal_content (seen device) ≡ Some stored
  pub file : seen device ≡ journal_text stored
  pub gate_is_last : gate + 1 ≡ length (seen device)
  pub durable : Only (seen device) (may_leave device)

-- the file stands for the one journal or for the other
abbrev pub IsBeforeOrAfter : Option JournalContent → Option JournalContent → List ℕ → Type 0
IsBeforeOrAfter before later file = (journal_content file ≡ before) ⊎ (journal_content file ≡ later)
