-- The snapshot that a text says (implementation-specific).
use Rattle.std.specs.Prelude.{◌==◌, ℕ, ◌+◌, ◌-◌, nat_lt, List, [], ◌∷◌, ◌++◌, length, take, drop, Option, Some, None, Result, Ok, Err, if◌then◌else◌, codes}
use Rattle.std.specs.Str.{bytes_eq}
use Rattle.lists.specs.Results.{◌>>=◌}
use Rattle.snapshot_format.specs.declared.fault.Wrong.TheVariants.{Version, Cut, LineCount, Checksum, Surplus}
use Rattle.snapshot_format.specs.declared.fault.ReadStop.{ReadStop}
use Rattle.snapshot_format.specs.declared.fault.SnapshotFault.{SnapshotFault}
use Rattle.snapshot_format.specs.declared.fault.SnapshotFault.TheVariants.{NoMemory, Line}
use Rattle.snapshot_format.specs.declared.saved.Snapshot.{Snapshot}
use Rattle.snapshot_format.specs.Reading.{Taken, stop_at}
use Rattle.snapshot_format.specs.Fields.{take_literal, take_number}
use Rattle.snapshot_format.specs.Records.{take_operators}
use Rattle.snapshot_format.specs.Checksum.{adler_32, line_count}

-- ---- the parts

-- `melfjits-snapshot 1 length`
unfoldable pub take_version : List ℕ → Taken ℕ
take_version text = if bytes_eq (take 20 text) (codes "melfjits-snapshot 1 ") then take_number 4294967295 10 (drop 20 text) else stop_at Version text

-- the text of the plant file, which is so long
abbrev pub plant_lines : ℕ → List ℕ → Taken (List ℕ)
plant_lines count bytes = if nat_lt (length bytes) count then stop_at Cut bytes else Ok (take count bytes, drop count bytes)

-- the text of the plant file, up to a line of dashes
unfoldable pub take_plant : List ℕ → Taken (List ℕ)
take_plant text = do
  count ← take_version text
  plant ← plant_lines count.0 count.1
  rest ← take_literal (codes "---" ++ 10 ∷ []) plant.1
  Ok (plant.0, rest)

-- `frame number operators`
unfoldable pub take_frame : List ℕ → Taken (ℕ × ℕ)
take_frame bytes = do
  head ← take_literal (codes "frame ") bytes
  frame ← take_number 4294967295 32 head
  count ← take_number 65535 10 frame.1
  Ok ((frame.0, count.0), count.1)

-- all lines but the last
unfoldable pub take_body : List ℕ → Taken Snapshot
take_body text = do
  plant ← take_plant text
  frame ← take_frame plant.1
  operators ← take_operators frame.0.1 frame.1
  Ok (record { plant = plant.0; frame = frame.0.0; operators = operators.0 }, operators.1)

-- `end lines checksum`
unfoldable pub take_end : List ℕ → Taken (ℕ × ℕ)
take_end bytes = do
  head ← take_literal (codes "end ") bytes
  lines ← take_number 4294967295 32 head
  sum ← take_number 4294967295 10 lines.1
  Ok ((lines.0, sum.0), sum.1)

-- nothing, where the last line says what is before it and nothing is after it
unfoldable pub checked_end : List ℕ → List ℕ → Result (List ℕ) ReadStop
checked_end body bytes = take_end bytes >>= λ end.
    if end.0.0 == line_count body then
    (if end.0.1 == adler_32 body then (if length end.1 == 0 then Ok [] else stop_at Surplus end.1)
    else stop_at Checksum bytes)
    else stop_at LineCount bytes

-- ---- the whole

-- the snapshot that a text says, or where reading stops
abbrev pub saved_of : List ℕ → Result Snapshot ReadStop
saved_of text = take_body text >>= λ body. checked_end (take (length text - length body.1) text) body.1 >>= λ rest. Ok body.0

-- the number of the line in which so many bytes are left
abbrev pub line_number : List ℕ → ℕ → ℕ
line_number text left = 1 + line_count (take (length text - left) text)

-- where reading stops, by the number of the line
abbrev pub by_line : List ℕ → Result Snapshot ReadStop → Result Snapshot SnapshotFault
by_line text (Ok saved) = Ok saved
by_line text (Err stop) = Err (Line (line_number text stop.left) stop.wrong)

-- the snapshot that a text says, or its first invalid line with that line's number
abbrev pub snapshot_of : List ℕ → Result Snapshot SnapshotFault
snapshot_of text = by_line text (saved_of text)

-- the invalid line that a fault stands for: none where memory ran out
abbrev pub snapshot_cause : SnapshotFault → Option SnapshotFault
snapshot_cause NoMemory = None
snapshot_cause (Line number wrong) = Some (Line number wrong)
