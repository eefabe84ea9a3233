-- What the calls of a file made of it, and what a crash may leave of it (implementation-specific).
use Rattle.std.specs.Prelude.{◌≡◌, ◌⊎◌, ◌≤◌, ⊤, ℕ, ◌+◌, Bool, true, false, not, List, [], ◌∷◌, ◌++◌, length, take, drop, Vec, if◌then◌else◌}
use Rattle.std.specs.declared.alloc.Global.{Global}
use Rattle.line_journal.specs.Device.{Torn, Cut}
use Rattle.journal_file.specs.declared.calls.FileCall.{FileCall}
use Rattle.journal_file.specs.declared.calls.FileCall.TheVariants.{Open, RefuseRead, Write, Truncate, Sync, Replace}

-- a call with its outcome, and the bytes that it was given or, of the opening, that were read
abbrev pub FileEvent : Type 0
FileEvent = FileCall × Vec ℕ Global

-- ---- what a read returns

-- after a call on a file of this content. Of a call that failed this is what was asked: after it nothing is read.
abbrev pub bytes_after : FileCall → List ℕ → List ℕ → List ℕ
bytes_after Open bytes file = bytes
bytes_after RefuseRead bytes file = file
bytes_after (Write at done) bytes file = take at file ++ bytes ++ drop (at + length bytes) file
bytes_after (Truncate len done) bytes file = take len file
bytes_after (Sync done) bytes file = file
bytes_after (Replace true) bytes file = bytes
bytes_after (Replace false) bytes file = file

-- the content of a file that had this content, after these calls
abbrev pub content_from : List ℕ → List FileEvent → List ℕ
content_from file [] = file
content_from file (event ∷ events) = content_from (bytes_after event.0 event.1.items file) events

-- what a read returns: the content of the file after all calls, the oldest of them first
abbrev pub file_content : List FileEvent → List ℕ
file_content events = content_from [] events

-- ---- what a crash may leave

-- After a call on a file of this content: what a crash before it might have left, after a step. An opening, a sync or a replacement that
-- succeeded leaves one outcome.
abbrev pub LeavesAfter : FileCall → List ℕ → List ℕ → (List ℕ → Type 0) → List ℕ → Type 0
LeavesAfter Open bytes file before c = c ≡ bytes
LeavesAfter RefuseRead bytes file before c = before c
LeavesAfter (Write at done) bytes file before c = (d : List ℕ) × before d × Torn at (length bytes) d c
LeavesAfter (Truncate len done) bytes file before c = (d : List ℕ) × before d × Cut len d c
LeavesAfter (Sync true) bytes file before c = before c × (c ≡ file)
LeavesAfter (Sync false) bytes file before c = before c
LeavesAfter (Replace true) bytes file before c = c ≡ bytes
LeavesAfter (Replace false) bytes file before c = before c ⊎ (c ≡ bytes)

-- what a crash may leave after these calls on a file of this content, where it might have left this before them
abbrev pub LeavesFrom : List ℕ → (List ℕ → Type 0) → List FileEvent → List ℕ → Type 0
LeavesFrom file before [] c = before c
LeavesFrom file before (event ∷ events) c =
    LeavesFrom (bytes_after event.0 event.1.items file) (LeavesAfter event.0 event.1.items file before) events c

-- a crash after all calls may leave this; before the first of them, anything
abbrev pub MayLeave : List FileEvent → List ℕ → Type 0
MayLeave events c = LeavesFrom [] (λ d. ⊤) events c

-- a crash after some of the calls, at least so many, might have left this
pub record MightLeave (events : List FileEvent) (since : ℕ) (c : List ℕ) : Type 0 where
  pub made : ℕ
  pub later : since ≤ made
  pub no_more : made ≤ length events
  pub left : MayLeave (take made events) c

-- ---- failures

-- whether a call failed
abbrev pub is_failure : FileCall → Bool
is_failure Open = false
is_failure RefuseRead = true
is_failure (Write at done) = not done
is_failure (Truncate len done) = not done
is_failure (Sync done) = not done
is_failure (Replace done) = not done

-- how many of the calls failed
abbrev pub failures : List FileEvent → ℕ
failures [] = 0
failures (event ∷ events) = (if is_failure event.0 then 1 else 0) + failures events
