-- The frames of an operator that are taken, one by one (implementation-specific).
use Rattle.std.specs.Prelude.{◌≡◌, ℕ, Bool, true, false, nat_lt, List, [], ◌∷◌, count_by, Option, Some, None}
use Rattle.slice_scheduler.specs.declared.elements.ElementsFields.{ElementsFields}
use Rattle.operator_model.specs.declared.action.Entry.{Entry}
use Rattle.operator_model.specs.declared.output.Output.{Output}
use Rattle.operator_model.specs.declared.output.Output.TheVariants.{Reply, Silent, Frame}
use Rattle.operator_model.specs.Replay.{BookView, IsReplayed}
use Rattle.plant_core.specs.Waiting.{frames_in, waiting_in}

-- all frames of a book's history, each with its number
abbrev pub frames_at : BookView → List (ℕ × ElementsFields)
frames_at book = frames_in book.history

-- the oldest frame that waited is taken, and the others wait still; none where none waited
abbrev pub IsFrontTaken : List (ℕ × ElementsFields) → List (ℕ × ElementsFields) → Option (ℕ × ElementsFields) → Type 0
IsFrontTaken before after None = (before ≡ []) × (after ≡ [])
IsFrontTaken before after (Some frame) = before ≡ frame ∷ after

-- The frame is the oldest that waited at some book, whose state is the replay of its history: those before it were taken. So a
-- frame is not made up, whichever book is under the lock.
pub record IsFrameOfSomeBook (frame : ℕ × ElementsFields) : Type 0 where
  pub book : BookView
  pub replayed : IsReplayed book
  pub place : ℕ
  pub later : List (ℕ × ElementsFields)
  pub waited : waiting_in book.history place ≡ frame ∷ later

-- the output is a frame
abbrev pub is_frame : Output → Bool
is_frame (Reply modem bytes) = false
is_frame (Silent modem cause) = false
is_frame (Frame number elements) = true

-- an entry output a frame
abbrev pub has_frame : Entry → Bool
has_frame entry = nat_lt 0 (count_by is_frame entry.outputs)
