-- The frames of an operator's book (implementation-specific).
use Rattle.std.specs.Prelude.{◌≡◌, ℕ, List, map}
use Rattle.slice_scheduler.specs.declared.elements.ElementsFields.{ElementsFields}
use Rattle.operator_model.specs.Replay.{BookView}
use Rattle.run_model.specs.IsStateAfter.{frames_of, AreNumbered}
use Rattle.plant_workers.specs.declared.receipts.own_frames.Frame.{Frame}
use Rattle.plant_workers.specs.declared.receipts.own_frames.OwnFrames.{OwnFrames}
use Rattle.plant_workers.specs.receipts.OwnParts.{history_outputs}

-- a frame with its number
abbrev pub numbered_frame : Frame → ℕ × ElementsFields
numbered_frame frame = (frame.number, frame.elements.now)

-- frames with their numbers
abbrev pub frames_with_numbers : List Frame → List (ℕ × ElementsFields)
frames_with_numbers frames = map numbered_frame frames

-- these are the SIDs and the frames of a book
pub record AreFramesOf (own : OwnFrames) (book : BookView) : Type 0 where
  pub sids_are : own.sids ≡ book.row.sids
  pub frames_are : frames_with_numbers own.frames.items ≡ frames_of (history_outputs book.history)
  pub in_order : AreNumbered book.consts.channel.first_frame (frames_with_numbers own.frames.items)
