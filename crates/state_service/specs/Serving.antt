-- A service whose lines are in a journal before they are answered (implementation-specific).
use Rattle.std.specs.Prelude.{◌≡◌, ◌≤◌, ◌⊎◌, ℕ, ◌+◌, List, [], ◌∷◌, ◌++◌, length, true, Option, Some, None, codes}
use Rattle.std.specs.Fmt.{decimal}
use Rattle.std.specs.Io.KnownBytes.{Appends}
use Rattle.plant.specs.declared.plant.PlantFields.{PlantFields}
use Rattle.run_model.specs.IsStateAfter.{CoreView}
use Rattle.plant_core.specs.live.After.{BehindEachRun}
use Rattle.plant_core.specs.live.Resting.{Rests}
use Rattle.snapshot_format.specs.declared.saved.Snapshot.{Snapshot}
use Rattle.snapshot_format.specs.States.{states_of}
use Rattle.plant_restart.specs.Restarted.{IsRestarted}
use Rattle.line_journal.specs.Journal.{JournalContent}
use Rattle.state_service.specs.durable.Durable.{AreLinesDone, IsKeptSnapshot, IsKeptState, IsLeading, StandsForState}
use Rattle.state_service.specs.resumed.Items.{asks_snapshot, SnapshotIsGiven}
use Rattle.state_service.specs.resumed.NewFrames.{asks_frame, NamesFrame, IsCoreRenumbered, frame_text}
use Rattle.state_service.specs.Commands.{AreNoCommands, IsRefusedCommand}
use Rattle.state_service.specs.Taking.{AreTakenSoFar, AreAllTaken}

-- ---- what a service has done

-- what a service has done at one time, by its kind
pub data Event : Type 0 where
  -- lines are done, none of which is a command, and this text answers them
  Done : (lines : List (List ℕ)) (text : List ℕ) → Event
  -- the state was saved, and the core goes on from it
  Saved : Event
  -- the state was saved for a line that requests a snapshot, and this text is the snapshot
  SnapshotGiven : (line text : List ℕ) → Event
  -- the state was saved under the number of a line, which the next frame has got
  NumberGiven : (line : List ℕ) (to : ℕ) → Event
  -- a command was refused: it was done as a line of a script, and this text answers it
  CommandRefused : (line text : List ℕ) → Event

-- the lines that were done, where the latest event comes first
abbrev pub lines_done : List Event → List (List ℕ)
lines_done [] = []
lines_done (Done lines text ∷ before) = lines_done before ++ lines
lines_done (Saved ∷ before) = lines_done before
lines_done (SnapshotGiven line text ∷ before) = lines_done before ++ line ∷ []
lines_done (NumberGiven line to ∷ before) = lines_done before ++ line ∷ []
lines_done (CommandRefused line text ∷ before) = lines_done before ++ line ∷ []

-- the text that answers them
abbrev pub text_told : List Event → List ℕ
text_told [] = []
text_told (Done lines text ∷ before) = text_told before ++ text
text_told (Saved ∷ before) = text_told before
text_told (SnapshotGiven line text ∷ before) = text_told before ++ text
text_told (NumberGiven line to ∷ before) = text_told before ++ frame_text to
text_told (CommandRefused line text ∷ before) = text_told before ++ text

-- a core is in the state that was read of what is kept of another one, with this plant file, after so many lines
pub record GoesOnFromState (file : List ℕ) (count : ℕ) (old live : CoreView) : Type 0 where
  pub snapshot : List (List ℕ)
  pub plant : PlantFields
  pub read : Snapshot
  pub kept : IsKeptState old file count snapshot plant read
  pub is_restarted : IsRestarted plant read.frame (states_of read) live

-- a core is in the state that was read of what is kept of another one under the number of a line, which its next frame can get
pub record GoesOnUnderNumber (file : List ℕ) (count : ℕ) (line : List ℕ) (to : ℕ) (old live : CoreView) : Type 0 where
  pub requests : asks_frame line ≡ true
  pub names : NamesFrame line to
  pub other : Snapshot
  pub renumbered : IsCoreRenumbered file old to other
  pub snapshot : List (List ℕ)
  pub plant : PlantFields
  pub read : Snapshot
  pub kept : IsKeptSnapshot other count snapshot plant read
  pub is_restarted : IsRestarted plant read.frame (states_of read) live

-- after whatever run led to a core, these lines are done next, after so many lines, and lead to another one; this text answers them
abbrev pub AreDoneNext : CoreView → ℕ → List (List ℕ) → CoreView → List ℕ → Type 0
AreDoneNext old count lines live text = BehindEachRun old (λ plant start steps shown. AreLinesDone plant start steps shown (count + 1) lines live text)

-- under this plant file, after so many lines, and these events, the first core has become this one
abbrev pub LeadOn : List ℕ → CoreView → ℕ → List Event → CoreView → Type 0
LeadOn file first count [] live = live ≡ first
LeadOn file first count (Done lines text ∷ before) live = (old : CoreView) × LeadOn file first count before old
    × AreNoCommands lines × AreDoneNext old (count + length (lines_done before)) lines live text
LeadOn file first count (Saved ∷ before) live = (old : CoreView) × LeadOn file first count before old
    × GoesOnFromState file (count + length (lines_done before)) old live
LeadOn file first count (SnapshotGiven line text ∷ before) live = (old : CoreView) × LeadOn file first count before old
    × (asks_snapshot line ≡ true) × SnapshotIsGiven file old text × GoesOnFromState file (count + length (lines_done before) + 1) old live
LeadOn file first count (NumberGiven line to ∷ before) live = (old : CoreView) × LeadOn file first count before old
    × GoesOnUnderNumber file (count + length (lines_done before) + 1) line to old live
LeadOn file first count (CommandRefused line text ∷ before) live = (old : CoreView) × LeadOn file first count before old
    × IsRefusedCommand file old line × AreDoneNext old (count + length (lines_done before)) (line ∷ []) live text

-- ---- a service that goes on from a core

-- these lines of the input are done and answered, and of the next one this part is read
pub record IsServing (file : List ℕ) (first : CoreView) (count : ℕ) (input rest part : List ℕ) (live : CoreView) (now : ℕ) (old new : Option (List ℕ)) : Type 0 where
  pub events : List Event
  pub lead : LeadOn file first count events live
  pub count_is : now ≡ count + length (lines_done events)
  pub taken : AreTakenSoFar input rest (lines_done events) part
  pub written : Appends old new (text_told events)

-- and the line after them is read too
pub record IsAtLine (line : List ℕ) (file : List ℕ) (first : CoreView) (count : ℕ) (input rest part : List ℕ) (live : CoreView) (now : ℕ) (old new : Option (List ℕ)) : Type 0 where
  pub events : List Event
  pub lead : LeadOn file first count events live
  pub count_is : now ≡ count + length (lines_done events)
  pub taken : AreTakenSoFar input rest (lines_done events ++ line ∷ []) part
  pub written : Appends old new (text_told events)

-- the lines of the events are all lines of the input, and what is written is their answers
pub record HasServed (file : List ℕ) (first : CoreView) (count : ℕ) (input : List ℕ) (live : CoreView) (now : ℕ) (old new : Option (List ℕ)) : Type 0 where
  pub events : List Event
  pub lead : LeadOn file first count events live
  pub count_is : now ≡ count + length (lines_done events)
  pub taken : AreAllTaken input (lines_done events)
  pub written : Appends old new (text_told events)

-- ---- what the journal has

-- the journal leads to this core, and so many lines are done then
abbrev pub LeadsHere : Option JournalContent → CoreView → ℕ → Type 0
LeadsHere content live count = (plant : PlantFields) × IsLeading content plant live count

-- the journal has a state and the lines since, so many with those before the state
pub record HasLines (content : Option JournalContent) (count : ℕ) : Type 0 where
  pub before : ℕ
  pub plant : PlantFields
  pub saved : Snapshot
  pub lines : List (List ℕ)
  pub stands : StandsForState content before plant saved lines
  pub count_is : count ≡ before + length lines

-- it has a state, and no fewer lines than these
pub record HasNoFewer (least : ℕ) (content : Option JournalContent) : Type 0 where
  pub count : ℕ
  pub has : HasLines content count
  pub enough : least ≤ count

-- it is as before, or it has a state and no fewer lines than before
pub record LosesNoLine (before after : Option JournalContent) : Type 0 where
  pub least : ℕ
  pub had : HasLines before least ⊎ ((before ≡ None) × (least ≡ 0))
  pub has : HasNoFewer least after

-- ---- the first line of the output

-- the frame before which a core rests, if it does
abbrev pub IsRestFrame : CoreView → Option ℕ → Type 0
IsRestFrame live (Some frame) = Rests live frame
IsRestFrame live None = (frame : ℕ) → Rests live frame → ⊥

-- the frame of the first line: none where the core does not rest
abbrev pub rest_text : Option ℕ → List ℕ
rest_text None = []
rest_text (Some frame) = codes " frame " ++ decimal frame

-- the line that says with which line a service goes on, and before which frame
abbrev pub greeting : ℕ → Option ℕ → List ℕ
greeting number frame = codes "S line " ++ (decimal number ++ (rest_text frame ++ 10 ∷ []))
