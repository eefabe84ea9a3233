-- What a journal stands for: a saved state, and the lines of a service that were done since (implementation-specific).
use Rattle.std.specs.Prelude.{◌≡◌, ◌≢◌, ℕ, ◌+◌, List, [], ◌∷◌, ◌++◌, length, Option, Some, Ok, All, codes}
use Rattle.std.specs.Fmt.{decimal}
use Rattle.std.specs.List.{flat_map}
use Rattle.toml.specs.Parse.{parse_document}
use Rattle.plant.specs.declared.plant.PlantFields.{PlantFields}
use Rattle.slice_table.specs.ReadPlant.{text_plant}
use Rattle.run_model.specs.Starts.{Start}
use Rattle.run_model.specs.IsStateAfter.{CoreView}
use Rattle.run_model.specs.declared.step.Step.{Step}
use Rattle.run_model.specs.declared.step.Out.{Out}
use Rattle.plant_core.specs.live.After.{IsAfterFrom}
use Rattle.line_service.specs.declared.line_outcome.LineOutcome.TheVariants.{NoMemory}
use Rattle.line_service.specs.Service.{LineRun, IsAnswer, answer_text, AreAnswered, all_done, all_told, service_text}
use Rattle.snapshot_format.specs.declared.saved.Snapshot.{Snapshot}
use Rattle.snapshot_format.specs.Snapshot.{snapshot_of}
use Rattle.snapshot_format.specs.States.{states_of}
use Rattle.plant_restart.specs.ByName.{start_by_name}
use Rattle.snapshot_format.specs.Text.{text_of_snapshot}
use Rattle.plant_restart.specs.Saving.{IsCoreSnapshot}
use Rattle.line_journal.specs.Journal.{JournalContent}

-- ---- a saved state as lines

-- the first line: so many lines were done before
abbrev pub count_line : ℕ → List ℕ
count_line count = codes "line " ++ decimal count

-- lines as a text, each with its line feed
abbrev pub joined_text : List (List ℕ) → List ℕ
joined_text lines = flat_map (λ line. line ++ 10 ∷ []) lines

-- these lines say that so many lines were done before, and after the first of them the text of these states, whose plant file is of this
-- plant
pub record SaysState (snapshot : List (List ℕ)) (count : ℕ) (plant : PlantFields) (saved : Snapshot) : Type 0 where
  pub lines : List (List ℕ)
  pub lines_are : snapshot ≡ count_line count ∷ lines
  pub says : snapshot_of (joined_text lines) ≡ Ok saved
  pub plant_is : text_plant (parse_document saved.plant) ≡ Ok plant

-- each operator starts in the state that is saved under its name
abbrev pub saved_start : PlantFields → Snapshot → Start
saved_start plant saved = start_by_name plant saved.frame (states_of saved)

-- no operator is saved, before the plant's first frame: the plant of this file is opened
pub record IsOpeningState (file : List ℕ) (plant : PlantFields) (saved : Snapshot) : Type 0 where
  pub file_is : saved.plant ≡ file
  pub frame_is : saved.frame ≡ plant.consts.channel.first_frame
  pub none_saved : saved.operators ≡ []

-- ---- lines that are done

-- After these steps and outputs all of these lines are answered, for none of them memory ran out, this is the core then, and this the text
-- of the answers.
pub record AreLinesDone (plant : PlantFields) (start : Start) (before : List Step) (shown : List Out) (number : ℕ) (lines : List (List ℕ)) (live : CoreView) (text : List ℕ) : Type 0 where
  pub answers : List LineRun
  pub answered : AreAnswered plant start before shown number lines answers
  pub enough : All (λ answered. answered.end ≢ NoMemory) answers
  pub after : IsAfterFrom plant start (before ++ all_done answers) (shown ++ all_told answers) live
  pub text_is : text ≡ service_text plant number answers

-- one line is done, and its answer added to a text
pub record LineIsDone (plant : PlantFields) (start : Start) (before : List Step) (shown : List Out) (number : ℕ) (line : List ℕ) (live : CoreView) (old new : List ℕ) : Type 0 where
  pub answered : LineRun
  pub is : IsAnswer plant start before shown number line live answered
  pub enough : answered.end ≢ NoMemory
  pub added : new ≡ old ++ answer_text plant number answered

-- lines are done, and their answers added
pub record LinesAreDone (plant : PlantFields) (start : Start) (before : List Step) (shown : List Out) (number : ℕ) (lines : List (List ℕ)) (live : CoreView) (old new : List ℕ) : Type 0 where
  pub text : List ℕ
  pub done : AreLinesDone plant start before shown number lines live text
  pub added : new ≡ old ++ text

-- ---- what a journal leads to

-- The lines since the saved state, done one after the other from it, lead to this core, and so many lines are done then.
pub record LeadsTo (content : JournalContent) (plant : PlantFields) (live : CoreView) (count : ℕ) : Type 0 where
  pub before : ℕ
  pub saved : Snapshot
  pub state : SaysState content.snapshot before plant saved
  pub text : List ℕ
  pub done : AreLinesDone plant (saved_start plant saved) [] [] (before + 1) content.lines live text
  pub count_is : count ≡ before + length content.lines

-- the file stands for a saved state and lines that lead there
pub record IsLeading (content : Option JournalContent) (plant : PlantFields) (live : CoreView) (count : ℕ) : Type 0 where
  pub stored : JournalContent
  pub stands_for : content ≡ Some stored
  pub leads : LeadsTo stored plant live count

-- the file stands for this saved state, and for these lines since
pub record StandsForState (content : Option JournalContent) (count : ℕ) (plant : PlantFields) (saved : Snapshot) (lines : List (List ℕ)) : Type 0 where
  pub snapshot : List (List ℕ)
  pub stands_for : content ≡ Some (record { snapshot = snapshot; lines = lines })
  pub says : SaysState snapshot count plant saved

-- the file stands for a journal that was begun with this plant file, whose plant it opens, and that has no line
pub record IsBegunWith (file : List ℕ) (content : Option JournalContent) : Type 0 where
  pub plant : PlantFields
  pub saved : Snapshot
  pub stands : StandsForState content 0 plant saved []
  pub opens : IsOpeningState file plant saved

-- ---- a state that is to be kept

-- These lines are a snapshot as a text, with so many lines before it. What is read of them is this plant with these states.
pub record IsKeptSnapshot (saved : Snapshot) (count : ℕ) (snapshot : List (List ℕ)) (plant : PlantFields) (read : Snapshot) : Type 0 where
  pub lines : List (List ℕ)
  pub lines_are : snapshot ≡ count_line count ∷ lines
  pub text_is : joined_text lines ≡ text_of_snapshot saved
  pub says : SaysState snapshot count plant read

-- these lines are the state of this core after so many lines
pub record IsKeptState (live : CoreView) (file : List ℕ) (count : ℕ) (snapshot : List (List ℕ)) (plant : PlantFields) (read : Snapshot) : Type 0 where
  pub saved : Snapshot
  pub of_core : IsCoreSnapshot live file saved
  pub kept : IsKeptSnapshot saved count snapshot plant read
