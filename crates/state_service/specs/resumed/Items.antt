-- The items of a service that begins with a snapshot, and their answers (implementation-specific): lines of a script, requests for a
-- snapshot, plant files to which the plant is changed, and other numbers for its frames.
use Rattle.std.specs.Prelude.{◌≡◌, ◌⊎◌, ℕ, ◌+◌, List, [], ◌∷◌, ◌++◌, drop, Bool, true, false, Option, ⊤, if◌then◌else◌, codes}
use Rattle.std.specs.Fmt.{decimal}
use Rattle.std.specs.Io.KnownBytes.{Appends}
use Rattle.std.specs.List.{AllByRecursion, flat_map}
use Rattle.std.specs.Str.{bytes_eq}
use Rattle.plant.specs.declared.plant.PlantFields.{PlantFields}
use Rattle.run_model.specs.IsStateAfter.{CoreView}
use Rattle.run_model.specs.Changing.{RunSoFar, IsPlantChange, AreChanges}
use Rattle.plant_core.specs.live.After.{IsAfterFrom}
use Rattle.plant_core.specs.live.Resting.{Rests}
use Rattle.line_service.specs.script.Lines.{lines_of}
use Rattle.snapshot_format.specs.declared.saved.Snapshot.{Snapshot}
use Rattle.snapshot_format.specs.States.{states_of}
use Rattle.snapshot_format.specs.Text.{text_of_snapshot}
use Rattle.line_service.specs.declared.line_outcome.LineOutcome.TheVariants.{AtFault, NoMemory}
use Rattle.line_service.specs.Service.{LineRun, IsAnswer, answer_text, end_text}
use Rattle.plant_restart.specs.ByName.{start_by_name}
use Rattle.state_service.specs.declared.resumed.new_frame_fault.NewFrameFault.{NewFrameFault}
use Rattle.state_service.specs.declared.resumed.new_plant_fault.NewPlantFault.{NewPlantFault}
use Rattle.state_service.specs.resumed.PlantFiles.{file_text, lines_taken, IsFileOf}
use Rattle.state_service.specs.resumed.NewPlants.{IsNewPlantFault, refusal_text}
use Rattle.state_service.specs.resumed.Renumbering.{IsRunRenumbered, AreRuns}
use Rattle.state_service.specs.resumed.NewFrames.{asks_frame, NamesFrame, saved_core, IsCoreRenumbered, IsNewFrameFault, frame_text, frame_refusal_text}

-- ---- what goes on from item to item

-- the run so far, and the text of the plant file in force
pub record InService : Type 0 where
  pub run : RunSoFar
  pub file : List ℕ

-- the run led to this live core
abbrev pub IsRunSoFarOf : RunSoFar → CoreView → Type 0
IsRunSoFarOf run live = IsAfterFrom run.plant run.start run.steps run.outs live

-- the answer to an item of the input: how many lines the item has, what goes on after it, whether another run begins with it, whether
-- that run has other frame numbers, and the text that is written
pub record ItemAnswer : Type 0 where
  pub lines : ℕ
  pub next : InService
  pub changes : Bool
  pub renumbers : Bool
  pub text : List ℕ

-- ---- the kinds of items

-- the line `K` requests a snapshot
abbrev pub asks_snapshot : List ℕ → Bool
asks_snapshot line = bytes_eq line (codes "K")

-- the line `P` begins a plant file
abbrev pub begins_plant : List ℕ → Bool
begins_plant line = bytes_eq line (codes "P")

-- ---- a line of a script

-- a line of a script is answered, and the run goes on
pub record IsLineAnswer (old : InService) (number : ℕ) (line : List ℕ) (answer : ItemAnswer) : Type 0 where
  pub live : CoreView
  pub answered : LineRun
  pub is : IsAnswer old.run.plant old.run.start old.run.steps old.run.outs number line live answered
  pub no_plant : begins_plant line ≡ false
  pub no_snapshot : asks_snapshot line ≡ false
  pub no_frame : asks_frame line ≡ false
  pub one : answer.lines ≡ 1
  pub on : answer.changes ≡ false
  pub same_numbers : answer.renumbers ≡ false
  pub next_is : answer.next ≡ record { run = record old.run { steps = old.run.steps ++ answered.done; outs = old.run.outs ++ answered.told }; file = old.file }
  pub text_is : answer.text ≡ answer_text old.run.plant number answered

-- ---- a change of the plant

-- the frame before which the plant rests
abbrev pub change_text : ℕ → List ℕ
change_text frame = codes "P frame " ++ (decimal frame ++ 10 ∷ [])

-- the line `P`, where the plant is changed: the lines after it begin with a plant file, and the plant is changed to its plant
pub record IsChangeAnswer (old : InService) (line : List ℕ) (lines : List (List ℕ)) (answer : ItemAnswer) : Type 0 where
  pub live : CoreView
  pub begins : begins_plant line ≡ true
  pub taken : answer.lines ≡ 1 + lines_taken lines
  pub is_file : IsFileOf lines answer.next.run.plant
  pub new : answer.changes ≡ true
  pub same_numbers : answer.renumbers ≡ false
  pub changed : IsPlantChange old.run answer.next.run
  pub leads : IsRunSoFarOf answer.next.run live
  pub file_is : answer.next.file ≡ file_text lines
  pub text_is : answer.text ≡ change_text answer.next.run.start.frame

-- the line `P`, where the plant is not changed, for this reason
pub record IsRefusedChange (old : InService) (number : ℕ) (line : List ℕ) (lines : List (List ℕ)) (answer : ItemAnswer) : Type 0 where
  pub live : CoreView
  pub leads : IsRunSoFarOf old.run live
  pub begins : begins_plant line ≡ true
  pub taken : answer.lines ≡ 1 + lines_taken lines
  pub fault : NewPlantFault
  pub is : IsNewPlantFault live lines fault
  pub text_is : answer.text ≡ refusal_text number fault

-- ---- other frame numbers

-- the run that begins with a snapshot, whose operators go on in the states that are saved under their names
abbrev pub begun_from : PlantFields → Snapshot → RunSoFar
begun_from plant saved = record { plant = plant; start = start_by_name plant saved.frame (states_of saved); steps = []; outs = [] }

-- the line `N`, where the next frame gets the number: the same plant goes on from its snapshot under that number
pub record IsFrameAnswer (old : InService) (line : List ℕ) (answer : ItemAnswer) : Type 0 where
  pub live : CoreView
  pub leads : IsRunSoFarOf old.run live
  pub requests : asks_frame line ≡ true
  pub one : answer.lines ≡ 1
  pub other : Snapshot
  pub names : NamesFrame line other.frame
  pub renumbered : IsCoreRenumbered old.file live other.frame other
  pub new : answer.changes ≡ true
  pub other_numbers : answer.renumbers ≡ true
  pub changed : IsRunRenumbered old.run answer.next.run
  pub next_is : answer.next ≡ record { run = begun_from old.run.plant other; file = old.file }
  pub after : CoreView
  pub leads_on : IsRunSoFarOf answer.next.run after
  pub text_is : answer.text ≡ frame_text other.frame

-- the line `N`, where the next frame does not get the number, for this reason
pub record IsRefusedFrame (old : InService) (number : ℕ) (line : List ℕ) (answer : ItemAnswer) : Type 0 where
  pub live : CoreView
  pub leads : IsRunSoFarOf old.run live
  pub requests : asks_frame line ≡ true
  pub one : answer.lines ≡ 1
  pub fault : NewFrameFault
  pub is : IsNewFrameFault old.file live line fault
  pub text_is : answer.text ≡ frame_refusal_text number fault

-- ---- a snapshot

-- the text of a snapshot of a core that rests before this frame: the text of the plant file, and the state of each operator, in the
-- order of the rows
abbrev pub core_snapshot : List ℕ → CoreView → ℕ → List ℕ
core_snapshot file live frame = text_of_snapshot (saved_core file live frame)

-- the core rests before a frame, and its snapshot is written
pub record SnapshotIsGiven (file : List ℕ) (live : CoreView) (text : List ℕ) : Type 0 where
  pub frame : ℕ
  pub rests : Rests live frame
  pub text_is : text ≡ core_snapshot file live frame

-- so it is; or the core rests and an allocation failed, or the core rests before no frame
abbrev pub SnapshotIsAnswered : List ℕ → CoreView → ℕ → List ℕ → Type 0
SnapshotIsAnswered file live number text =
    SnapshotIsGiven file live text
    ⊎ (((text ≡ end_text number NoMemory) × ((frame : ℕ) × Rests live frame))
    ⊎ ((text ≡ end_text number AtFault) × ((frame : ℕ) → Rests live frame → ⊥)))

-- the line `K` is answered by a snapshot, or by why there is none
pub record IsSnapshotOf (old : InService) (number : ℕ) (line : List ℕ) (answer : ItemAnswer) : Type 0 where
  pub live : CoreView
  pub leads : IsRunSoFarOf old.run live
  pub requests : asks_snapshot line ≡ true
  pub one : answer.lines ≡ 1
  pub answered : SnapshotIsAnswered old.file live number answer.text

-- ---- all items

-- the run and the plant file stay as they are
pub record IsNoChange (old : InService) (number : ℕ) (line : List ℕ) (lines : List (List ℕ)) (answer : ItemAnswer) : Type 0 where
  pub on : answer.changes ≡ false
  pub same_numbers : answer.renumbers ≡ false
  pub next_is : answer.next ≡ old
  pub why : IsSnapshotOf old number line answer ⊎ (IsRefusedChange old number line lines answer ⊎ IsRefusedFrame old number line answer)

-- a run goes on, or another one begins, or nothing changes
abbrev pub IsItemAnswer : InService → ℕ → List ℕ → List (List ℕ) → ItemAnswer → Type 0
IsItemAnswer old number line lines answer =
    IsLineAnswer old number line answer
    ⊎ (IsChangeAnswer old line lines answer ⊎ (IsFrameAnswer old line answer ⊎ IsNoChange old number line lines answer))

-- all items are answered, each after the one before it
abbrev pub AreItemAnswers : InService → ℕ → List (List ℕ) → List ItemAnswer → Type 0
AreItemAnswers old number [] [] = ⊤
AreItemAnswers old number [] (answer ∷ more) = ⊥
AreItemAnswers old number (line ∷ lines) [] = ⊥
AreItemAnswers old number (line ∷ lines) (answer ∷ more) =
    IsItemAnswer old number line lines answer × AreItemAnswers answer.next (number + answer.lines) (drop answer.lines (line ∷ lines)) more

-- what goes on after all items
abbrev pub after_items : InService → List ItemAnswer → InService
after_items old [] = old
after_items old (answer ∷ more) = after_items answer.next more

-- the answers to all items, in order
abbrev pub texts_of : List ItemAnswer → List ℕ
texts_of answers = flat_map (λ answer. answer.text) answers

-- the whole service: all items of the input are answered from a first run on, and their answers are written
pub record IsServedFrom (first : InService) (input : List ℕ) (old new : Option (List ℕ)) : Type 0 where
  pub answers : List ItemAnswer
  pub answer : AreItemAnswers first 1 (lines_of input) answers
  pub written : Appends old new (texts_of answers)

-- ---- the laws

-- the run up to the first change of plant or of frame numbers, and the runs after it
abbrev pub first_period : RunSoFar → List ItemAnswer → RunSoFar
first_period run [] = run
first_period run (answer ∷ more) = if answer.changes then run else first_period answer.next.run more

-- the runs after the first change of plant or of frame numbers, in order
abbrev pub later_periods : RunSoFar → List ItemAnswer → List RunSoFar
later_periods run [] = []
later_periods run (answer ∷ more) = if answer.changes then first_period answer.next.run more ∷ later_periods answer.next.run more else later_periods answer.next.run more

-- the runs of a service are changes of plant and of frame numbers
abbrev pub ServiceIsOfRuns : Type 0
ServiceIsOfRuns = (first : InService) (live : CoreView) (input : List ℕ) (old new : Option (List ℕ)) → IsRunSoFarOf first.run live → (served : IsServedFrom first input old new)
    → AreRuns (first_period first.run served.answers) (later_periods first.run served.answers)

-- no answer gives frames other numbers
abbrev pub KeepNumbers : List ItemAnswer → Type 0
KeepNumbers answers = AllByRecursion (λ answer. answer.renumbers ≡ false) answers

-- Where none does, the runs are changes of plant as `kept_rows_go_through` takes them, so `changes_are_not_noticed` holds of a service.
abbrev pub ServiceIsOfChanges : Type 0
ServiceIsOfChanges = (first : InService) (live : CoreView) (input : List ℕ) (old new : Option (List ℕ)) → IsRunSoFarOf first.run live → (served : IsServedFrom first input old new)
    → KeepNumbers served.answers → AreChanges (first_period first.run served.answers) (later_periods first.run served.answers)
