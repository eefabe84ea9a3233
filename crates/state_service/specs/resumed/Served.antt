-- A service up to some line of its input.
use Rattle.std.specs.Prelude.{◌≡◌, ℕ, ◌+◌, List, ◌∷◌, ◌++◌, drop, Bool, true, Option}
use Rattle.std.specs.Io.KnownBytes.{Appends}
use Rattle.plant.specs.declared.plant.PlantFields.{PlantFields}
use Rattle.plant.specs.Plant.{IsPlant}
use Rattle.run_model.specs.declared.step.Step.{Step}
use Rattle.run_model.specs.declared.step.Out.{Out}
use Rattle.run_model.specs.Starts.{Start}
use Rattle.run_model.specs.IsStateAfter.{CoreView}
use Rattle.line_service.specs.script.Lines.{lines_of}
use Rattle.line_service.specs.Lines.{lines_left}
use Rattle.line_service.specs.SoFar.{IsHeld}
use Rattle.snapshot_format.specs.declared.saved.Snapshot.{Snapshot}
use Rattle.line_service.specs.declared.line_break.LineBreak.{LineBreak}
use Rattle.state_service.specs.declared.resumed.new_plant.ItemOutcome.{ItemOutcome}
use Rattle.state_service.specs.declared.resumed.new_plant.ItemOutcome.TheVariants.{Answered, Awaits}
use Rattle.state_service.specs.declared.resumed.new_plant.WaitingItem.{WaitingItem}
use Rattle.state_service.specs.declared.resumed.new_plant.WaitingItem.TheVariants.{NewPlant, NewFrame}
use Rattle.state_service.specs.resumed.NewFrames.{asks_frame, NamesFrame, IsCoreRenumbered}
use Rattle.state_service.specs.resumed.PlantFiles.{file_text, lines_taken, IsFileOf, IsNumberAfter}
use Rattle.state_service.specs.resumed.Items.{InService, IsRunSoFarOf, ItemAnswer, begins_plant, IsItemAnswer, AreItemAnswers, SnapshotIsAnswered, after_items, texts_of}

-- a run so far, with the text of the plant file in force
abbrev pub in_service : List ℕ → PlantFields → Start → List Step → List Out → InService
in_service file plant start steps outs = record { run = record { plant = plant; start = start; steps = steps; outs = outs }; file = file }

-- a line is answered, and the answer written
pub record ItemIsAnswered (old : InService) (number : ℕ) (line : List ℕ) (live : CoreView) (before after : Option (List ℕ)) : Type 0 where
  pub answer : ItemAnswer
  pub is : (lines : List (List ℕ)) → IsItemAnswer old number line lines answer
  pub one : answer.lines ≡ 1
  pub same_file : answer.next.file ≡ old.file
  pub leads : IsRunSoFarOf answer.next.run live
  pub written : Appends before after answer.text

-- what the line `K` is answered is written
pub record WritesSnapshot (file : List ℕ) (live : CoreView) (number : ℕ) (before after : Option (List ℕ)) : Type 0 where
  pub text : List ℕ
  pub answered : SnapshotIsAnswered file live number text
  pub written : Appends before after text

-- Items up to some line are answered, and these lines are left: whatever answers them makes answers of the whole input, and leads to
-- the same.
pub record AreServedSoFar (first : InService) (input : List ℕ) (left : List (List ℕ)) (number : ℕ) (live : CoreView) (file : List ℕ) (before after : Option (List ℕ)) : Type 0 where
  pub now : InService
  pub text : List ℕ
  pub leads : IsRunSoFarOf now.run live
  pub file_is : now.file ≡ file
  pub goes_on : (more : List ItemAnswer) → AreItemAnswers now number left more
      → (all : List ItemAnswer) × AreItemAnswers first 1 (lines_of input) all × (texts_of all ≡ text ++ texts_of more)
      × (after_items first all ≡ after_items now more)
  pub written : Appends before after text

-- A line `P` and the plant file after it are read, and not answered yet. The file is valid.
pub record AwaitsPlant (first : InService) (input rest : List ℕ) (end : LineBreak) (number next : ℕ) (live : CoreView) (file text : List ℕ) (plant : PlantFields) (before after : Option (List ℕ)) : Type 0 where
  pub line : List ℕ
  pub lines : List (List ℕ)
  pub so_far : AreServedSoFar first input (line ∷ lines) number live file before after
  pub begins : begins_plant line ≡ true
  pub is_file : IsFileOf lines plant
  pub text_is : text ≡ file_text lines
  pub left : drop (lines_taken lines) lines ≡ lines_left end rest
  pub counted : IsNumberAfter end (number + 1 + lines_taken lines) next

-- A line is read, and held, and not answered yet.
pub record HoldsLine (first : InService) (input rest : List ℕ) (end : LineBreak) (number : ℕ) (live : CoreView) (file bytes : List ℕ) (is_long : Bool) (before after : Option (List ℕ)) : Type 0 where
  pub line : List ℕ
  pub so_far : AreServedSoFar first input (line ∷ lines_left end rest) number live file before after
  pub is_held : IsHeld bytes is_long line

-- A line `N` is read, and not answered yet. This is the core's snapshot under the number that it names.
pub record AwaitsFrame (first : InService) (input rest : List ℕ) (end : LineBreak) (number next : ℕ) (live : CoreView) (file : List ℕ) (other : Snapshot) (plant : PlantFields) (before after : Option (List ℕ)) : Type 0 where
  pub line : List ℕ
  pub so_far : AreServedSoFar first input (line ∷ lines_left end rest) number live file before after
  pub requests : asks_frame line ≡ true
  pub names : NamesFrame line other.frame
  pub renumbered : IsCoreRenumbered file live other.frame other
  pub plant_is : plant ≡ live.plant
  pub valid : IsPlant plant
  pub counted : IsNumberAfter end (number + 1) next

-- an item waits for a core of this plant
abbrev pub AwaitsCore : InService → List ℕ → List ℕ → LineBreak → ℕ → CoreView → List ℕ → WaitingItem → PlantFields → Option (List ℕ) → Option (List ℕ) → Type 0
AwaitsCore first input rest end number live file (NewPlant line) plant before after =
    AwaitsPlant first input rest end line.number number live file line.text.items plant before after
AwaitsCore first input rest end number live file (NewFrame line) plant before after =
    AwaitsFrame first input rest end line.number number live file line.saved plant before after

-- what is done of an item that was read
abbrev pub IsAfterItem : InService → List ℕ → List ℕ → LineBreak → ℕ → CoreView → List ℕ → Option (List ℕ) → Option (List ℕ) → ItemOutcome → Type 0
IsAfterItem first input rest end number live file before after Answered = AreServedSoFar first input (lines_left end rest) number live file before after
IsAfterItem first input rest end number live file before after (Awaits waiting plant) = AwaitsCore first input rest end number live file waiting plant before after
