-- The core that a service leads to, and what is made of it (implementation-specific).
use Rattle.std.specs.Prelude.{◌≡◌, ⊤, ℕ, List, Option, IfSome, option_map, slice_get}
use Rattle.std.specs.Io.KnownBytes.{Appends}
use Rattle.plant.specs.declared.operator_row.RowFields.{RowFields}
use Rattle.plant.specs.declared.plant.PlantFields.{PlantFields}
use Rattle.run_model.specs.IsStateAfter.{CoreView}
use Rattle.plant_core.specs.declared.live.rest_fault.RestFault.{RestFault}
use Rattle.plant_core.specs.declared.live.rest_fault.RestFault.TheVariants.{FrameWaits, NotAtFrame}
use Rattle.plant_core.specs.live.Resting.{Rests, IsRestFault}
use Rattle.line_service.specs.script.Lines.{lines_of}
use Rattle.snapshot_format.specs.declared.saved.Snapshot.{Snapshot}
use Rattle.state_service.specs.declared.resumed.last_state.AtEnd.{AtEnd}
use Rattle.state_service.specs.declared.resumed.last_state.AtEnd.TheVariants as asked
use Rattle.state_service.specs.declared.resumed.last_state.LastState.{LastState}
use Rattle.state_service.specs.declared.resumed.last_state.LastState.TheVariants.{Saved, Unfinished, NoSnapshot}
use Rattle.state_service.specs.declared.resumed.last_state.BegunEnd.{BegunEnd}
use Rattle.state_service.specs.declared.resumed.last_state.BegunEnd.TheVariants.{Served, NotBegun}
use Rattle.state_service.specs.resumed.Beginning.{IsRestoringFault}
use Rattle.state_service.specs.resumed.Items.{InService, IsRunSoFarOf, ItemAnswer, AreItemAnswers, SnapshotIsGiven, after_items, texts_of}
use Rattle.state_service.specs.resumed.Resumed.{resumed_service}

-- all items of an input are answered from a first run on, and the run after them led to this core
pub record ArePerformed (first : InService) (input : List ℕ) (live : CoreView) : Type 0 where
  pub answers : List ItemAnswer
  pub answer : AreItemAnswers first 1 (lines_of input) answers
  pub leads : IsRunSoFarOf (after_items first answers).run live

-- the operator because of which a core does not rest
abbrev pub restless_operator : RestFault → ℕ
restless_operator (FrameWaits op) = op
restless_operator (NotAtFrame op) = op

-- the name of the operator at this place
abbrev pub name_at : List RowFields → ℕ → Option (List ℕ)
name_at rows op = option_map (λ row. row.name) (slice_get rows op)

-- the core rests before no frame, for this reason, and because of the operator of this name
pub record IsRestless (live : CoreView) (why : RestFault) (operator : Option (List ℕ)) : Type 0 where
  pub is_fault : IsRestFault live why
  pub rests_nowhere : (frame : ℕ) → Rests live frame → ⊥
  pub operator_is : operator ≡ name_at live.plant.rows (restless_operator why)

-- what is made of a core, with the text of its plant file
abbrev pub IsLastState : AtEnd → List ℕ → CoreView → LastState → Type 0
IsLastState asked.Nothing file live last = ⊤
IsLastState asked.Snapshot file live (Saved text) = SnapshotIsGiven file live text.items
IsLastState asked.Snapshot file live (Unfinished why operator) = IsRestless live why operator
IsLastState asked.Snapshot file live NoSnapshot = (frame : ℕ) × Rests live frame

-- all items are answered, their answers are written, and this is made of the core after them
pub record IsServedTo (first : InService) (input : List ℕ) (old new : Option (List ℕ)) (at_end : AtEnd) (last : LastState) : Type 0 where
  pub live : CoreView
  pub performed : ArePerformed first input live
  pub written : Appends old new (texts_of performed.answers)
  pub last_is : IsLastState at_end (after_items first performed.answers).file live last

-- the plant serves its lines in the saved states; or it does not, for this reason, and nothing is written
abbrev pub EndsBegun : AtEnd → PlantFields → Snapshot → Option (List ℕ) → Option (List ℕ) → Option (List ℕ) → BegunEnd → Type 0
EndsBegun at_end plant saved read old new (Served last) = IfSome read (λ lines. IsServedTo (resumed_service plant saved) lines old new at_end last)
EndsBegun at_end plant saved read old new (NotBegun fault) = IsRestoringFault plant saved fault × (new ≡ old)
