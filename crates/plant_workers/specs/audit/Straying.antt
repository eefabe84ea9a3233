-- Where a run is not what its steps make of its plant (implementation-specific).
use Rattle.std.specs.Prelude.{◌≡◌, ◌≢◌, ◌⊎◌, ℕ, ◌+◌, ◌<◌, List, take, slice_get, Some}
use Rattle.plant.specs.declared.operator_row.RowFields.{RowFields}
use Rattle.plant.specs.declared.plant.PlantFields.{PlantFields}
use Rattle.operator_model.specs.Replay.{BookView, actions_of}
use Rattle.run_model.specs.declared.step.Step.{Step}
use Rattle.run_model.specs.OwnSteps.{own_steps}
use Rattle.run_model.specs.IsStateAfter.{IsBookAfter}
use Rattle.run_model.specs.Places.{AtEachPlace}
use Rattle.plant_workers.specs.declared.receipts.run_fault.RunFault.{RunFault}
use Rattle.plant_workers.specs.declared.receipts.run_fault.RunFault.TheVariants.{Strayed, MapStrayed}
use Rattle.plant_workers.specs.declared.audit.placing.Placing.{Placing}
use Rattle.plant_workers.specs.audit.Placings.{AssemblyView, puts_of}
use Rattle.plant_workers.specs.audit.Outs.{due_of}

-- two lists differ first at this place: before it they are the same, and there they are not, or one ends
pub record DifferFirst {A : Type 0} (xs ys : List A) (place : ℕ) : Type 0 where
  pub before : take place xs ≡ take place ys
  pub there : slice_get xs place ≢ slice_get ys place

-- ---- histories

-- each operator's book is what its own machine makes of its own steps
abbrev pub AreOwnRuns : PlantFields → List Step → List BookView → Type 0
AreOwnRuns plant steps books = AtEachPlace plant.rows books (IsBookAfter plant steps)

-- a book is of another row, or of a plant with other constants
abbrev pub IsOfAnother : PlantFields → RowFields → BookView → Type 0
IsOfAnother plant row book = (book.row ≢ row) ⊎ (book.consts ≢ plant.consts)

-- an operator's history strays at this place: it is of another row or plant, and the place is 0; or its actions are not
-- the operator's own steps, from this place on
abbrev pub HistoryStraysAt : PlantFields → List Step → ℕ → RowFields → BookView → ℕ → Type 0
HistoryStraysAt plant steps i row book index =
    (IsOfAnother plant row book × (index ≡ 0))
    ⊎ ((book.row ≡ row) × (book.consts ≡ plant.consts)
    × DifferFirst (actions_of book.history) (own_steps row i steps) index)

-- the least operator whose history strays, and where it does
pub record IsStrayHistory (plant : PlantFields) (steps : List Step) (books : List BookView) (op index : ℕ) : Type 0 where
  pub row : RowFields
  pub book : BookView
  pub row_is : slice_get plant.rows op ≡ Some row
  pub book_is : slice_get books op ≡ Some book
  pub strays : HistoryStraysAt plant steps op row book index
  pub before : (i : ℕ) (other : RowFields) (earlier : BookView) → i < op → slice_get plant.rows i ≡ Some other
      → slice_get books i ≡ Some earlier → IsBookAfter plant steps i other earlier

-- ---- puts

-- each operator put just the frames of its history that the Collects of the steps take, in order
abbrev pub ArePut : List Step → List BookView → List Placing → Type 0
ArePut steps books placings =
    (i : ℕ) (book : BookView) → slice_get books i ≡ Some book → puts_of i placings ≡ due_of steps i book

-- the first frame of which a put is missing, extra, or not the frame of the history: before it each operator put what
-- is due, and of it one operator did not
pub record IsPutStray (first_frame : ℕ) (steps : List Step) (books : List BookView) (placings : List Placing)
    (frame : ℕ) : Type 0 where
  pub place : ℕ
  pub frame_is : frame ≡ first_frame + place
  pub before : (i : ℕ) (book : BookView) → slice_get books i ≡ Some book
      → take place (puts_of i placings) ≡ take place (due_of steps i book)
  pub op : ℕ
  pub book : BookView
  pub book_is : slice_get books op ≡ Some book
  pub there : slice_get (puts_of op placings) place ≢ slice_get (due_of steps op book) place

-- an assembly strays at this frame: it is another plant's, and the frame is the first one; or what was put is not what
-- was due
abbrev pub IsMapStray : PlantFields → List Step → List BookView → AssemblyView → ℕ → Type 0
IsMapStray plant steps books assembly frame =
    ((assembly.plant ≢ plant) × (frame ≡ plant.consts.channel.first_frame))
    ⊎ ((assembly.plant ≡ plant) × IsPutStray plant.consts.channel.first_frame steps books assembly.placings frame)

-- ---- both

-- what is found where a run is not as it should be: histories that stray are reported before MAPs that do; no other fault is
-- reported
abbrev pub IsFound : PlantFields → List Step → List BookView → AssemblyView → RunFault → Type 0
IsFound plant steps books assembly (Strayed op index) = IsStrayHistory plant steps books op index
IsFound plant steps books assembly (MapStrayed frame) =
    AreOwnRuns plant steps books × IsMapStray plant steps books assembly frame
IsFound plant steps books assembly fault = ⊥
