-- What one step makes of a core (implementation-specific).
use Rattle.std.specs.Prelude.{◌≡◌, ℕ, List, [], ◌∷◌, ◌++◌, map, length, AllPairs, slice_get, slice_set, false, Option, Some, None}
use Rattle.slice_scheduler.specs.declared.elements.ElementsFields.{ElementsFields}
use Rattle.slice_scheduler.specs.Minislots.{slices_overlap}
use Rattle.plant.specs.Roster.{holder}
use Rattle.operator_model.specs.declared.action.SliceRow.{SliceRow}
use Rattle.operator_model.specs.declared.action.Action.{Action}
use Rattle.operator_model.specs.declared.action.Action.TheVariants as actions
use Rattle.operator_model.specs.Machine.{own_step, unfit_from, IsAllowed}
use Rattle.operator_model.specs.Replay.{BookView, operator_of_book, book_after_action}
use Rattle.map_assembly.specs.declared.map_bytes.MapBytes.{MapBytes}
use Rattle.map_assembly.specs.Gathering.{after_put, put_fault, gathering_after_reslice}
use Rattle.map_assembly.specs.Assembled.{IsPutResult}
use Rattle.run_model.specs.declared.step.Step.{Step}
use Rattle.run_model.specs.declared.step.Step.TheVariants as steps
use Rattle.run_model.specs.declared.step.Out.{Out}
use Rattle.run_model.specs.declared.step.Out.TheVariants as outs
use Rattle.run_model.specs.OwnSteps.{outputs_under, slice_of}
use Rattle.run_model.specs.IsStateAfter.{CoreView, frames_of}
use Rattle.run_model.specs.Places.{AtEachPlace}

-- the operator at place i acts by its own machine, its frames wait to be collected, and all else is as it was
pub record Acts (i : ℕ) (action : Action) (old new : CoreView) (now : List Out) : Type 0 where
  pub book : BookView
  pub waiting : List (ℕ × ElementsFields)
  pub book_is : slice_get old.books i ≡ Some book
  pub waiting_is : slice_get old.queues i ≡ Some waiting
  pub allowed : IsAllowed (operator_of_book book) action
  pub new_is : new ≡ record old {
    books = slice_set old.books i (book_after_action book action);
    queues = slice_set old.queues i (waiting ++ frames_of (own_step (operator_of_book book) action).outputs);
  }
  pub now_is : now ≡ outputs_under i (own_step (operator_of_book book) action).outputs

-- the output of a MAP, where one is made
abbrev pub told_map : Option MapBytes → List Out
told_map None = []
told_map (Some made) = outs.Map made ∷ []

-- the oldest frame of the operator at place i that waits is put, and gives a MAP where it is the last of its frame
pub record Collects (i : ℕ) (old new : CoreView) (now : List Out) : Type 0 where
  pub frame : ℕ
  pub part : ElementsFields
  pub waiting : List (ℕ × ElementsFields)
  pub waiting_is : slice_get old.queues i ≡ Some ((frame, part) ∷ waiting)
  pub fits : put_fault old.gathering i frame part ≡ None
  pub made : Option MapBytes
  pub made_is : IsPutResult old.gathering i frame part made
  pub new_is : new ≡ record old { queues = slice_set old.queues i waiting; gathering = after_put old.gathering i part }
  pub now_is : now ≡ told_map made

-- no two rows have a minislot in common, as a slice change requires
abbrev pub HaveSlicesApart : List SliceRow → Type 0
HaveSlicesApart rows = AllPairs (λ a b. slices_overlap (slice_of a) (slice_of b) ≡ false) rows

-- no book refuses its row, as a slice change requires
abbrev pub NoneRefuses : ℕ → List BookView → List SliceRow → Type 0
NoneRefuses from books rows = AtEachPlace rows books (λ i row book. unfit_from (operator_of_book book) from row ≡ None)

-- each operator takes its own row, and the assembly the slices, from that frame on
pub record Reslices (from : ℕ) (rows : List SliceRow) (old new : CoreView) (now : List Out) : Type 0 where
  pub one_each : length rows ≡ length old.books
  pub apart : HaveSlicesApart rows
  pub fit : NoneRefuses from old.books rows
  pub books : length new.books ≡ length old.books
  pub acted_is : AtEachPlace rows old.books (λ i row book. slice_get new.books i ≡ Some (book_after_action book (actions.Reslice from row)))
  pub plant_is : new.plant ≡ old.plant
  pub queues_are : new.queues ≡ old.queues
  pub gathering_is : new.gathering ≡ gathering_after_reslice old.gathering from (map slice_of rows)
  pub now_is : now ≡ []

-- what one step makes of a core, and its outputs: an Arrive goes to the operator whose row holds the modem, each other step to the operator
-- that it names, and a slice change to all
abbrev pub Steps : Step → CoreView → CoreView → List Out → Type 0
Steps (steps.Arrive modem heard) old new now = (i : ℕ) × (holder old.plant.rows modem ≡ Some i) × Acts i (actions.Arrive modem heard) old new now
Steps (steps.Work op) old new now = Acts op actions.Work old new now
Steps (steps.Tick op) old new now = Acts op actions.Tick old new now
Steps (steps.Collect op) old new now = Collects op old new now
Steps (steps.Reslice from rows) old new now = Reslices from rows old new now
