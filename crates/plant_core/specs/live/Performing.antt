-- What a core without histories does (implementation-specific).
use Rattle.std.specs.Prelude.{◌≡◌, List, [], map}
use Rattle.operator_model.specs.declared.action.Action.{Action}
use Rattle.operator_model.specs.Machine.{own_step}
use Rattle.operator_model.specs.Replay.{BookView, operator_of_book}
use Rattle.map_assembly.specs.Gathering.{IsGathering}
use Rattle.map_assembly.specs.LettingGo.{GoesOnAlike}
use Rattle.run_model.specs.declared.step.Out.{Out}
use Rattle.run_model.specs.IsStateAfter.{CoreView}

-- a book of which the history is forgotten
abbrev pub forgotten : BookView → BookView
forgotten book = record { row = book.row; consts = book.consts; state = book.state; history = [] }

-- a book without its history after an action
abbrev pub went : BookView → Action → BookView
went book action = record {
  row = book.row;
  consts = book.consts;
  state = (own_step (operator_of_book book) action).state;
  history = [];
}

-- this is what a live core keeps of a core: its books without their histories, its frames that wait, and what is gathered but
-- for slices that no frame to come needs
pub record IsOf (live core : CoreView) : Type 0 where
  pub plant_is : core.plant ≡ live.plant
  pub books_are : map forgotten core.books ≡ live.books
  pub queues_are : core.queues ≡ live.queues
  pub gathering_is : GoesOnAlike core.gathering live.gathering
  pub held : IsGathering core.gathering

-- this is done to the live core as it is, with these outputs, and the new one is what is kept of the result
abbrev pub Performs : (CoreView → CoreView → List Out → Type 0) → CoreView → CoreView → List Out → Type 0
Performs does old new now = (result : CoreView) × does old result now × IsOf new result
