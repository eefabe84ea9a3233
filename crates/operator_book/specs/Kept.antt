-- What a book always keeps (implementation-specific).
use Rattle.std.specs.Prelude.{◌≤◌, ℕ, List}
use Rattle.plant.specs.declared.consts.ConstsFields.{ConstsFields}
use Rattle.plant.specs.declared.operator_row.RowFields.{RowFields}
use Rattle.plant.specs.Row.{IsRowOf}
use Rattle.operator_model.specs.declared.action.Entry.{Entry}
use Rattle.operator_model.specs.State.{OperatorState}
use Rattle.operator_model.specs.Replay.{BookView, IsReplay}

-- what the type of a book keeps: the row is one of a plant of these constants, and the state is the replay of the history
pub record IsBook (consts : ConstsFields) (row : RowFields) (history : List Entry) (state : OperatorState) : Type 0 where
  pub valid : IsRowOf consts row
  pub some : 1 ≤ row.slice.length
  pub replay : IsReplay consts row history state

-- a book, and how many entries more its history takes without memory
pub record HeldBook : Type 0 where
  pub book : BookView
  pub spare : ℕ

-- a history, and how many entries more it takes without memory
pub record HeldHistory : Type 0 where
  pub entries : List Entry
  pub spare : ℕ
