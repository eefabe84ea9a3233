-- What contracts say of a book.
use Rattle.std.specs.Prelude.{◌≡◌}
use Rattle.operator_model.specs.Replay.{BookView}
use Rattle.plant_script.specs.OperatorA.{row_a, consts_a}

-- the book is operator A's
pub record IsOfA (book : BookView) : Type 0 where
  pub row_is : book.row ≡ row_a
  pub consts_is : book.consts ≡ consts_a
