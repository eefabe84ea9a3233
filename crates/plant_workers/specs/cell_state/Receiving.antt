-- What a receipt says of an action that a book takes (implementation-specific).
use Rattle.std.specs.Prelude.{◌≡◌, ℕ, List, length, slice_get, Some}
use Rattle.operator_model.specs.declared.action.Action.{Action}
use Rattle.operator_model.specs.declared.action.Action.TheVariants as actions
use Rattle.operator_model.specs.declared.action.SliceRow.{SliceRow}
use Rattle.operator_model.specs.Machine.{own_step, IsAllowed}
use Rattle.operator_model.specs.Replay.{BookView, operator_of_book, IsReplayed}
use Rattle.run_model.specs.Places.{AtEachPlace}
use Rattle.plant_workers.specs.declared.receipts.caller.Caller.TheVariants.{Owner}
use Rattle.plant_workers.specs.declared.receipts.receipt.Receipt.{Receipt}
use Rattle.plant_workers.specs.declared.cell_state.told.Told.{Told}

-- it has the place after all that was done, the action, and what the operator's machine outputs
pub record IsReceiptOf (book : BookView) (action : Action) (receipt : Receipt) : Type 0 where
  pub index_is : receipt.index ≡ length book.history
  pub action_is : receipt.action ≡ action
  pub outputs_are : receipt.outputs ≡ (own_step (operator_of_book book) action).outputs

-- The receipt is of an action that some book took: a book whose state is the replay of its history, and which has just the
-- entries before the receipt's index. So a receipt is not made up, whichever book is under the lock.
pub record IsOfSomeBook (action : Action) (receipt : Receipt) : Type 0 where
  pub book : BookView
  pub replayed : IsReplayed book
  pub allowed : IsAllowed (operator_of_book book) action
  pub receipt_is : IsReceiptOf book action receipt

-- the owner's receipt of an operator's slice change
pub record IsOwnersReceipt (from op : ℕ) (row : SliceRow) (book : BookView) (told : Told) : Type 0 where
  pub op_is : told.op ≡ op
  pub caller_is : told.caller ≡ Owner
  pub receipt_is : IsReceiptOf book (actions.Reslice from row) told.receipt

-- the owner's receipts of a slice change of all operators, operator by operator
pub record AreOwnersReceipts (from : ℕ) (rows : List SliceRow) (books : List BookView) (told : List Told) : Type 0 where
  pub one_each : length told ≡ length rows
  pub each : AtEachPlace rows books (λ op row book. (one : Told) × (slice_get told op ≡ Some one) × IsOwnersReceipt from op row book one)
