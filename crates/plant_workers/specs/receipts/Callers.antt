-- Who has what done to an operator's book in a run on threads (implementation-specific).
use Rattle.std.specs.Prelude.{◌≡◌, [], ◌∷◌, All}
use Rattle.std.specs.List.{AllZip}
use Rattle.operator_model.specs.declared.action.Action.{Action}
use Rattle.operator_model.specs.declared.action.Action.TheVariants as actions
use Rattle.plant_workers.specs.declared.receipts.caller.Caller.{Caller}
use Rattle.plant_workers.specs.declared.receipts.caller.Caller.TheVariants.{Dispatcher, Ticker, Worker, Owner}
use Rattle.plant_workers.specs.declared.receipts.receipt.Receipt.{Receipt}
use Rattle.plant_workers.specs.receipts.Merge.{Told}

-- the dispatcher does the Arrives, the ticker the Ticks, the operator's worker the Works, and the owner the ``Reslice`` steps
abbrev pub caller_of : Action → Caller
caller_of (actions.Arrive modem heard) = Dispatcher
caller_of actions.Work = Worker
caller_of actions.Tick = Ticker
caller_of (actions.Reslice from row) = Owner

-- the receipt is of an action that this caller does
abbrev pub IsFor : Caller → Receipt → Type 0
IsFor caller receipt = caller_of receipt.action ≡ caller

-- just the four callers have receipts, in this order, and each of its own kind of action alone
abbrev pub AreByCallers : Told → Type 0
AreByCallers callers =
    AllZip (λ caller receipts. All (IsFor caller) receipts) (Dispatcher ∷ Ticker ∷ Worker ∷ Owner ∷ []) callers
