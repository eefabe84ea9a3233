-- What an operator's own machine, run alone from its opening, makes of a history (implementation-specific).
use Rattle.std.specs.Prelude.{List}
use Rattle.operator_model.specs.declared.action.Entry.{Entry}
use Rattle.operator_model.specs.State.{OperatorState, Operator, operator, opened_state}
use Rattle.operator_model.specs.Machine.{own_run}
use Rattle.operator_model.specs.Replay.{BookView, AreTold, actions_of}
use Rattle.plant_passes.specs.declared.view.Origin.{Origin}

-- what a book was opened with: what all operators share, and its row
abbrev pub origin_of : BookView → Origin
origin_of b = record { consts = b.consts; row = b.row }

-- the operator's machine as it is opened
abbrev pub own_machine : Origin → Operator
own_machine origin = operator origin.consts origin.row (opened_state origin.consts origin.row)

-- the entries are those of the origin's own machine: each was allowed at its place, and its outputs are the machine's
abbrev pub IsOwnRun : Origin → List Entry → Type 0
IsOwnRun origin history = AreTold (own_machine origin) history

-- the machine's state after this history
abbrev pub state_after : Origin → List Entry → OperatorState
state_after origin history = (own_run (own_machine origin) (actions_of history)).state
