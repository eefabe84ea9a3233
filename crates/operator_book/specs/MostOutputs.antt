-- How many outputs an action can have (implementation-specific).
use Rattle.std.specs.Prelude.{ℕ, ◌+◌, length}
use Rattle.transactions.specs.Timers.{resent_in}
use Rattle.operator_model.specs.declared.action.Action.{Action}
use Rattle.operator_model.specs.declared.action.Action.TheVariants.{Arrive, Work, Tick, Reslice}
use Rattle.operator_model.specs.State.{OperatorState}

-- how many outputs an action can have, for a caller that allocates first: a tick has what it retransmits and its frame, any other action
-- one at most
abbrev pub most_outputs_of : OperatorState → Action → ℕ
most_outputs_of state (Arrive modem heard) = 1
most_outputs_of state Work = 1
most_outputs_of state Tick = 1 + length (resent_in state.kept)
most_outputs_of state (Reslice from row) = 1
