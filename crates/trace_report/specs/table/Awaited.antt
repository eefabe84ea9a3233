-- Each flow of which sets are pending has a response that waits for its acknowledgement (implementation-specific).
use Rattle.std.specs.Prelude.{◌≡◌, ℕ, true, List, Any, AllPairs, Some, IsSome}
use Rattle.dsx_messages.specs.declared.modem.Modem.{Modem}
use Rattle.transactions.specs.declared.entry.KeptEntry.{KeptEntry}
use Rattle.transactions.specs.Entry.{is_waiting, is_of}
use Rattle.flow_table.specs.declared.flow.Flow.{Flow}
use Rattle.flow_table.specs.Table.{flow_at}
use Rattle.operator_model.specs.State.{OperatorState}

-- a cached response awaits the acknowledgement of the flow
abbrev pub IsAwaited : List KeptEntry → ℕ → Type 0
IsAwaited kept sfid = Any (λ entry. (is_waiting entry ≡ true) × (entry.sfid ≡ sfid)) kept

-- two responses are not of one transaction of one modem
abbrev pub AreOfTwo : KeptEntry → KeptEntry → Type 0
AreOfTwo a b = (modem : Modem) (tid : ℕ) → is_of modem tid a ≡ true → is_of modem tid b ≡ true → ⊥

-- each flow of which sets are pending is awaited by a cached response, and no two cached responses are of one transaction of one modem
pub record AreAwaited (state : OperatorState) : Type 0 where
  pub own : AllPairs AreOfTwo state.kept
  pub flows : (sfid : ℕ) (flow : Flow) → flow_at sfid state.flows ≡ Some flow → IsSome flow.pending → IsAwaited state.kept sfid
