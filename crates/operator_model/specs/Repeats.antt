-- What a repeated request is answered (implementation-specific; CM-SP-MULPIv3.1, 11.2).
use Rattle.std.specs.Prelude.{◌≡◌, ℕ, ◌<◌, true, find, Some}
use Rattle.dsx_messages.specs.declared.modem.Modem.{Modem}
use Rattle.dsx_messages.specs.declared.kind.Kind.{Kind}
use Rattle.transactions.specs.declared.entry.KeptEntry.{KeptEntry}
use Rattle.transactions.specs.Entry.{same_kind, is_of}
use Rattle.operator_model.specs.State.{Operator}
use Rattle.operator_model.specs.declared.verdict.Verdict.{Verdict}
use Rattle.operator_model.specs.Handle.{transaction_result, reply_result}

-- where a response is kept of a modem's transaction, another request of that kind under its ID gets the cached reply, and leaves the
-- state as it is, whatever would be said of it anew
abbrev pub RepeatsChangeNothing : Type 0
RepeatsChangeNothing = (op : Operator) (modem : Modem) (kind : Kind) (tid : ℕ) (v : Verdict) (entry : KeptEntry)
    → find (is_of modem tid) op.state.kept ≡ Some entry → same_kind entry.kind kind ≡ true → tid < 32768
    → transaction_result op modem kind tid v ≡ reply_result op.state modem entry.reply
