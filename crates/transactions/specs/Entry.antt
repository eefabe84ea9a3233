-- whose a cached response is, and what it waits for.
use Rattle.std.specs.Prelude.{ℕ, Bool, true, false, ◌&&◌, ◌==◌}
use Rattle.std.specs.Str.{bytes_eq}
use Rattle.dsx_messages.specs.declared.kind.Kind.{Kind}
use Rattle.dsx_messages.specs.declared.kind.Kind.TheVariants.{Dsa, Dsc, Dsd}
use Rattle.dsx_messages.specs.declared.modem.Modem.{Modem}
use Rattle.transactions.specs.declared.entry.ResponseState.{ResponseState}
use Rattle.transactions.specs.declared.entry.ResponseState.TheVariants.{Waiting, Held}
use Rattle.transactions.specs.declared.entry.KeptEntry.{KeptEntry}

-- whether two kinds are the same
abbrev pub same_kind : Kind → Kind → Bool
same_kind Dsa Dsa = true
same_kind Dsc Dsc = true
same_kind Dsd Dsd = true
same_kind a b = false

-- whether the response waits for its acknowledgement
abbrev pub is_waiting : KeptEntry → Bool
is_waiting e = waits e.standing
  where
    waits : ResponseState → Bool
    waits Waiting = true
    waits Held = false

-- whether it is the entry of this modem and transaction ID
abbrev pub is_of : Modem → ℕ → KeptEntry → Bool
is_of modem tid e = bytes_eq e.modem.0 modem.0 && e.tid == tid

-- whether it waits for an acknowledgement of this kind, from this modem and under this transaction ID
abbrev pub waits_for : Modem → ℕ → Kind → KeptEntry → Bool
waits_for modem tid kind e = is_of modem tid e && is_waiting e && same_kind e.kind kind
