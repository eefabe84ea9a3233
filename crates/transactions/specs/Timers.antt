-- what a tick does with each cached response (CM-SP-MULPIv3.1, 11.2; the tick counts are implementation-specific).
use Rattle.std.specs.Prelude.{◌-◌, Bool, not, ◌&&◌, ◌||◌, ◌==◌, nat_lt, if◌then◌else◌, List, map, filter}
use Rattle.transactions.specs.declared.entry.KeptEntry.{KeptEntry}
use Rattle.transactions.specs.declared.tick.Resend.{Resend}
use Rattle.transactions.specs.declared.tick.GivenUp.{GivenUp}
use Rattle.transactions.specs.Waits.{Waits}
use Rattle.transactions.specs.Entry.{is_waiting}

-- the tick ends its time
abbrev pub is_response_due : KeptEntry → Bool
is_response_due e = e.ticks_left == 1

-- the tick retransmits its response: it is due, waits, and a resend is left
abbrev pub is_resent : KeptEntry → Bool
is_resent e = is_response_due e && is_waiting e && nat_lt 0 e.resends_left

-- the tick abandons it: it is due, waits, and no resend is left
abbrev pub is_given_up : KeptEntry → Bool
is_given_up e = is_response_due e && is_waiting e && e.resends_left == 0

-- the tick forgets it: it is abandoned, or it is due and held
abbrev pub is_forgotten : KeptEntry → Bool
is_forgotten e = is_given_up e || is_response_due e && not (is_waiting e)

-- an entry after the tick: where it is resent, it waits `ack_wait` ticks more with one resend less; else it has one tick less
abbrev pub entry_after_tick : Waits → KeptEntry → KeptEntry
entry_after_tick waits e =
    if is_resent e then record e { ticks_left = waits.ack_wait; resends_left = e.resends_left - 1 } else record e { ticks_left = e.ticks_left - 1 }

-- what is retransmitted of an entry
abbrev pub resend_of : KeptEntry → Resend
resend_of e = record { modem = e.modem; reply = e.reply }

-- what is reported of an entry that is abandoned
abbrev pub given_up_of : KeptEntry → GivenUp
given_up_of e = record { kind = e.kind; sfid = e.sfid }

-- the entries that are kept after the tick
abbrev pub kept_after : Waits → List KeptEntry → List KeptEntry
kept_after waits entries = map (entry_after_tick waits) (filter (λ e. not (is_forgotten e)) entries)

-- what the tick retransmits
abbrev pub resent_in : List KeptEntry → List Resend
resent_in entries = map resend_of (filter is_resent entries)

-- what the tick abandons
abbrev pub given_up_in : List KeptEntry → List GivenUp
given_up_in entries = map given_up_of (filter is_given_up entries)
