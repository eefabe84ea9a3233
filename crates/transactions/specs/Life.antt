-- the life of an entry that nobody acknowledges, over all its ticks: what the timers result in.
use Rattle.std.specs.Prelude.{◌≡◌, ℕ, ◌+◌, ◌-◌, ◌*◌, ◌<◌, ◌≤◌, true, false}
use Rattle.std.specs.Fn.{iterate}
use Rattle.transactions.specs.declared.entry.KeptEntry.{KeptEntry}
use Rattle.transactions.specs.Waits.{Waits}
use Rattle.transactions.specs.Entry.{is_waiting}
use Rattle.transactions.specs.Timers.{is_response_due, is_resent, is_given_up, is_forgotten, entry_after_tick}

-- an entry after n ticks, as the tick after them finds it
abbrev pub after_ticks : Waits → ℕ → KeptEntry → KeptEntry
after_ticks waits n e = iterate (entry_after_tick waits) n e

-- the last tick of each of its first `resends` waits resends it, the last tick of the next wait abandons it, and at the ticks between
-- nothing is due
pub record WaitsInVain (waits : Waits) (e : KeptEntry) : Type 0 where
  pub between : (k j : ℕ) → k ≤ waits.resends → j + 1 < waits.ack_wait → is_response_due (after_ticks waits (k * waits.ack_wait + j) e) ≡ false
  pub resent : (k : ℕ) → k < waits.resends → is_resent (after_ticks waits (k * waits.ack_wait + (waits.ack_wait - 1)) e) ≡ true
  pub given_up : is_given_up (after_ticks waits (waits.resends * waits.ack_wait + (waits.ack_wait - 1)) e) ≡ true

-- the last of `hold` ticks forgets it, at the ticks before nothing is due, and it never waits
pub record IsOnlyHeld (waits : Waits) (e : KeptEntry) : Type 0 where
  pub before : (j : ℕ) → j + 1 < waits.hold → is_response_due (after_ticks waits j e) ≡ false
  pub forgotten : is_forgotten (after_ticks waits (waits.hold - 1) e) ≡ true
  pub silent : (j : ℕ) → j < waits.hold → is_waiting (after_ticks waits j e) ≡ false
