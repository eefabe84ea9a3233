-- the cached responses of all transactions, and what begins, ends and bounds them.
use Rattle.std.specs.Prelude.{◌≡◌, ℕ, ◌≤◌, Bool, false, if◌then◌else◌, List, length, All, count_by}
use Rattle.dsx_messages.specs.declared.kind.Kind.{Kind}
use Rattle.dsx_messages.specs.declared.modem.Modem.{Modem}
use Rattle.transactions.specs.declared.entry.ResponseState.TheVariants.{Waiting, Held}
use Rattle.transactions.specs.declared.entry.KeptEntry.{KeptEntry}
use Rattle.transactions.specs.Waits.{Waits, IsLasting}
use Rattle.transactions.specs.Entry.{is_waiting, is_of, waits_for}

-- for how many entries there is room, how long entries wait, and the entries in the order in which they began
pub record Keeping : Type 0 where
  pub capacity : ℕ
  pub waits : Waits
  pub entries : List KeptEntry

-- an entry that begins: it waits `ack_wait` ticks and may be resent `resends` times, or it is held `hold` ticks
abbrev pub begun_entry : Waits → Modem → ℕ → Kind → List ℕ → ℕ → Bool → KeptEntry
begun_entry times modem tid kind reply sfid waits = record {
  modem = modem;
  tid = tid;
  kind = kind;
  reply = reply;
  sfid = sfid;
  standing = if waits then Waiting else Held;
  ticks_left = if waits then times.ack_wait else times.hold;
  resends_left = if waits then times.resends else 0;
}

-- an entry that is held from now on, for `hold` ticks
abbrev pub held_entry : Waits → KeptEntry → KeptEntry
held_entry waits e = record e { standing = Held; ticks_left = waits.hold; resends_left = 0 }

-- an entry after an acknowledgement: it is held where it waited for this one, else it is as it was
abbrev pub entry_after_ack : Waits → Modem → ℕ → Kind → KeptEntry → KeptEntry
entry_after_ack waits modem tid kind e = if waits_for modem tid kind e then held_entry waits e else e

-- at most one entry exists of each modem and transaction ID
abbrev pub OneEach : List KeptEntry → Type 0
OneEach entries = (modem : Modem) (tid : ℕ) → count_by (is_of modem tid) entries ≤ 1

-- its time has not ended
abbrev pub HasTicks : KeptEntry → Type 0
HasTicks e = 1 ≤ e.ticks_left

-- where it is held, no resend is left
abbrev pub IsHeldUnsent : KeptEntry → Type 0
IsHeldUnsent e = is_waiting e ≡ false → e.resends_left ≡ 0

-- what always holds of the entries, their capacity and waits, and the places that are reserved for them
pub record IsKept (capacity : ℕ) (waits : Waits) (entries : List KeptEntry) (reserved : ℕ) : Type 0 where
  pub lasting : IsLasting waits
  pub within : length entries ≤ capacity
  pub room : capacity ≤ reserved
  pub ticking : All HasTicks entries
  pub held : All IsHeldUnsent entries
  pub one_each : OneEach entries
