-- how long responses are kept.
use Rattle.std.specs.Prelude.{ℕ, ◌≤◌}

-- the ticks that a response waits for its acknowledgement, how often it is retransmitted, and the ticks that an answered transaction is
-- held
pub record Waits : Type 0 where
  pub ack_wait : ℕ
  pub resends : ℕ
  pub hold : ℕ

-- each wait is at least one tick
pub record IsLasting (waits : Waits) : Type 0 where
  pub ack_wait : 1 ≤ waits.ack_wait
  pub hold : 1 ≤ waits.hold
