-- What a rank is computed from, and its ranges (implementation-specific).
use Rattle.std.specs.Prelude.{ℕ, ◌≤◌, ◌<◌, ◌^◌}

-- what a rank is computed from: the traffic priority, the frames waited (held at 255),
-- and the minislots asked for and not yet granted
pub record RankFacts : Type 0 where
  pub priority : ℕ
  pub age : ℕ
  pub backlog : ℕ

-- the facts that an input of the program can have: a clause's variable has no range of its own
pub record IsRankInput (facts : RankFacts) : Type 0 where
  pub priority : facts.priority ≤ 7
  pub age : facts.age < 2 ^ 8
  pub backlog : facts.backlog < 2 ^ 16
