-- The rank by which each policy serves a flow (implementation-specific).
use Rattle.std.specs.Prelude.{ℕ, ◌+◌, ◌-◌, ◌*◌, ◌/◌, min}
use Rattle.grant_policy.specs.RankFacts.{RankFacts}
use Rattle.grant_policy.specs.declared.policy.Policy.{Policy}
use Rattle.grant_policy.specs.declared.policy.Policy.TheVariants.{Strict, Aged, Short}

-- the rank by which a policy serves a flow with these facts, 0 to 63: the greater goes first
abbrev pub rank_of : Policy → RankFacts → ℕ
rank_of Strict facts = 8 * facts.priority
rank_of (Aged step) facts = min 63 (8 * facts.priority + facts.age / step)
rank_of Short facts = 63 - min 63 (facts.backlog / 64)
