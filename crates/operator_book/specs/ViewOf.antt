-- What contracts of crates above say of a book and of its ranking (implementation-specific).
use Rattle.grant_policy.specs.declared.policy.Policy.{Policy}
use Rattle.grant_policy.specs.declared.ranking.Ranking.{Ranking}
use Rattle.operator_model.specs.Replay.{BookView}
use Rattle.operator_book.specs.declared.book.Book.{Book}

-- what contracts see of a book
abbrev pub view_of : {D : Type 0} {F : D → Type 0} {m : _} → Book D F m → BookView
view_of b = b.kept.book

-- the policy that a ranking follows
abbrev pub policy_of : {D : Type 0} {F : D → Type 0} {m : _} → Ranking D F m → Policy
policy_of r = r.policy
