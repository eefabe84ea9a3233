-- What each flow claims of a frame for its backlog (implementation-specific).
use Rattle.std.specs.Prelude.{ℕ, ◌-◌, ◌+◌, min, List, map, sum_by}
use Rattle.param_sets.specs.Units.{reserve_of}
use Rattle.grant_policy.specs.Rank.{rank_of}
use Rattle.grant_policy.specs.RankFacts.{RankFacts}
use Rattle.grant_policy.specs.declared.policy.Policy.{Policy}
use Rattle.slice_scheduler.specs.declared.claim.Claim.{Claim}
use Rattle.slice_scheduler.specs.declared.flowing.AtFields.{AtFields}
use Rattle.slice_scheduler.specs.declared.flowing.Flowing.{Flowing}
use Rattle.slice_scheduler.specs.Due.{due_minislots}

-- what a flow's rank is computed from: its age is the frames that its backlog waits, held at 255
abbrev pub facts_of : AtFields → Flowing → RankFacts
facts_of at f = record { priority = f.set.priority; age = min 255 (at.frame - f.since); backlog = f.backlog }

-- the base of a flow: the minislots of its backlog that the reserved rate covers
abbrev pub base_of : AtFields → Flowing → ℕ
base_of at f = min f.backlog (reserve_of f.set.min_reserved_rate at.units)

-- what a flow claims: its rank, its base, and what is left of its backlog after the base
abbrev pub claim_of : Policy → AtFields → Flowing → Claim
claim_of policy at f = record {
  sfid = f.sfid;
  sid = f.sid;
  rank = rank_of policy (facts_of at f);
  base = base_of at f;
  left = f.backlog - base_of at f;
}

-- the claim of each flow, in the flows' order
abbrev pub claims_of : Policy → AtFields → List Flowing → List Claim
claims_of policy at flows = map (claim_of policy at) flows

-- what a flow has before the rest is shared: what it is due, and its base
abbrev pub taken_of : AtFields → Flowing → ℕ
taken_of at f = due_minislots at f + base_of at f

-- what is left of the slice after due grants and bases: the minislots that are shared
abbrev pub room_of : AtFields → List Flowing → ℕ
room_of at flows = at.slice.length - sum_by (taken_of at) flows
