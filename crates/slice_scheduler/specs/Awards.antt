-- What each flow is granted of a frame for its backlog (implementation-specific).
use Rattle.std.specs.Prelude.{ℕ, ◌-◌, ◌+◌, ◌==◌, nat_lt, Bool, if◌then◌else◌, min, List, map, filter, sum_by}
use Rattle.grant_policy.specs.declared.policy.Policy.{Policy}
use Rattle.slice_scheduler.specs.declared.claim.Claim.{Claim}
use Rattle.slice_scheduler.specs.declared.award.Award.{Award}
use Rattle.slice_scheduler.specs.declared.flowing.AtFields.{AtFields}
use Rattle.slice_scheduler.specs.declared.flowing.Flowing.{Flowing}
use Rattle.slice_scheduler.specs.Claims.{claim_of, claims_of, room_of}

-- whether d is served before c: by the greater rank, and within a rank by the smaller SFID
abbrev pub goes_before : Claim → Claim → Bool
goes_before d c = if d.rank == c.rank then nat_lt d.sfid c.sfid else nat_lt c.rank d.rank

-- what is wanted beyond their bases by those that go before c
abbrev pub wanted_before : List Claim → Claim → ℕ
wanted_before claims c = sum_by (λ d. d.left) (filter (λ d. goes_before d c) claims)

-- what c is granted beyond its base: as much as it wants, of what those before it leave
abbrev pub granted_share : ℕ → List Claim → Claim → ℕ
granted_share room claims c = min c.left (room - wanted_before claims c)

-- the award of a claim: its base, and what it is granted beyond it
abbrev pub award_of : ℕ → List Claim → Claim → Award
award_of room claims c = record {
  sfid = c.sfid;
  sid = c.sid;
  rank = c.rank;
  backlog = c.base + c.left;
  grant = c.base + granted_share room claims c;
}

-- the award of each flow, in the flows' order
abbrev pub awards_of : Policy → AtFields → List Flowing → List Award
awards_of policy at flows = map (award_of (room_of at flows) (claims_of policy at flows)) (claims_of policy at flows)

-- what a flow is granted, as a closed sum: its base, plus the lesser of what is left of its backlog after the base, and of the room less
-- what the flows before it want beyond their bases
abbrev pub grant_of : Policy → AtFields → List Flowing → Flowing → ℕ
grant_of policy at flows f = (award_of (room_of at flows) (claims_of policy at flows) (claim_of policy at f)).grant
