-- That no minislot is idle while a backlog is not all granted (implementation-specific).
use Rattle.std.specs.Prelude.{◌≡◌, ◌<◌, List}
use Rattle.grant_policy.specs.declared.policy.Policy.{Policy}
use Rattle.slice_scheduler.specs.declared.flowing.AtFields.{AtFields}
use Rattle.slice_scheduler.specs.declared.flowing.Flowing.{Flowing}
use Rattle.slice_scheduler.specs.Awards.{grant_of}
use Rattle.slice_scheduler.specs.Schedule.{pieces_of, minislots_in}

-- where this flow is granted less than it asks, the grants fill the slice
abbrev pub LeavesNothingIdle : Policy → AtFields → List Flowing → Flowing → Type 0
LeavesNothingIdle policy at flows f = grant_of policy at flows f < f.backlog → minislots_in (pieces_of policy at flows) ≡ at.slice.length
