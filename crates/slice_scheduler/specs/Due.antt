-- Which flows are due in a frame, and what a due flow is granted whatever it asks (implementation-specific).
use Rattle.std.specs.Prelude.{ℕ, ◌-◌, ◌*◌, ◌%◌, ◌==◌, nat_le, Bool, false, if◌then◌else◌, Option, Some, None, List, [], ◌∷◌, replicate}
use Rattle.param_sets.specs.Units.{UnitSizes, frames_in_interval, minislots_of}
use Rattle.param_sets.specs.declared.scheduling.Scheduling.{Scheduling}
use Rattle.param_sets.specs.declared.scheduling.Scheduling.TheVariants.{BestEffort, NonRealTimePolling, RealTimePolling, UnsolicitedGrant}
use Rattle.param_sets.specs.declared.param_set.ParamFields.{ParamFields}
use Rattle.slice_scheduler.specs.declared.span.Iuc.{Iuc}
use Rattle.slice_scheduler.specs.declared.span.Iuc.TheVariants.{Request, Short, Long}
use Rattle.slice_scheduler.specs.declared.piece.Piece.{Piece}
use Rattle.slice_scheduler.specs.declared.flowing.AtFields.{AtFields}
use Rattle.slice_scheduler.specs.declared.flowing.Flowing.{Flowing}

-- the frames from one due frame to the next: none at best effort
abbrev pub interval_of : Scheduling → ParamFields → UnitSizes → Option ℕ
interval_of BestEffort set units = None
interval_of NonRealTimePolling set units = Some (frames_in_interval set.polling_interval units)
interval_of RealTimePolling set units = Some (frames_in_interval set.polling_interval units)
interval_of UnsolicitedGrant set units = Some (frames_in_interval set.grant_interval units)

-- whether an interval ends after so many frames: one of no frame never does
abbrev pub ends_after : ℕ → Option ℕ → Bool
ends_after frames None = false
ends_after frames (Some interval) = if interval == 0 then false else (frames % interval == 0)

-- whether a flow is due: its intervals count from its start
abbrev pub is_due : AtFields → Flowing → Bool
is_due at f = ends_after (at.frame - f.start) (interval_of f.set.scheduling f.set at.units)

-- the minislots that a due flow is granted whatever it asks: all its unsolicited grants, or one to ask in
abbrev pub minislots_when_due : Scheduling → ParamFields → UnitSizes → ℕ
minislots_when_due BestEffort set units = 0
minislots_when_due NonRealTimePolling set units = 1
minislots_when_due RealTimePolling set units = 1
minislots_when_due UnsolicitedGrant set units = set.grants_per_interval * minislots_of set.grant_size units

-- the minislots that a flow is granted in this frame whatever it asks: none where it is not due
abbrev pub due_minislots : AtFields → Flowing → ℕ
due_minislots at f = if is_due at f then minislots_when_due f.set.scheduling f.set at.units else 0

-- the code of a grant of so many minislots
abbrev pub iuc_of : AtFields → ℕ → Iuc
iuc_of at minislots = if nat_le minislots at.short_max then Short else Long

-- the same minislots as grants: each unsolicited grant for itself
abbrev pub pieces_when_due : Scheduling → AtFields → Flowing → List Piece
pieces_when_due BestEffort at f = []
pieces_when_due NonRealTimePolling at f = record { sid = f.sid; iuc = Request; len = 1 } ∷ []
pieces_when_due RealTimePolling at f = record { sid = f.sid; iuc = Request; len = 1 } ∷ []
pieces_when_due UnsolicitedGrant at f = replicate f.set.grants_per_interval
    (record { sid = f.sid; iuc = iuc_of at (minislots_of f.set.grant_size at.units); len = minislots_of f.set.grant_size at.units })

-- the same minislots as grants
abbrev pub due_pieces : AtFields → Flowing → List Piece
due_pieces at f = if is_due at f then pieces_when_due f.set.scheduling at f else []
