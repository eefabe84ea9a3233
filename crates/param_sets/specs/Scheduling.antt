-- Kinds of scheduling (CM-SP-MULPIv3.1, Annex C, subtype 15).
use Rattle.std.specs.Prelude.{ℕ, ◌==◌, Option, Some, None, if◌then◌else◌}
use Rattle.param_sets.specs.declared.scheduling.Scheduling.{Scheduling}
use Rattle.param_sets.specs.declared.scheduling.Scheduling.TheVariants.{BestEffort, NonRealTimePolling, RealTimePolling, UnsolicitedGrant}

-- the number of a kind on the wire
abbrev pub scheduling_number : Scheduling → ℕ
scheduling_number BestEffort = 2
scheduling_number NonRealTimePolling = 3
scheduling_number RealTimePolling = 4
scheduling_number UnsolicitedGrant = 6

-- the kind that a message states by its number: best effort where it states none
abbrev pub scheduling_of : Option ℕ → Option Scheduling
scheduling_of None = Some BestEffort
scheduling_of (Some number) =
    if number == 2 then Some BestEffort
    else if number == 3 then Some NonRealTimePolling
    else if number == 4 then Some RealTimePolling
    else if number == 6 then Some UnsolicitedGrant
    else None
