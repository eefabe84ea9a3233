-- What the assembly of MAPs knows of a plant (implementation-specific).
use Rattle.std.specs.Prelude.{◌≡◌, ℕ, ◌+◌, ◌*◌, ◌<◌, ◌≤◌, false, List, length, take, All, AllPairs, sum_by}
use Rattle.slice_scheduler.specs.Minislots.{Minislots, slices_overlap}
use Rattle.plant.specs.Plant.{ranges_overlap}
use Rattle.plant.specs.declared.consts.Channel.{Channel}
use Rattle.map_assembly.specs.declared.quota.Quota.{Quota}
use Rattle.map_assembly.specs.Wire.{last_unicast_sid, element_limit}

-- a quota has SIDs, from 1 to the last that one flow may have
pub record IsQuota (quota : Quota) : Type 0 where
  pub low : 1 ≤ quota.sids.first
  pub high : quota.sids.last ≤ last_unicast_sid

-- there is an operator, no two share a SID, and a MAP of all their quotas keeps its limit of elements: next to the quotas, two
-- more for each operator (an idle span of its own, and one after its slice) and three more (the head, the idle span after it
-- and the Null)
pub record AreQuotas (quotas : List Quota) : Type 0 where
  pub some : 1 ≤ length quotas
  pub each : All IsQuota quotas
  pub apart : AllPairs (λ a b. ranges_overlap a.sids b.sids ≡ false) quotas
  pub few : sum_by (λ quota. quota.elements) quotas + 2 * length quotas + 3 ≤ element_limit

-- a slice has a minislot, and lies in the frame, after the head
pub record IsInFrame (channel : Channel) (slice : Minislots) : Type 0 where
  pub some : 1 ≤ slice.length
  pub behind_head : channel.head ≤ slice.start
  pub within_frame : slice.start + slice.length ≤ channel.frame_minislots

-- the slices of so many operators are valid: each lies in the frame, and no two meet
pub record AreSlices (channel : Channel) (count : ℕ) (slices : List Minislots) : Type 0 where
  pub one_each : length slices ≡ count
  pub each : All (IsInFrame channel) slices
  pub apart : AllPairs (λ a b. slices_overlap a b ≡ false) slices

-- the slices before this operator's are valid, and with its own they are not: it is outside the frame, or overlaps one of them
pub record IsFirstInvalid (channel : Channel) (slices : List Minislots) (op : ℕ) : Type 0 where
  pub within : op < length slices
  pub before : AreSlices channel op (take op slices)
  pub not_with : ¬ AreSlices channel (op + 1) (take (op + 1) slices)
