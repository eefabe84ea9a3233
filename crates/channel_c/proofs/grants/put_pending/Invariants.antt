use Rattle.std.proofs.Common.{◌≡◌, length, map, take}
use Rattle.channel_c.specs.Grants.{pending_as}
use Rattle.channel_c.proofs.grants.put_pending.Given as goal

-- those before the place are written
abbrev pub invariant-loop-place : goal.invariant-loop-place
invariant-loop-place l = record {
  room_is : length l.room ≡ length l.fn.room;
  written : take l.place l.room ≡ map pending_as (take l.place l.pending);
}
