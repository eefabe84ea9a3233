use Rattle.std.proofs.Common.{◌≡◌, ◌≤◌, false, length}
use Rattle.std.specs.Io.KnownBytes.{Consumes}
use Rattle.plant_script.proofs.input.read_bytes.Given as goal

-- the reader lost just these bytes, not more than the limit, at least one in each turn; the chunk has room; no read has failed
abbrev pub invariant-loop : goal.invariant-loop
invariant-loop g l = record {
  consumed : Consumes (g.R.Read.remaining l.initial.reader) (g.R.Read.remaining l.reader) l.input.items;
  fits : length l.input.items ≤ 1048576;
  each_turn : l.counter ≤ length l.input.items;
  has_room : length l.chunk ≡ 4096;
  untried : l.failed ≡ false;
}
