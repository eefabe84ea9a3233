use Rattle.std.proofs.Common.{◌≡◌, ◌<◌, drop}
use Rattle.snapshot_format.specs.Checksum.{adler_after}
use Rattle.snapshot_format.proofs.checksum.adler_32.Given as goal

abbrev pub invariant-loop-byte : goal.invariant-loop-byte
invariant-loop-byte l = (l.low < 65521) × (l.high < 65521) × (adler_after l.low l.high (drop l.byte-index l.bytes) ≡ adler_after 1 0 l.bytes)
