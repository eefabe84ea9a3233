use Rattle.std.proofs.Common.{length}
use Rattle.tlv24.specs.Reading.{IsReadUpTo}
use Rattle.tlv24.proofs.read.read_flow.Given as goal

abbrev pub invariant-loop-rest : goal.invariant-loop-rest
invariant-loop-rest l = IsReadUpTo l.bytes l.rest l.fields

abbrev pub decreases-loop-rest : goal.decreases-loop-rest
decreases-loop-rest l = length l.rest
