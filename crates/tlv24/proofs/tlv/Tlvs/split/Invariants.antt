use Rattle.std.proofs.Common.{length}
use Rattle.tlv24.specs.Tlv.{IsFront}
use Rattle.tlv24.proofs.tlv.Tlvs.split.Given as goal

abbrev pub invariant-loop-rest : goal.invariant-loop-rest
invariant-loop-rest l = IsFront l.bytes l.tlvs.items l.rest

abbrev pub decreases-loop-rest : goal.decreases-loop-rest
decreases-loop-rest l = length l.rest
