use Rattle.std.proofs.Common.{◌≡◌, ◌<◌, length, arith}
use Rattle.std.proofs.lemmas.Bool.Decides.{nat_tests}
use Rattle.tlv24.proofs.Lists.{IsFront-end, IsFront-stuck}
use Rattle.tlv24.proofs.tlv.Tlvs.split.Goals as goal

pub returns-in_default-clause-only : goal.returns-in_default-clause-only
returns-in_default-clause-only c tlvs list =
    let some : 0 < length c.loop-rest.rest.now = grind (arith, nat_tests, c.loop-rest-test.ensures) in
    absurd (IsFront-stuck c.args.bytes.now c.loop-rest.tlvs.items c.loop-rest.rest.now tlvs c.loop-rest.invariant some c.in_default.ensures.begins list)

pub returns-clause-only : goal.returns-clause-only
returns-clause-only c tlvs list =
    let none : length c.loop-rest.rest.now ≡ 0 = grind (arith, nat_tests, c.loop-rest-test.ensures) in
    IsFront-end c.args.bytes.now c.loop-rest.tlvs.items c.loop-rest.rest.now tlvs c.loop-rest.invariant none list
