use Rattle.std.proofs.Common.{arith}
use Rattle.state_service.proofs.ReadLemmas.{byte_added, byte_dropped}
use Rattle.state_service.proofs.reading.add_byte.Goals as goal

pub returns-in_ok-push : goal.returns-in_ok-push
returns-in_ok-push c input rest taken so_far =
    byte_added input rest c.args.byte taken c.args.part.now.items so_far c.requires
    (omega (arith, c.if-len-lt-MOST_KEPT.true, c.len.ensures)) c.push.new.self.items c.in_ok-push.ensures.items

pub returns-else-len-lt-MOST_KEPT : goal.returns-else-len-lt-MOST_KEPT
returns-else-len-lt-MOST_KEPT c input rest taken so_far =
    byte_dropped input rest c.args.byte taken c.args.part.now.items so_far c.requires
    (omega (arith, c.if-len-lt-MOST_KEPT.false, c.len.ensures))
