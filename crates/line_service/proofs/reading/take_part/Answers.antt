use Rattle.std.proofs.Common.{refl}
use Rattle.line_service.proofs.ReadLemmas.{line_broken}
use Rattle.line_service.proofs.reading.take_part.Goals as goal

pub returns-in_ok-extend-in-Some-clause-read : goal.returns-in_ok-extend-in-Some-clause-read
returns-in_ok-extend-in-Some-clause-read c input rest so_far =
    let held = c.args.held.now in
    let after = c.extend.new.self in
    line_broken input rest c.args.bytes.now held.bytes.items after.bytes.items held.is_long after.is_long so_far c.in-Some.place _ c.in-Some.ensures refl c.in_ok-extend-in-Some.ensures
