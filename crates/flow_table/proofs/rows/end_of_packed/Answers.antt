use Rattle.std.proofs.Common.{◌≡◌, ◌+◌, ◌-◌, ◌≤◌, length, arith}
use Rattle.flow_table.proofs.GapLemmas.{packed_keys}
use Rattle.flow_table.proofs.rows.end_of_packed.Goals as goal

pub returns-then-greatest-first-clause-gap : goal.returns-then-greatest-first-clause-gap
returns-then-greatest-first-clause-gap c =
    let first = c.args.first in
    let least = c.in_ok-least.least.now in
    let greatest = c.in_ok-greatest.greatest.now in
    let es = c.args.places.now.entries in
    let from : first ≤ least = omega (arith, c.if-first-least.false) in
    let to : first ≤ greatest = omega (arith, c.if-first-greatest.false) in
    let count : greatest - first + 1 ≡ length es = omega (arith, c.if-greatest-first.true, c.len.ensures.len) in
    rw c.from.ensures (packed_keys es first least greatest c.requires c.in_ok-least.ensures.all_from c.in_ok-greatest.ensures.all_up_to from to count)
