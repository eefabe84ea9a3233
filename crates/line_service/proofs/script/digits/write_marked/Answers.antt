use Rattle.std.proofs.Common.{◌≤◌, length, arith}
use Rattle.std.specs.Fmt.{decimal}
use Rattle.line_service.proofs.ScriptLemmas.Marked.{few_digits, marked}
use Rattle.line_service.proofs.script.digits.write_marked.Goals as goal

pub write_digits-start-requires : goal.write_digits-start-requires
write_digits-start-requires c =
    let short : length (decimal c.from.result) ≤ 5 = rw c.from.ensures (few_digits c.args.number c.ranges.number.fits) in
    (omega (arith, short, c.requires.0), c.requires.1)

pub overflow_sub-start : goal.overflow_sub-start
overflow_sub-start c =
    let short : length (decimal c.from.result) ≤ 5 = rw c.from.ensures (few_digits c.args.number c.ranges.number.fits) in
    omega (arith, short, c.requires.0, c.write_digits-start.ensures.start)

pub returns-clause-start : goal.returns-clause-start
returns-clause-start c =
    let short : length (decimal c.from.result) ≤ 5 = rw c.from.ensures (few_digits c.args.number c.ranges.number.fits) in
    (omega (arith, short, c.requires.0, c.write_digits-start.ensures.start), omega (arith, short, c.requires.0, c.write_digits-start.ensures.start))

pub returns-clause-written : goal.returns-clause-written
returns-clause-written c =
    let short : length (decimal c.from.result) ≤ 5 = rw c.from.ensures (few_digits c.args.number c.ranges.number.fits) in
    let at = c.write_digits-start.result in
    let fits : at ≤ length c.write_digits-start.new.buf = omega (arith, c.write_digits-start.auto.buf, c.requires.1, c.write_digits-start.ensures.start) in
    marked c.write_digits-start.new.buf _ at c.args.mark (omega (arith, short, c.requires.0, c.write_digits-start.ensures.start)) fits (rw (← c.from.ensures) c.write_digits-start.ensures.written)
