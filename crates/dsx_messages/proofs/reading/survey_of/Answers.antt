use Rattle.std.proofs.Common.{◌≡◌, ◌≢◌, length, arith, sym}
use Rattle.std.proofs.lemmas.Bool.Decides.{nat_tests}
use Rattle.dsx_messages.proofs.Passes.{survey_more, survey_whole, survey_cut}
use Rattle.dsx_messages.proofs.reading.survey_of.Goals as goal

pub loop-first-preserved : goal.loop-first-preserved
loop-first-preserved c =
    rw (c.first_some-left_out.ensures, c.left_out_kind.ensures, c.flow_count-flows.ensures)
    (survey_more c.args.list.now c.loop-first.rest.now c.loop-first.left_out c.loop-first.flows c.in-Some.first.kind c.in-Some.first.value.now c.in-Some.first.rest.now c.loop-first.invariant c.in-Some.ensures.exact)

pub returns-then-is_empty : goal.returns-then-is_empty
returns-then-is_empty c =
    let none : length c.loop-first.rest.now ≡ 0 = grind (arith, nat_tests, c.if-is_empty.ensures) in
    survey_whole c.args.list.now c.loop-first.rest.now c.loop-first.left_out c.loop-first.flows c.loop-first.invariant none

pub returns-else-is_empty : goal.returns-else-is_empty
returns-else-is_empty c =
    let some : length c.loop-first.rest.now ≢ 0 = grind (arith, nat_tests, c.if-is_empty.ensures) in
    survey_cut c.args.list.now c.loop-first.rest.now c.loop-first.left_out c.loop-first.flows c.loop-first.invariant (sym c.in_default.ensures.exact) some
