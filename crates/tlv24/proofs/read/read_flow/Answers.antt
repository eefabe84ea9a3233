use Rattle.std.proofs.Common.{◌≡◌, ◌≢◌, length, arith, refl, sym, ap, ◌∙◌}
use Rattle.std.proofs.lemmas.Bool.Decides.{nat_tests}
use Rattle.tlv24.proofs.Sound.{read_nothing, read_more, read_all, read_flow_of, read_in_range, cut_exact, cut_first, fault_exact, fault_first, one_flow, refused, flow_ok}
use Rattle.tlv24.proofs.read.read_flow.Goals as goal

pub loop-rest-init : goal.loop-rest-init
loop-rest-init c = read_nothing c.args.bytes.now _ refl

pub returns-in_default-clause-only : goal.returns-in_default-clause-only
returns-in_default-clause-only c m says =
    let some : length c.loop-rest.rest.now ≢ 0 = grind (arith, nat_tests, c.loop-rest-test.ensures) in
    absurd (refused c.args.bytes.now m c.fault_after.result says (cut_first c.args.bytes.now c.loop-rest.rest.now c.loop-rest.fields c.fault_after.result c.loop-rest.invariant some c.in_default.ensures.begins c.fault_after.ensures))

pub returns-in_default-clause-fault : goal.returns-in_default-clause-fault
returns-in_default-clause-fault c =
    let some : length c.loop-rest.rest.now ≢ 0 = grind (arith, nat_tests, c.loop-rest-test.ensures) in
    cut_first c.args.bytes.now c.loop-rest.rest.now c.loop-rest.fields c.fault_after.result c.loop-rest.invariant some c.in_default.ensures.begins c.fault_after.ensures

pub returns-in_default-clause-exact : goal.returns-in_default-clause-exact
returns-in_default-clause-exact c =
    let some : length c.loop-rest.rest.now ≢ 0 = grind (arith, nat_tests, c.loop-rest-test.ensures) in
    sym (cut_exact c.args.bytes.now c.loop-rest.rest.now c.loop-rest.fields c.fault_after.result c.loop-rest.invariant some (sym c.in_default.ensures.exact) c.fault_after.ensures)

pub returns-in-Some-fault_of-clause-only : goal.returns-in-Some-fault_of-clause-only
returns-in-Some-fault_of-clause-only c m says =
    absurd (refused c.args.bytes.now m c.fault_after-in-Some-fault_of.result says
    (fault_first c.args.bytes.now c.loop-rest.rest.now c.loop-rest.fields c.in-Some.first.kind c.in-Some.first.value.now c.in-Some.first.rest.now c.in-Some-fault_of.fault c.fault_after-in-Some-fault_of.result
    c.loop-rest.invariant c.in-Some.ensures.begins c.in-Some-fault_of.ensures c.fault_after-in-Some-fault_of.ensures))

pub returns-in-Some-fault_of-clause-fault : goal.returns-in-Some-fault_of-clause-fault
returns-in-Some-fault_of-clause-fault c =
    fault_first c.args.bytes.now c.loop-rest.rest.now c.loop-rest.fields c.in-Some.first.kind c.in-Some.first.value.now c.in-Some.first.rest.now c.in-Some-fault_of.fault c.fault_after-in-Some-fault_of.result
    c.loop-rest.invariant c.in-Some.ensures.begins c.in-Some-fault_of.ensures c.fault_after-in-Some-fault_of.ensures

pub returns-in-Some-fault_of-clause-exact : goal.returns-in-Some-fault_of-clause-exact
returns-in-Some-fault_of-clause-exact c =
    sym (fault_exact c.args.bytes.now c.loop-rest.rest.now c.loop-rest.fields c.in-Some.first.kind c.in-Some.first.value.now c.in-Some.first.rest.now c.in-Some-fault_of.fault c.fault_after-in-Some-fault_of.result
    c.loop-rest.invariant c.in-Some.ensures.exact c.in-Some-fault_of.ensures c.fault_after-in-Some-fault_of.ensures)

pub loop-rest-preserved : goal.loop-rest-preserved
loop-rest-preserved c =
    read_more c.args.bytes.now c.loop-rest.rest.now c.loop-rest.fields c.set_field.new.fields c.in-Some.first.kind c.in-Some.first.value.now c.in-Some.first.rest.now
    c.loop-rest.invariant c.in-Some.ensures.exact c.in-Some.ensures.begins c.in_default-fault_of.ensures c.set_field.ensures

pub new-requires : goal.new-requires
new-requires c = read_in_range c.args.bytes.now c.loop-rest.rest.now c.loop-rest.fields c.loop-rest.invariant

pub returns-clause-only : goal.returns-clause-only
returns-clause-only c m says =
    let none : length c.loop-rest.rest.now ≡ 0 = grind (arith, nat_tests, c.loop-rest-test.ensures) in
    let here = read_flow_of c.args.bytes.now c.loop-rest.rest.now c.loop-rest.fields c.loop-rest.invariant none in
    ap flow_ok (c.new.ensures ∙ one_flow c.args.bytes.now c.loop-rest.fields m here says)

pub returns-clause-exact : goal.returns-clause-exact
returns-clause-exact c =
    let none : length c.loop-rest.rest.now ≡ 0 = grind (arith, nat_tests, c.loop-rest-test.ensures) in
    ap flow_ok c.new.ensures ∙ sym (read_all c.args.bytes.now c.loop-rest.rest.now c.loop-rest.fields c.loop-rest.invariant none)
