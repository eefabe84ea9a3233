use Rattle.std.proofs.Common.{◌≡◌, true, false, [], eqb, sym, arith}
use Rattle.std.proofs.lemmas.Bool.Decides.{nat_tests}
use Rattle.std.proofs.lemmas.Result.{err_from_is_err_and}
use Rattle.dsx_messages.proofs.Common.{front_of, values_of, upstream_service_flow, flows_read_after}
use Rattle.dsx_messages.proofs.Passes.{fails, flows_skip, flows_take, flows_stop, flows_end}
use Rattle.dsx_messages.proofs.reading.flows_of.Goals as goal
use Rattle.dsx_messages.proofs.reading.flows_of.Goals.{then-first-eq-UPSTREAM_SERVICE_FLOW+in_ok-flow+in_ok-push, else-first-eq-UPSTREAM_SERVICE_FLOW}

pub returns-in_err-flow : goal.returns-in_err-flow
returns-in_err-flow c =
    let total = flows_read_after c.args.tid c.args.kind [] (values_of upstream_service_flow (front_of c.args.list.now).tlvs) in
    let same : eqb c.in-Some.first.kind upstream_service_flow ≡ true = grind (arith, nat_tests, c.if-first-eq-UPSTREAM_SERVICE_FLOW.true) in
    let p = err_from_is_err_and c.from_residual-in_err-flow.result c.from_residual-in_err-flow.ensures.1 in
    rw (p.1, p.2) (fails c.in_err-flow.field-0.0 total
    (flows_stop c.args.tid c.args.kind c.loop-first.rest.now c.loop-first.flows.items c.in-Some.first.kind c.in-Some.first.value.now c.in-Some.first.rest.now total c.in_err-flow.field-0.0 c.in-Some.ensures.exact c.loop-first.invariant same c.in_err-flow.ensures))

pub loop-first-preserved : goal.loop-first-preserved
loop-first-preserved c =
    let total = flows_read_after c.args.tid c.args.kind [] (values_of upstream_service_flow (front_of c.args.list.now).tlvs) in
    elim c.if-first-eq-UPSTREAM_SERVICE_FLOW.branch [
      | then-first-eq-UPSTREAM_SERVICE_FLOW+in_ok-flow+in_ok-push w ↦
          let same : eqb c.in-Some.first.kind upstream_service_flow ≡ true = grind (arith, nat_tests, w.if-first-eq-UPSTREAM_SERVICE_FLOW.true) in
          rw (w.flows-is, w.in_ok-push.ensures.items) (flows_take c.args.tid c.args.kind c.loop-first.rest.now c.loop-first.flows.items c.in-Some.first.kind c.in-Some.first.value.now c.in-Some.first.rest.now total w.in_ok-flow.flow c.in-Some.ensures.exact c.loop-first.invariant same w.in_ok-flow.ensures)
      | else-first-eq-UPSTREAM_SERVICE_FLOW w ↦
          let other : eqb c.in-Some.first.kind upstream_service_flow ≡ false = grind (arith, nat_tests, w.if-first-eq-UPSTREAM_SERVICE_FLOW.false) in
          rw w.flows-is (flows_skip c.args.tid c.args.kind c.loop-first.rest.now c.loop-first.flows.items c.in-Some.first.kind c.in-Some.first.value.now c.in-Some.first.rest.now total c.in-Some.ensures.exact c.loop-first.invariant other)
    ]

pub returns : goal.returns
returns c =
    let total = flows_read_after c.args.tid c.args.kind [] (values_of upstream_service_flow (front_of c.args.list.now).tlvs) in
    flows_end c.args.tid c.args.kind c.loop-first.rest.now c.loop-first.flows.items total (sym c.in_default.ensures.exact) c.loop-first.invariant
