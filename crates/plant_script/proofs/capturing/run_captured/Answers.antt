use Rattle.std.proofs.Common.{arith}
use Rattle.plant_script.proofs.Common.{core_view, step_fault, if_ok, fault_is_told}
use Rattle.plant_script.proofs.CaptureRuns.{none_captured, captured_more, all_captured, captured_refused}
use Rattle.plant_script.proofs.capturing.run_captured.Goals as goal

pub loop-line-init : goal.loop-line-init
loop-line-init g c = none_captured (core_view c.args.core.now).plant (core_view c.args.core.now) c.args.capture.now c.requires.opened c.requires.empty

pub loop-line-preserved : goal.loop-line-preserved
loop-line-preserved g c =
    let at = c.loop-line in
    captured_more (core_view c.args.core.now).plant c.args.lines.now at.line-index c.line-item.result c.in_ok-step.step (core_view at.core) (core_view c.step_over.new.self) at.capture c.put_turn.new.capture c.step_over.new.outs.items c.as_slice.result.now
    c.loop-line-test.true c.line-item.is c.in_ok-step.ensures c.as_slice.ensures.value at.invariant c.in-Ok.ensures.reached c.in_ok-put_turn-in-Ok.ensures

pub returns-in-Err : goal.returns-in-Err
returns-in-Err g c =
    let at = c.loop-line in
    if_ok c.refused_line.result _ _
    (λ refused told. rw told.0 (captured_refused (core_view c.args.core.now).plant c.args.lines.now at.line-index c.line-item.result c.in_ok-step.step (core_view at.core) (core_view c.step_over.new.self) at.capture c.in-Err.fault
    c.loop-line-test.true c.line-item.is c.in_ok-step.ensures at.invariant c.in-Err.ensures.err (fault_is_told (Unit {0}) c.in-Err.fault (step_fault (core_view at.core) c.in_ok-step.step) c.in-Err.ensures.fault told.1)))
    c.refused_line.ensures

pub returns : goal.returns
returns g c =
    let at = c.loop-line in
    all_captured (core_view c.args.core.now).plant c.args.lines.now at.line-index (core_view at.core) at.capture (omega (arith, c.loop-line-test.false)) at.invariant
