use Rattle.std.proofs.Common.{ap}
use Rattle.plant_script.proofs.Common.{Vec, core_view}
use Rattle.plant_script.proofs.CaptureRuns.{filed_run}
use Rattle.plant_script.proofs.capturing.answer_of_capture.Goals as goal

pub returns : goal.returns
returns g c =
    filed_run (core_view c.args.core.now).plant c.args.lines.items c.as_slice.result.now c.in_ok-refused.refused (core_view c.run_captured.new.core) c.run_captured.new.capture c.in_ok-file.file.items c.answer_of_file.result
    c.as_slice.ensures.value c.in_ok-refused.ensures c.in_ok-file.ensures.of_run (ap (λ (v : Vec _). v.items) c.answer_of_file.ensures.text) c.answer_of_file.ensures.status
