use Rattle.std.proofs.Common.{[]}
use Rattle.plant_script.proofs.Common.{Appends-kept, first_start, status_code}
use Rattle.plant_core.specs.live.LiveView.{live_view}
use Rattle.plant_script.proofs.LiveRuns.{run_ends}
use Rattle.plant_script.proofs.running.write_run.Goals as goal

pub returns : goal.returns
returns g c plant after =
    run_ends plant c.args.lines.items (live_view c.run_steps_by.new.core) c.in_ok-end.end (status_code c.in_ok-status.status) (g.W.Write.contents c.args.writer.now) (g.W.Write.contents c.run_steps_by.new.writer) (g.W.Write.contents c.flush.new.self)
    (c.in_ok-end.ensures plant (first_start plant) [] [] after) c.in_ok-status.ensures.status (Appends-kept _ _ _ _ c.in_ok-status.ensures.written c.in_ok-flush.ensures.bytes)
