use Rattle.plant_script.proofs.Common.{Appends-kept, core_view, status_code}
use Rattle.plant_script.proofs.TracedRuns.{trace_ends}
use Rattle.plant_script.proofs.tracing.write_traced.Goals as goal

pub returns : goal.returns
returns g c =
    trace_ends (core_view c.args.core.now).plant c.args.script.now c.args.lines.items (core_view c.write_trace.new.core) c.in_ok-end.end (status_code c.in_ok-status.status) (g.W.Write.contents c.args.writer.now)
    (g.W.Write.contents c.write_trace.new.writer) (g.W.Write.contents c.flush.new.self) c.in_ok-end.ensures c.in_ok-status.ensures.status
    (Appends-kept _ _ _ _ c.in_ok-status.ensures.written c.in_ok-flush.ensures.bytes)
