use Rattle.std.proofs.Common.{subst}
use Rattle.plant_script.proofs.Common.{Appends, if_ok, PlantFields, Trace, RunsTo, EndsTraced, status_code}
use Rattle.plant_script.proofs.Reached.{memory_written}
use Rattle.plant_script.proofs.TracedRuns.{trace_written}
use Rattle.plant_script.proofs.tracing.write_traced_run.Goals as goal

pub returns : goal.returns
returns g c =
    let old = g.W.Write.contents c.args.writer.now in
    let new = g.W.Write.contents c.write_traced.new.writer in
    let status = status_code c.in_ok-status.status in
    trace_written c.args.plant c.args.script.now c.args.lines.items status old new
    (subst (λ (p : PlantFields). EndsTraced p c.args.script.now c.args.lines.items status (λ text. Appends old new text)) c.in-Ok.ensures.plant_is c.in_ok-status.ensures)

pub returns-in_default : goal.returns-in_default
returns-in_default g c =
    if_ok c.write_fault.result _ _ (λ status told. memory_written (RunsTo c.args.plant Trace c.args.script.now c.args.lines.items) (status_code status) _ told.0 told.1) c.write_fault.ensures
