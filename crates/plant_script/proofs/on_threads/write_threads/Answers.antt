-- Out of memory is reported as such; else it is what the run writes.
use Rattle.plant_script.proofs.Common.{if_ok, IsThreadedRunOf, status_code}
use Rattle.plant_script.proofs.Reached.{memory_written}
use Rattle.plant_script.proofs.on_threads.write_threads.Goals as goal

pub returns-in_default : goal.returns-in_default
returns-in_default g c =
    if_ok c.write_fault.result _ _
    (λ status told. memory_written (IsThreadedRunOf c.args.plant c.args.lines.items) (status_code status) _ told.0 (rw c.loop-row.invariant.writer at told.1))
    c.write_fault.ensures

pub returns-then-is_err : goal.returns-then-is_err
returns-then-is_err g c =
    if_ok c.write_fault-then-is_err.result _ _
    (λ status told. memory_written (IsThreadedRunOf c.args.plant c.args.lines.items) (status_code status) _ told.0 (rw c.loop-row.invariant.writer at told.1))
    c.write_fault-then-is_err.ensures

pub returns : goal.returns
returns g c = rw c.loop-row.invariant.writer at c.write_threaded_run.ensures
