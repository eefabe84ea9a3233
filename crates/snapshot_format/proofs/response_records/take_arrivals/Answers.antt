use Rattle.std.proofs.Common.{[], refl, arith}
use Rattle.snapshot_format.proofs.Common.{err_from_is_err_and, take_items}
use Rattle.snapshot_format.specs.Records.{take_arrival, arrival_follows, take_arrivals}
use Rattle.snapshot_format.proofs.Loop.{goes_on, ends}
use Rattle.snapshot_format.proofs.response_records.take_arrivals.Goals as goal

pub returns-in_err-arrival : goal.returns-in_err-arrival
unfolding take_arrivals
returns-in_err-arrival c =
    let exit = err_from_is_err_and c.from_residual.result c.from_residual.ensures.1 in
    rw (exit.1, exit.2) (ends take_arrival arrival_follows c.args.count c.loop.counter c.loop.arrivals.items c.loop.rest.now (take_items take_arrival arrival_follows c.args.count [] c.args.bytes.now) c.in_err-arrival.field-0.0 (omega arith) c.in_err-arrival.ensures c.loop.invariant)

pub loop-preserved : goal.loop-preserved
loop-preserved c = rw c.in_ok-push.ensures.items (goes_on take_arrival arrival_follows c.args.count c.loop.counter c.loop.arrivals.items c.loop.rest.now (take_items take_arrival arrival_follows c.args.count [] c.args.bytes.now) c.in_ok-arrival.arrival c.in_ok-arrival.after.now (omega arith) c.in_ok-arrival.ensures refl c.loop.invariant)
