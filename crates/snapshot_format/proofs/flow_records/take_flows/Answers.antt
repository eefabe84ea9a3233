use Rattle.std.proofs.Common.{◌≡◌, ◌-◌, Bool, true, false, List, [], length, slice_get, sym, ◌∙◌, arith, rules}
use Rattle.snapshot_format.proofs.Common.{SavedFlow, take_items}
use Rattle.snapshot_format.specs.Records.{take_flow, flow_follows, take_flows, can_follow}
use Rattle.snapshot_format.proofs.Loop.{goes_on, repeats, ends}
use Rattle.snapshot_format.proofs.flow_records.take_flows.Goals as goal

-- what the code tests is whether the flow may follow
flow_test : (before items : List SavedFlow) (flow : SavedFlow) (said other : Bool) → said ≡ can_follow (slice_get items (length items - 1)) flow.sfid → items ≡ before → said ≡ other
    → flow_follows before flow ≡ other
flow_test before items flow said other e same is = rw (← same) (sym e ∙ is)

pub returns-in-Err : goal.returns-in-Err
unfolding take_flows
returns-in-Err c = ends take_flow flow_follows c.args.count c.loop.counter c.loop.flows.items c.loop.rest.now (take_items take_flow flow_follows c.args.count [] c.args.bytes.now) c.in-Err.fault (omega arith) c.in-Err.ensures c.loop.invariant

pub returns-then-not-may_follow : goal.returns-then-not-may_follow
unfolding take_flows
returns-then-not-may_follow c =
    let follows = flow_test c.loop.flows.items c.deref.result.now c.in-Ok.taken.0 c.may_follow.result false c.may_follow.ensures c.deref.ensures.value (search rules) in
    rw c.stop_at.ensures (repeats take_flow flow_follows c.args.count c.loop.counter c.loop.flows.items c.loop.rest.now (take_items take_flow flow_follows c.args.count [] c.args.bytes.now) c.in-Ok.taken.0 c.in-Ok.taken.1.now (omega arith) c.in-Ok.ensures follows c.loop.invariant)

pub loop-preserved : goal.loop-preserved
loop-preserved c =
    let follows = flow_test c.loop.flows.items c.deref.result.now c.in-Ok.taken.0 c.may_follow.result true c.may_follow.ensures c.deref.ensures.value (search rules) in
    rw c.in_ok-push.ensures.items (goes_on take_flow flow_follows c.args.count c.loop.counter c.loop.flows.items c.loop.rest.now (take_items take_flow flow_follows c.args.count [] c.args.bytes.now) c.in-Ok.taken.0 c.in-Ok.taken.1.now (omega arith) c.in-Ok.ensures follows c.loop.invariant)
