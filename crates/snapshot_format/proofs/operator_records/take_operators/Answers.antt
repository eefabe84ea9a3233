use Rattle.std.proofs.Common.{◌≡◌, Bool, true, false, not, List, [], ap, sym, ◌∙◌, arith, rules}
use Rattle.snapshot_format.proofs.Common.{err_from_is_err_and, list_any, bytes_eq, SavedOperator, take_items}
use Rattle.snapshot_format.specs.Records.{take_operator, operator_follows, take_operators}
use Rattle.snapshot_format.proofs.Loop.{goes_on, repeats, ends}
use Rattle.snapshot_format.proofs.operator_records.take_operators.Goals as goal

-- what the code tests is whether the operator may not follow
operator_test : (before items : List SavedOperator) (operator : SavedOperator) (said other : Bool) → said ≡ list_any (λ another. bytes_eq another.name operator.name) items → items ≡ before → said ≡ other
    → operator_follows before operator ≡ not other
operator_test before items operator said other e same is = rw (← same) (ap not (sym e ∙ is))

pub returns-in_err-operator : goal.returns-in_err-operator
unfolding take_operators
returns-in_err-operator c =
    let exit = err_from_is_err_and c.from_residual.result c.from_residual.ensures.1 in
    rw (exit.1, exit.2) (ends take_operator operator_follows c.args.count c.loop.counter c.loop.operators.items c.loop.rest.now (take_items take_operator operator_follows c.args.count [] c.args.bytes.now) c.in_err-operator.field-0.0 (omega arith) c.in_err-operator.ensures c.loop.invariant)

pub returns-then-has_name : goal.returns-then-has_name
unfolding take_operators
returns-then-has_name c =
    let follows = operator_test c.loop.operators.items c.deref.result.now c.in_ok-operator.operator c.has_name.result true c.has_name.ensures c.deref.ensures.value (search rules) in
    rw c.stop_at.ensures (repeats take_operator operator_follows c.args.count c.loop.counter c.loop.operators.items c.loop.rest.now (take_items take_operator operator_follows c.args.count [] c.args.bytes.now) c.in_ok-operator.operator c.in_ok-operator.after.now (omega arith) c.in_ok-operator.ensures follows c.loop.invariant)

pub loop-preserved : goal.loop-preserved
loop-preserved c =
    let follows = operator_test c.loop.operators.items c.deref.result.now c.in_ok-operator.operator c.has_name.result false c.has_name.ensures c.deref.ensures.value (search rules) in
    rw c.in_ok-push.ensures.items (goes_on take_operator operator_follows c.args.count c.loop.counter c.loop.operators.items c.loop.rest.now (take_items take_operator operator_follows c.args.count [] c.args.bytes.now) c.in_ok-operator.operator c.in_ok-operator.after.now (omega arith) c.in_ok-operator.ensures follows c.loop.invariant)
