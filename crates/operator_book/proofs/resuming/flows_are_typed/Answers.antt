use Rattle.std.proofs.Common.{ℕ, take, sym, arith}
use Rattle.operator_book.proofs.Common.{take_all, All-more, at_read, All-same, Flow, IsTypedFlow}
use Rattle.operator_book.proofs.resuming.flows_are_typed.Goals as goal

abbrev HasTypes : ℕ × Flow → Type 0
HasTypes entry = IsTypedFlow entry.1

pub loop-entry-preserved : goal.loop-entry-preserved
loop-entry-preserved c =
    let flows = c.args.flows.now in
    let i = c.loop-entry.entry-index in
    let x = c.entry-item.result in
    All-more HasTypes flows i x c.loop-entry-test.true c.loop-entry.invariant
    (at_read flows HasTypes i x c.loop-entry-test.true c.entry-item.is c.flow_is_typed.ensures x)

pub returns : goal.returns
returns c =
    let flows = c.args.flows.now in
    All-same HasTypes flows (take c.loop-entry.entry-index flows) (sym (take_all c.loop-entry.entry-index flows (omega (arith, c.loop-entry-test.false)))) c.loop-entry.invariant
