use Rattle.std.proofs.Common.{None, Option, ℕ, sym, subst}
use Rattle.plant_workers.specs.receipts.Straying.{lesser, IsLeastOr, StraysBehind, StandBehind}
use Rattle.plant_workers.proofs.ReceiptsLemmas.LeastLemmas.{lesser-none}
use Rattle.plant_workers.proofs.ReceiptsLemmas.StrayLemmas.{caller_more, caller_end}
use Rattle.plant_workers.proofs.receipts.straying.least_of_caller.Goals as goal

pub loop-receipt-preserved : goal.loop-receipt-preserved
loop-receipt-preserved c = λ o rest.
    let all : ℕ → Type 0 = StraysBehind c.args.history.now None c.args.receipts.now in
    let well : Type 0 = StandBehind c.args.history.now None c.args.receipts.now in
    subst (λ (l : Option ℕ). IsLeastOr all well (lesser l o)) (sym c.lesser-least.ensures)
    (caller_more c.args.history.now all well c.loop-receipt.before c.args.receipts.now c.loop-receipt.receipt-index c.receipt-item.result c.stray_index.result c.loop-receipt.least
    c.loop-receipt-test.true c.receipt-item.is c.stray_index.ensures c.loop-receipt.invariant o rest)

pub returns : goal.returns
returns c =
    let all : ℕ → Type 0 = StraysBehind c.args.history.now None c.args.receipts.now in
    let well : Type 0 = StandBehind c.args.history.now None c.args.receipts.now in
    subst (IsLeastOr all well) (lesser-none c.loop-receipt.least)
    (caller_end c.args.history.now all well c.loop-receipt.before c.args.receipts.now c.loop-receipt.receipt-index c.loop-receipt.least c.loop-receipt-test.false c.loop-receipt.invariant)
