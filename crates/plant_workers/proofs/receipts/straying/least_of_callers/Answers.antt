use Rattle.std.proofs.Common.{None, Option, List, ℕ, sym, subst}
use Rattle.plant_workers.proofs.ReceiptsLemmas.Common.{Receipt, lesser, IsLeastOr, StraysBehind, StandBehind, Strays, AllStand}
use Rattle.plant_workers.proofs.ReceiptsLemmas.LeastLemmas.{lesser-none}
use Rattle.plant_workers.proofs.ReceiptsLemmas.StrayLemmas.{callers_more, callers_end}
use Rattle.plant_workers.proofs.receipts.straying.least_of_callers.Goals as goal

pub loop-receipts-preserved : goal.loop-receipts-preserved
loop-receipts-preserved c = λ o rest.
    let all : ℕ → Type 0 = Strays c.args.history.now c.args.callers.now in
    let well : Type 0 = AllStand c.args.history.now c.args.callers.now in
    subst (λ (l : Option ℕ). IsLeastOr all well (lesser l o)) (sym c.lesser-least.ensures)
    (callers_more c.args.history.now all well c.args.callers.now c.loop-receipts.receipts-index c.receipts-item.result c.least_of_caller.result c.loop-receipts.least
    c.loop-receipts-test.true c.receipts-item.is
    (subst (λ (rs : List Receipt). IsLeastOr (StraysBehind c.args.history.now None rs) (StandBehind c.args.history.now None rs) c.least_of_caller.result) c.as_slice.ensures c.least_of_caller.ensures)
    c.loop-receipts.invariant o rest)

pub returns : goal.returns
returns c =
    let all : ℕ → Type 0 = Strays c.args.history.now c.args.callers.now in
    let well : Type 0 = AllStand c.args.history.now c.args.callers.now in
    subst (IsLeastOr all well) (lesser-none c.loop-receipts.least)
    (callers_end c.args.history.now all well c.args.callers.now c.loop-receipts.receipts-index c.loop-receipts.least c.loop-receipts-test.false c.loop-receipts.invariant)
