use Rattle.std.proofs.Common.{◌≡◌, rules}
use Rattle.plant_workers.proofs.ReceiptsLemmas.Common.{Decides, slice_eq-Decides, Span}
use Rattle.slice_scheduler.specs.contracts.span.SpanPartialEq.TheImpl.{eq-value}
use Rattle.plant_workers.proofs.receipts.same.are_same_spans.Goals as goal

each : (a b : Span) → Decides (eq-value.it a b) (a ≡ b)
each a b = search rules

pub returns : goal.returns
returns c = slice_eq-Decides each c.args.a.now c.args.b.now c.eq.result c.eq.ensures
