use Rattle.std.proofs.Common.{rules}
use Rattle.std.proofs.Common.{◌≡◌}
use Rattle.plant_workers.proofs.ReceiptsLemmas.Common.{Decides, slice_eq-Decides, MapSpan}
use Rattle.map_assembly.specs.contracts.view.MapSpanPartialEq.TheImpl.{eq-value}
use Rattle.plant_workers.proofs.receipts.own_part.are_same_spans.Goals as goal

each : (a b : MapSpan) → Decides (eq-value.it a b) (a ≡ b)
each a b = search rules

pub returns : goal.returns
returns c = slice_eq-Decides each c.args.a.now c.args.b.now c.eq.result c.eq.ensures
