use Rattle.std.proofs.Common.{◌≡◌, ◌∷◌, take}
use Rattle.state_service.proofs.DurableLemmas.Common.{texts, count_line}
use Rattle.state_service.proofs.durable.lines.snapshot_lines.Given as goal

abbrev pub invariant-loop-line : goal.invariant-loop-line
invariant-loop-line l = record { so_far : l.snapshot ≡ count_line l.fn.count ∷ texts (take l.line-index l.lines) }
