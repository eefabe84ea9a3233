use Rattle.std.proofs.Common.{◌≡◌, take}
use Rattle.state_service.proofs.DurableLemmas.Common.{texts, joined_text}
use Rattle.state_service.proofs.durable.lines.join_lines.Given as goal

abbrev pub invariant-loop-line : goal.invariant-loop-line
invariant-loop-line l = record { so_far : l.text.items ≡ joined_text (texts (take l.line-index l.lines)) }
