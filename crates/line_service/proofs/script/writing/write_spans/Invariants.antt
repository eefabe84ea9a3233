use Rattle.std.proofs.Common.{◌-◌, ◌≤◌, length, take}
use Rattle.line_service.proofs.ScriptLemmas.Common.{Appends, flat_map, after_space, span_text}
use Rattle.line_service.proofs.script.writing.write_spans.Given as goal

abbrev pub invariant-loop-place : goal.invariant-loop-place
invariant-loop-place g l = record {
  inside : l.place ≤ length l.spans;
  written : Appends (g.W.Write.contents l.fn.writer) (g.W.Write.contents l.writer) (flat_map (λ span. after_space (span_text span)) (take l.place l.spans));
}

abbrev pub decreases-loop-place : goal.decreases-loop-place
decreases-loop-place g l = length l.spans - l.place
