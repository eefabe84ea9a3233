use Rattle.std.proofs.Common.{◌-◌, ◌≤◌, length, take}
use Rattle.line_service.proofs.ScriptLemmas.Common.{Appends, flat_map, after_space, pending_text}
use Rattle.line_service.proofs.script.writing.write_pending.Given as goal

abbrev pub invariant-loop-place : goal.invariant-loop-place
invariant-loop-place g l = record {
  inside : l.place ≤ length l.pending;
  written : Appends (g.W.Write.contents l.fn.writer) (g.W.Write.contents l.writer) (flat_map (λ sid. after_space (pending_text sid)) (take l.place l.pending));
}

abbrev pub decreases-loop-place : goal.decreases-loop-place
decreases-loop-place g l = length l.pending - l.place
