use Rattle.std.proofs.Common.{◌≡◌, ◌*◌, ◌≤◌, length, drop}
use Rattle.line_service.proofs.ScriptLemmas.Common.{flat_map, after_space, span_text}
use Rattle.line_service.proofs.script.digits.spans_digits.Given as goal

-- the spans from a place on are written, and the others have room before them
abbrev pub invariant-loop-left : goal.invariant-loop-left
invariant-loop-left l = record {
  left_is : l.left ≤ length l.spans;
  has_room : 24 * l.left ≤ l.place;
  inside : l.place ≤ 768;
  written : drop l.place l.room ≡ flat_map (λ span. after_space (span_text span)) (drop l.left l.spans);
}

abbrev pub decreases-loop-left : goal.decreases-loop-left
decreases-loop-left l = l.left
