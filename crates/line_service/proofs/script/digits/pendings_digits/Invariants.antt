use Rattle.std.proofs.Common.{◌≡◌, ◌*◌, ◌≤◌, length, drop}
use Rattle.line_service.proofs.ScriptLemmas.Common.{flat_map, after_space, pending_text}
use Rattle.line_service.proofs.script.digits.pendings_digits.Given as goal

-- the grants pending from a place on are written, and the others have room before them
abbrev pub invariant-loop-left : goal.invariant-loop-left
invariant-loop-left l = record {
  left_is : l.left ≤ length l.pending;
  has_room : 8 * l.left ≤ l.place;
  inside : l.place ≤ 256;
  written : drop l.place l.room ≡ flat_map (λ sid. after_space (pending_text sid)) (drop l.left l.pending);
}

abbrev pub decreases-loop-left : goal.decreases-loop-left
decreases-loop-left l = l.left
