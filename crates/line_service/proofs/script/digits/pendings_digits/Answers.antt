use Rattle.std.proofs.Common.{ℕ, length, ap, sym, ◌∙◌, arith}
use Rattle.line_service.proofs.ScriptLemmas.Common.{flat_map, drop_all, after_space, pending_text}
use Rattle.line_service.proofs.script.digits.pendings_digits.Goals as goal

pub loop-left-init : goal.loop-left-init
loop-left-init c = record {
  left_is = omega arith;
  has_room = omega (arith, c.requires);
  inside = omega arith;
  written =
      drop_all 256 c.args.room.now (omega (arith, c.told-room, c.fits-room))
      ∙ ap (flat_map (λ (sid : ℕ). after_space (pending_text sid))) (sym (drop_all (length c.args.pending.now) c.args.pending.now (omega arith)));
}
