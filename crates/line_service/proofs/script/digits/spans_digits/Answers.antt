use Rattle.std.proofs.Common.{length, ap, sym, ◌∙◌, arith}
use Rattle.line_service.proofs.ScriptLemmas.Common.{flat_map, drop_all, Span, after_space, span_text}
use Rattle.line_service.proofs.script.digits.spans_digits.Goals as goal

pub loop-left-init : goal.loop-left-init
loop-left-init c = record {
  left_is = omega arith;
  has_room = omega (arith, c.requires);
  inside = omega arith;
  written =
      drop_all 768 c.args.room.now (omega (arith, c.told-room, c.fits-room))
      ∙ ap (flat_map (λ (span : Span). after_space (span_text span))) (sym (drop_all (length c.args.spans.now) c.args.spans.now (omega arith)));
}
