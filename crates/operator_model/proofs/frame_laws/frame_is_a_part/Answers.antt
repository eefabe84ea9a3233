use Rattle.std.proofs.Common.{refl}
use Rattle.operator_model.proofs.PartLemmas.{part_tiled, part_spans, part_pending, part_some, part_nobody, part_few}
use Rattle.operator_model.proofs.frame_laws.frame_is_a_part.Goals as goal

pub returns : goal.returns
returns c = record {
  slice = λ op. refl;
  tiled = part_tiled;
  spans_mine = part_spans;
  pending_mine = part_pending;
  spans_not_null = part_nobody;
  pending_not_null = part_some;
  few = part_few;
}
