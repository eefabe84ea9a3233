use Rattle.std.proofs.Common.{◌≡◌, ◌++◌, All, take}
use Rattle.slice_scheduler.proofs.Common.{flat_map, award_pieces, HasMinislots}
use Rattle.slice_scheduler.proofs.packing.push_awards.Given as goal

abbrev pub invariant-loop-award : goal.invariant-loop-award
invariant-loop-award l = record {
  items : l.pieces.items ≡ l.fn.pieces.items ++ flat_map (award_pieces l.at) (take l.award-index l.awards);
  some : All HasMinislots l.pieces.items;
}
