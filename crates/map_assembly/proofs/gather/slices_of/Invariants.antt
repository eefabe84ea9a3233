use Rattle.std.proofs.Common.{◌≡◌, ◌≤◌, All, map, take}
use Rattle.map_assembly.proofs.Common.{Minislots, RowFields}
use Rattle.map_assembly.proofs.gather.slices_of.Given as goal

abbrev pub invariant-loop-row : goal.invariant-loop-row
invariant-loop-row l = record {
  value : l.slices.items ≡ map (λ (row : RowFields). row.slice) (take l.row-index l.rows);
  some : All (λ (slice : Minislots). 1 ≤ slice.length) l.slices.items;
}
