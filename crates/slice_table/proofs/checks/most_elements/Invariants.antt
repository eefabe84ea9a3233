use Rattle.std.proofs.Common.{◌≡◌, ◌≤◌, ◌*◌, take, sum_by}
use Rattle.slice_table.proofs.checks.most_elements.Given as goal

abbrev pub invariant-loop-row : goal.invariant-loop-row
invariant-loop-row l = record {
  is : l.quotas ≡ sum_by (λ row. row.elements) (take l.row-index l.rows);
  most : l.quotas ≤ 235 * l.row-index;
}
