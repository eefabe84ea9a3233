use Rattle.std.proofs.Common.{◌≡◌, map, take}
use Rattle.plant_script.proofs.on_threads.write_threads.Given as goal

abbrev pub invariant-loop-row : goal.invariant-loop-row
invariant-loop-row g l = record {
  writer : l.writer ≡ l.initial.writer;
  policies : map (λ ranking. ranking.policy) l.rankings.items ≡ map (λ row. row.policy) (take l.row-index l.row-items);
}
