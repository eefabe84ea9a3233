use Rattle.std.proofs.Common.{◌≡◌, drop}
use Rattle.plant.proofs.comparison.same.are_same_rows.Given as goal

abbrev pub invariant-loop-place : goal.invariant-loop-place
invariant-loop-place l = drop l.place l.a ≡ drop l.place l.b → l.a ≡ l.b
