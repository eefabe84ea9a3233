use Rattle.std.proofs.Common.{Contains, ℕ, ◌<◌, slice_index_or}
use Rattle.plant.specs.declared.class_table.Class.{Class}
use Rattle.plant.proofs.comparison.same.has_classes.Given as goal

abbrev pub invariant-loop-class : goal.invariant-loop-class
invariant-loop-class l = (k : ℕ) (d : Class) → k < l.class-index → Contains l.new (slice_index_or l.old k d)
