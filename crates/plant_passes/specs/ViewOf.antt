-- What contracts see of a cell and of a pass (implementation-specific).
use Rattle.plant_passes.specs.declared.pass.PassedCell.{PassedCell}
use Rattle.plant_passes.specs.declared.pass.Pass.{Pass}
use Rattle.plant_passes.specs.Runs.{origin_of}
use Rattle.plant_passes.specs.Passes.{CellView, PassView, pass_view}

-- what contracts see of a cell: which it is, how many passes it has, and what its book was opened with
abbrev pub cell_of : {D : Type 0} {F : D → Type 0} {m : _} → PassedCell D F m → CellView
cell_of c = record {
  cell = c.table.shared.table_id;
  passes = c.passes;
  origin = origin_of c.table.shared.key.book.value.kept.book;
}

-- what contracts see of a pass
abbrev pub pass_of : {D : Type 0} {F : D → Type 0} {m : _} → Pass D F m → PassView
pass_of p = pass_view p.seat
