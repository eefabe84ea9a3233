-- What contracts see of what is behind an operator's lock (implementation-specific).
use Rattle.std.specs.Prelude.{ℕ, List}
use Rattle.slice_scheduler.specs.declared.elements.ElementsFields.{ElementsFields}
use Rattle.operator_model.specs.Replay.{BookView}
use Rattle.plant_core.specs.Waiting.{waiting_in}
use Rattle.plant_workers.specs.declared.cell_state.held.Held.{Held}

-- the book of what a lock guards
abbrev pub cell_book : {D : Type 0} {F : D → Type 0} {m : _} → Held D F m → BookView
cell_book held = held.book.kept.book

-- the frames that wait: those of the history after the ones collected
abbrev pub waiting_of : {D : Type 0} {F : D → Type 0} {m : _} → Held D F m → List (ℕ × ElementsFields)
waiting_of held = waiting_in held.book.kept.book.history held.collected

-- how many entries more its history has room for
abbrev pub history_room : {D : Type 0} {F : D → Type 0} {m : _} → Held D F m → ℕ
history_room held = held.book.kept.spare
