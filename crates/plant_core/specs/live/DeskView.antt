-- What contracts see of an operator's live desk (implementation-specific).
use Rattle.std.specs.Prelude.{ℕ, List, []}
use Rattle.slice_scheduler.specs.declared.elements.ElementsFields.{ElementsFields}
use Rattle.operator_model.specs.State.{Operator}
use Rattle.operator_model.specs.Replay.{BookView}
use Rattle.plant_core.specs.declared.live.desk.LiveSlot.{LiveSlot}

-- the book of an operator of which no history is kept
abbrev pub book_of : Operator → BookView
book_of o = record { row = o.row; consts = o.consts; state = o.state; history = [] }

-- the desk's book, without a history
abbrev pub slot_book : LiveSlot → BookView
slot_book desk = book_of desk.live.sound

-- its frames that wait
abbrev pub slot_waiting : LiveSlot → List (ℕ × ElementsFields)
slot_waiting desk = desk.waiting.items
