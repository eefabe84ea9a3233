-- What contracts see of a cell and of a pass, and what the calls of a cell change of a pass (implementation-specific).
use Rattle.std.specs.Prelude.{◌≡◌, ℕ, zero, suc, Bool, true, false, ◌⊎◌, List, [], ◌∷◌, ◌++◌, map, length, All, Contains}
use Rattle.atomic_table.specs.Seated.{TableId}
use Rattle.atomic_table.specs.declared.shared.Seat.{Seat}
use Rattle.operator_model.specs.declared.action.Action.{Action}
use Rattle.operator_model.specs.declared.action.Entry.{Entry}
use Rattle.operator_model.specs.State.{OperatorState}
use Rattle.operator_book.specs.declared.book.BookFault.TheVariants.{NotMine, FramesSpent, NoMemory}
use Rattle.plant_passes.specs.declared.view.MarkedEntry.{MarkedEntry}
use Rattle.plant_passes.specs.declared.view.Origin.{Origin}
use Rattle.plant_passes.specs.declared.view.Knowledge.{Knowledge}
use Rattle.plant_workers.specs.declared.receipts.receipt.Receipt.{Receipt}
use Rattle.plant_workers.specs.declared.cell_state.cell_fault.CellFault.{CellFault}
use Rattle.plant_workers.specs.declared.cell_state.cell_fault.CellFault.TheVariants.{Book, Closed}
use Rattle.plant_passes.specs.Runs.{IsOwnRun, state_after}
use Rattle.plant_passes.specs.Histories.{history_entry, mark_entry, entries, places, StartsWith}

-- ---- what contracts see

-- Of a cell: which it is, how many passes it has, and what its book was opened with.
pub record CellView : Type 0 where
  pub cell : TableId
  pub passes : ℕ
  pub origin : Origin

-- Of a pass: its cell, its number there, what the book was opened with, the history that it has seen, the places of its own
-- entries, whether it has found the cell closed, and whether a refused turn of its own has closed it.
pub record PassView : Type 0 where
  pub cell : TableId
  pub number : ℕ
  pub origin : Origin
  pub seen : List MarkedEntry
  pub made : List ℕ
  pub closed : Bool
  pub ended_cell : Bool

-- what contracts see of a seat of this cell that knows this
abbrev pub seat_view : {X : Type 0} → TableId → Knowledge X → PassView
seat_view cell known = record {
  cell = cell;
  number = known.number;
  origin = known.origin;
  seen = known.seen;
  made = known.made;
  closed = known.closed;
  ended_cell = known.ended_cell;
}

-- what contracts see of the pass at a seat
abbrev pub pass_view : {S X : Type 0} → Seat S (Knowledge X) → PassView
pass_view seat = seat_view seat.table_id seat.me.0

-- the pass is of this cell
pub record IsOfCell (c : CellView) (p : PassView) : Type 0 where
  pub cell : p.cell ≡ c.cell
  pub origin : p.origin ≡ c.origin

-- it is the same pass, at another time
pub record IsSamePass (before after : PassView) : Type 0 where
  pub cell : after.cell ≡ before.cell
  pub number : after.number ≡ before.number
  pub origin : after.origin ≡ before.origin

-- ---- opening

-- a pass of this number, which has seen this past
abbrev pub first_pass : TableId → Origin → List MarkedEntry → ℕ → PassView
first_pass cell origin past n = record {
  cell = cell;
  number = n;
  origin = origin;
  seen = past;
  made = [];
  closed = false;
  ended_cell = false;
}

-- the passes of the numbers from n down to 1
abbrev pub first_passes : TableId → Origin → List MarkedEntry → ℕ → List PassView
first_passes cell origin past zero = []
first_passes cell origin past (suc n) = first_pass cell origin past (suc n) ∷ first_passes cell origin past n

-- ---- acting

-- The history that is then seen begins with what was seen, is the own machine's, and ends with this action and the receipt's
-- outputs, at the receipt's index. Of this pass it has the entries that the pass had made, and this one. The entries between
-- are other passes'.
pub record ActsInTurn (before : PassView) (action : Action) (receipt : Receipt) (after : PassView) : Type 0 where
  pub same : IsSamePass before after
  pub action_is : receipt.action ≡ action
  pub between : List MarkedEntry
  pub seen : after.seen ≡ (before.seen ++ between) ++ mark_entry before.number (history_entry action receipt.outputs) ∷ []
  pub index_is : receipt.index ≡ length (before.seen ++ between)
  pub made : after.made ≡ before.made ++ receipt.index ∷ []
  pub own : after.made ≡ places after.number after.seen
  pub run : IsOwnRun after.origin (entries after.seen)
  pub going : after.closed ≡ false
  pub ended_cell : after.ended_cell ≡ before.ended_cell

-- The pass has seen the history so far, and made no entry.
pub record LooksOn (before after : PassView) : Type 0 where
  pub same : IsSamePass before after
  pub seen : StartsWith after.seen before.seen
  pub made : after.made ≡ before.made
  pub own : after.made ≡ places after.number after.seen
  pub run : IsOwnRun after.origin (entries after.seen)

-- the pass has seen the history so far and made no entry, and another pass or an earlier turn had closed the cell
abbrev pub FindsClosed : PassView → PassView → Type 0
FindsClosed before after = LooksOn before after × (after.closed ≡ true) × (after.ended_cell ≡ before.ended_cell)

-- the pass has seen the history so far and made no entry, and the cell is open
abbrev pub FindsOpen : PassView → PassView → Type 0
FindsOpen before after = LooksOn before after × (after.closed ≡ false) × (after.ended_cell ≡ before.ended_cell)

-- the pass made no entry, and has closed the cell by a refused turn after the history that it then has seen
abbrev pub EndsCell : PassView → PassView → Type 0
EndsCell before after = LooksOn before after × (after.closed ≡ true) × (after.ended_cell ≡ true)

-- the machine's state after the history that was seen
abbrev pub state_seen : PassView → OperatorState
state_seen p = state_after p.origin (entries p.seen)

-- what a refusal leaves that comes once a turn was requested
abbrev pub RefusesTurn : PassView → CellFault → PassView → Type 0
RefusesTurn before (Book FramesSpent) after = EndsCell before after × ((state_seen after).frame ≡ 4294967295)
RefusesTurn before (Book NoMemory) after = EndsCell before after
RefusesTurn before Closed after = FindsClosed before after
RefusesTurn before fault after = ⊥

-- What refuses an arrival before its turn: the cell is found closed, or there is no memory for a copy of it and the cell is
-- found open (implementation-specific).
abbrev pub RefusesBeforeTurn : PassView → CellFault → Type 0
RefusesBeforeTurn after (Book NoMemory) = after.closed ≡ false
RefusesBeforeTurn after Closed = after.closed ≡ true
RefusesBeforeTurn after fault = ⊥

-- What a refusal of an arrival leaves. A stranger is refused before a turn is requested. Memory may run out before it too,
-- where the cell was found open.
abbrev pub RefusesArrival : PassView → CellFault → PassView → Type 0
RefusesArrival before (Book (NotMine modem)) after = after ≡ before
RefusesArrival before (Book NoMemory) after = EndsCell before after ⊎ FindsOpen before after
RefusesArrival before fault after = RefusesTurn before fault after

-- ---- meeting

-- The pass that is told has seen what either had seen, and knows the cell closed where either did. What is its own stays.
pub record HasMet (before teller after : PassView) : Type 0 where
  pub looks : LooksOn before after
  pub told : StartsWith after.seen teller.seen
  pub ended_cell : after.ended_cell ≡ before.ended_cell
  pub closed : before.closed ≡ true → after.closed ≡ true
  pub told_closed : teller.closed ≡ true → after.closed ≡ true

-- ---- closing

-- this history is the longest that one of these passes has seen, and begins with what each has seen
pub record IsLongest (passes : List PassView) (history : List Entry) : Type 0 where
  pub longest : List MarkedEntry
  pub among : Contains (map (λ p. p.seen) passes) longest
  pub begins : All (λ p. StartsWith longest p.seen) passes
  pub entries_are : history ≡ entries longest
