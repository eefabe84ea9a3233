-- What each kind of step on a cell's table changes of the seat that takes it (implementation-specific).
use Rattle.std.specs.Prelude.{◌≡◌, ◌≢◌, ℕ, ◌<◌, true, false, List, [], ◌∷◌, ◌++◌, length, Some, None}
use Rattle.atomic_table.specs.Table.{rest}
use Rattle.operator_model.specs.declared.action.Entry.{Entry}
use Rattle.plant_passes.specs.declared.view.Knowledge.{Knowledge}
use Rattle.plant_passes.specs.declared.view.BookParts.{BookParts}
use Rattle.plant_passes.specs.Runs.{origin_of, IsOwnRun}
use Rattle.plant_passes.specs.Histories.{mark_entry, entries, places, StartsWith, StartsWithAll}
use Rattle.plant_passes.specs.Seats.{closing_mark, CellSlot, CellStep, SeatNow, knowledge, hand}

-- ---- a ticket is drawn

module _ {X : Type 0} where
  -- a seat that has drawn this ticket
  abbrev pub with_ticket : Knowledge X → ℕ → Knowledge X
  with_ticket known ticket = record known { ticket = Some ticket }

  -- where the ticket word was the one that was expected, the seat has that ticket; else nothing changed
  abbrev pub DrawsTicket : CellStep X → SeatNow X → ℕ → SeatNow X → Type 0
  DrawsTicket step before found after =
      (found ≡ step.first → after ≡ (with_ticket (knowledge before) step.first, hand before))
      × (found ≢ step.first → after ≡ before)

-- ---- the serving word is looked at

-- The seat has seen the history so far, which begins with all that it had seen and that was reported to it. The rest of what it
-- knows stays.
pub record SeesHistory {X : Type 0} (before after : Knowledge X) : Type 0 where
  pub number : after.number ≡ before.number
  pub passes : after.passes ≡ before.passes
  pub opens : after.opens ≡ before.opens
  pub ended_cell : after.ended_cell ≡ before.ended_cell
  pub origin : after.origin ≡ before.origin
  pub ranking : after.ranking ≡ before.ranking
  pub made : after.made ≡ before.made
  pub seen : StartsWith after.seen before.seen
  pub same_reports : after.reported ≡ before.reported
  pub reported : StartsWithAll after.seen before.reported
  pub own : 0 < before.number → after.made ≡ places after.number after.seen
  pub run : 0 < before.number → IsOwnRun after.origin (entries after.seen)

-- the book in hand, on top of these, is the one after the history that the seat has seen
pub record HasBookInHand {X : Type 0} (now : SeatNow X) (below : List (ℕ × CellSlot X)) : Type 0 where
  pub book : BookParts X
  pub hand_is : hand now ≡ (0, Some book) ∷ below
  pub history_is : book.kept.book.history ≡ entries (knowledge now).seen
  pub origin : origin_of book.kept.book ≡ (knowledge now).origin
  pub ranking : (knowledge now).ranking ≡ Some book.ranking

-- the cell is closed: the seat has no ticket any more
pub record LosesTicket {X : Type 0} (before after : SeatNow X) : Type 0 where
  pub ticket : (knowledge after).ticket ≡ None
  pub holds_book : (knowledge after).holds_book ≡ false
  pub closed : (knowledge after).closed ≡ true
  pub hand_is : hand after ≡ hand before

-- it is the turn of the seat's ticket, whose number counts the history: the seat takes the book out of the slot
pub record TakesBook {X : Type 0} (ticket : ℕ) (before after : SeatNow X) : Type 0 where
  pub ticket_is : (knowledge after).ticket ≡ Some ticket
  pub holds_book : (knowledge after).holds_book ≡ true
  pub closed : (knowledge after).closed ≡ false
  pub place : ticket ≡ length (knowledge after).seen
  pub book : HasBookInHand after (hand before)

-- it is not the seat's turn: it keeps its ticket, if it has one
pub record KeepsTicket {X : Type 0} (before after : SeatNow X) : Type 0 where
  pub ticket : (knowledge after).ticket ≡ (knowledge before).ticket
  pub holds_book : (knowledge after).holds_book ≡ false
  pub closed : (knowledge after).closed ≡ false
  pub hand_is : hand after ≡ hand before

-- what a seat finds that looks at the serving word; one that knows the cell closed finds it closed again
pub record FindsServing {X : Type 0} (serving : ℕ) (before after : SeatNow X) : Type 0 where
  pub shut : (knowledge before).closed ≡ true → serving ≡ closing_mark
  pub closed : serving ≡ closing_mark → LosesTicket before after
  pub mine : serving ≢ closing_mark → (knowledge before).ticket ≡ Some serving → TakesBook serving before after
  pub other : serving ≢ closing_mark → (knowledge before).ticket ≢ Some serving → KeepsTicket before after

module _ {X : Type 0} where
  -- the seat sees the history so far, and finds whether it is its turn
  abbrev pub LooksAtServing : CellStep X → SeatNow X → ℕ → SeatNow X → Type 0
  LooksAtServing step before found after =
      SeesHistory (knowledge before) (knowledge after) × FindsServing found before after

  -- ---- a turn ends with an entry

  -- the pass has one entry more, the last one, and no turn any more
  abbrev pub with_entry : Knowledge X → Entry → Knowledge X
  with_entry known entry = record known {
    seen = known.seen ++ mark_entry known.number entry ∷ [];
    made = known.made ++ length known.seen ∷ [];
    ticket = None;
    holds_book = false;
  }

  -- the history of the book in hand
  abbrev pub history_in_hand : List (ℕ × CellSlot X) → List Entry
  history_in_hand [] = []
  history_in_hand ((slot, None) ∷ below) = []
  history_in_hand ((slot, Some book) ∷ below) = book.kept.book.history

  -- the book had one entry more than the seat has seen, and is put back
  abbrev pub EndsTurn : CellStep X → SeatNow X → ℕ → SeatNow X → Type 0
  EndsTurn step before stored after = (entry : Entry)
      × (history_in_hand (hand before) ≡ entries (knowledge before).seen ++ entry ∷ [])
      × (after ≡ (with_entry (knowledge before) entry, rest (hand before)))

  -- ---- a turn ends with a refusal

  -- a seat that has closed the cell by a refused turn: it has no ticket and no book any more
  abbrev pub after_closing : Knowledge X → Knowledge X
  after_closing known = record known { ticket = None; holds_book = false; closed = true; ended_cell = true }

  -- the cell is closed, and the book is put back as it was
  abbrev pub ClosesCell : CellStep X → SeatNow X → ℕ → SeatNow X → Type 0
  ClosesCell step before stored after = after ≡ (after_closing (knowledge before), rest (hand before))
