-- The rule of a cell: what always holds of its table (implementation-specific). Word 0 is the ticket that is served, word 1 is
-- the next ticket that is drawn, and the one slot holds the book.
use Rattle.std.specs.Prelude.{◌≡◌, ◌≢◌, ℕ, ◌<◌, ◌≤◌, true, List, [], ◌∷◌, length, Some}
use mathlib.Core.Option.{some, none}
use lib.ListN.{get_elem?}
use Rattle.plant_passes.specs.declared.view.Origin.{Origin}
use Rattle.plant_passes.specs.declared.view.MarkedEntry.{MarkedEntry}
use Rattle.plant_passes.specs.declared.view.Knowledge.{Knowledge}
use Rattle.plant_passes.specs.declared.view.BookParts.{BookParts}
use Rattle.plant_passes.specs.Runs.{origin_of, IsOwnRun}
use Rattle.plant_passes.specs.Histories.{entries, places, StartsWith, StartsWithAll}
use Rattle.plant_passes.specs.Seats.{closing_mark, CellSlot, CellState, Knows, passes_of}

-- What a cell was opened with: what its book was opened with, the book's ranking, and how many passes the cell has.
pub record CellOpening (X : Type 0) : Type 0 where
  pub origin : Origin
  pub ranking : X
  pub passes : ℕ

-- what a cell was opened with that was made with this book
abbrev pub opening_of : {X : Type 0} → BookParts X → ℕ → CellOpening X
opening_of book passes = record { origin = origin_of book.kept.book; ranking = book.ranking; passes = passes }

-- How far a cell has come: all that was done on its book, its two words, the seat of each pass (by the pass's number), the
-- seat that gives the passes, and how many it has not given yet. It gives the greatest number first.
pub record Progress : Type 0 where
  pub history : List MarkedEntry
  pub serving : ℕ
  pub next_ticket : ℕ
  pub seat_of : ℕ → ℕ
  pub opener_seat : ℕ
  pub not_given : ℕ

-- the cell is not closed
abbrev pub IsOpen : Progress → Type 0
IsOpen now = now.serving ≢ closing_mark

-- The serving word counts the entries of the history, and no ticket is served before it is drawn.
pub record CountsTurns (now : Progress) : Type 0 where
  pub counts : now.serving ≡ length now.history
  pub drawn : now.serving ≤ now.next_ticket

-- ---- what a seat knows

-- The seat of a pass: the pass is given and has no other seat, and it knows the places of all its entries, what the book was
-- opened with, and the ranking.
pub record IsPassSeat {X : Type 0} (opening : CellOpening X) (now : Progress) (seat : ℕ) (known : Knowledge X) : Type 0 where
  pub given : now.not_given < known.number
  pub seat_is : now.seat_of known.number ≡ seat
  pub made : known.made ≡ places known.number now.history
  pub origin : known.origin ≡ opening.origin
  pub ranking : known.ranking ≡ Some opening.ranking

-- The seat that gives the passes: it is no pass, and it counts for the passes that are not given yet.
pub record IsOpenerSeat {X : Type 0} (opening : CellOpening X) (now : Progress) (seat : ℕ) (known : Knowledge X) : Type 0 where
  pub seat_is : seat ≡ now.opener_seat
  pub passes : known.passes ≡ now.not_given
  pub number : known.number ≡ 0
  pub origin : known.origin ≡ opening.origin
  pub ranking : known.ranking ≡ Some opening.ranking

-- A seat with this ticket: it is a pass's, and the ticket is drawn and, until the cell closes, not used.
pub record HasTicket {X : Type 0} (now : Progress) (known : Knowledge X) (ticket : ℕ) : Type 0 where
  pub drawn : ticket < now.next_ticket
  pub unused : IsOpen now → now.serving ≤ ticket
  pub number : 0 < known.number
  pub passes : 0 < known.passes

-- A seat with the book: the cell is open, the seat's ticket is served, and the seat has seen the whole history.
pub record HasTurn {X : Type 0} (now : Progress) (known : Knowledge X) : Type 0 where
  pub going : IsOpen now
  pub ticket : known.ticket ≡ Some now.serving
  pub seen : known.seen ≡ now.history

-- What this seat knows is true of a cell that has come so far.
pub record IsTrueOf {X : Type 0} (opening : CellOpening X) (now : Progress) (seat : ℕ) (known : Knowledge X) : Type 0 where
  pub seen : StartsWith now.history known.seen
  pub reported : StartsWithAll now.history known.reported
  pub pass : 0 < known.number → IsPassSeat opening now seat known
  pub opener : known.opens ≡ true → IsOpenerSeat opening now seat known
  pub ticket : (t : ℕ) → known.ticket ≡ Some t → HasTicket now known t
  pub turn : known.holds_book ≡ true → HasTurn now known
  pub closed : known.closed ≡ true → now.serving ≡ closing_mark

-- ---- all seats

-- some seat has this ticket
pub record IsTicketOut {X : Type 0} (ticket : ℕ) (seats : List (Knowledge X)) : Type 0 where
  pub seat : ℕ
  pub known : Knowledge X
  pub knows : Knows seats seat known
  pub ticket_is : known.ticket ≡ Some ticket

-- until the cell closes, each ticket that is drawn and not used is out
abbrev pub AreTicketsOut : {X : Type 0} → Progress → List (Knowledge X) → Type 0
AreTicketsOut {X} now seats =
    IsOpen now → (ticket : ℕ) → now.serving ≤ ticket → ticket < now.next_ticket → IsTicketOut ticket seats

-- no two seats have the same ticket
abbrev pub AreTicketsApart : {X : Type 0} → List (Knowledge X) → Type 0
AreTicketsApart {X} seats = (one other : ℕ) (known theirs : Knowledge X) (ticket : ℕ) → one ≢ other
    → Knows seats one known → Knows seats other theirs → known.ticket ≡ Some ticket → theirs.ticket ≢ Some ticket

-- some seat that counts for a pass has seen the whole history
pub record IsHistorySeen {X : Type 0} (history : List MarkedEntry) (seats : List (Knowledge X)) : Type 0 where
  pub seat : ℕ
  pub known : Knowledge X
  pub knows : Knows seats seat known
  pub passes : 0 < known.passes
  pub whole : known.seen ≡ history

-- some seat has the book
pub record IsBookOut {X : Type 0} (seats : List (Knowledge X)) : Type 0 where
  pub seat : ℕ
  pub known : Knowledge X
  pub knows : Knows seats seat known
  pub holds : known.holds_book ≡ true

-- ---- the table

-- this value of the slot is the cell's book after this history
pub record IsBookAtHome {X : Type 0} (opening : CellOpening X) (history : List MarkedEntry) (slot : CellSlot X) : Type 0 where
  pub book : BookParts X
  pub slot_is : slot ≡ Some book
  pub history_is : book.kept.book.history ≡ entries history
  pub origin : origin_of book.kept.book ≡ opening.origin
  pub ranking : book.ranking ≡ opening.ranking

-- What always holds of the table of a cell. Until the cell closes, each number from serving up to the next ticket is out at one
-- seat, and no other number is. So the tickets out are the ticket word less the serving word. A seat has one ticket at most, and
-- a pass has one seat. The book is in its slot, with the whole history, or at the seat whose turn it is.
pub record IsCellTable {X : Type 0} (opening : CellOpening X) (table : CellState X) : Type 0 where
  pub now : Progress
  pub words : table.words ≡ now.serving ∷ now.next_ticket ∷ []
  pub few : now.next_ticket < closing_mark
  pub turns : IsOpen now → CountsTurns now
  pub each_seat : (seat : ℕ) (known : Knowledge X) → Knows table.views seat known → IsTrueOf opening now seat known
  pub each_ticket : AreTicketsOut now table.views
  pub apart : AreTicketsApart table.views
  pub total : passes_of table.views ≡ opening.passes
  pub whole : IsHistorySeen now.history table.views
  pub unmade : (number : ℕ) → 0 < number → number ≤ now.not_given → places number now.history ≡ []
  pub home : (slot : CellSlot X) → get_elem? table.homes 0 ≡ some (some slot) → IsBookAtHome opening now.history slot
  pub out : get_elem? table.homes 0 ≡ some none → IsBookOut table.views
  pub run : IsOwnRun opening.origin (entries now.history)
