-- A pass between two calls and in its turn, and a seat that other passes are joined to (implementation-specific).
use Rattle.std.specs.Prelude.{◌≡◌, ◌<◌, ℕ, true, false, List, [], ◌∷◌, map, length, All, Contains, Some, None, option_map}
use Rattle.grant_policy.specs.declared.policy.Policy.{Policy}
use Rattle.atomic_table.specs.declared.shared.Seat.{Seat}
use Rattle.operator_model.specs.declared.action.Action.{Action}
use Rattle.operator_model.specs.declared.action.Entry.{Entry}
use Rattle.operator_model.specs.State.{Operator}
use Rattle.operator_model.specs.Machine.{stranger_of, unfit_of}
use Rattle.plant_passes.specs.declared.view.Origin.{Origin}
use Rattle.plant_passes.specs.declared.view.MarkedEntry.{MarkedEntry}
use Rattle.plant_passes.specs.declared.view.Knowledge.{Knowledge}
use Rattle.plant_passes.specs.declared.view.BookParts.{BookParts}
use Rattle.plant_passes.specs.Runs.{origin_of, IsOwnRun}
use Rattle.plant_passes.specs.Histories.{StartsWith, StartsWithAll}
use Rattle.plant_passes.specs.Seats.{SeatNow, knowledge, hand}
use Rattle.plant_passes.specs.Steps.{HasBookInHand}
use Rattle.plant_passes.specs.Passes.{PassView}

-- it is the same seat, at another time
abbrev pub IsSameSeat : {S X : Type 0} → Seat S (Knowledge X) → Seat S (Knowledge X) → Type 0
IsSameSeat before after = (after.table_id ≡ before.table_id) × (after.id ≡ before.id)

-- a pass between two calls
pub record IsIdle {X : Type 0} (now : SeatNow X) : Type 0 where
  pub ticket : (knowledge now).ticket ≡ None
  pub holds_book : (knowledge now).holds_book ≡ false
  pub hand_is : hand now ≡ []
  pub number : 0 < (knowledge now).number
  pub passes : (knowledge now).passes ≡ 1

-- the ranking that the seat knows follows the policy of the book's row
abbrev pub FollowsPolicy : {X : Type 0} → (X → Policy) → Knowledge X → Type 0
FollowsPolicy policy known = option_map policy known.ranking ≡ Some known.origin.row.policy

-- an action that a cell does: of a modem of the row, and no slice change
pub record IsCellAction (origin : Origin) (action : Action) : Type 0 where
  pub mine : stranger_of origin.row action ≡ None
  pub fits : (op : Operator) → unfit_of op action ≡ None

-- a pass that waits for the turn of its ticket
pub record WaitsForTurn {X : Type 0} (ticket : ℕ) (now : SeatNow X) : Type 0 where
  pub ticket_is : (knowledge now).ticket ≡ Some ticket
  pub holds_book : (knowledge now).holds_book ≡ false
  pub hand_is : hand now ≡ []

-- it is the ticket's turn, and the pass has the book in hand
pub record IsInTurn {X : Type 0} (ticket : ℕ) (now : SeatNow X) : Type 0 where
  pub ticket_is : (knowledge now).ticket ≡ Some ticket
  pub holds_book : (knowledge now).holds_book ≡ true
  pub closed : (knowledge now).closed ≡ false
  pub place : ticket ≡ length (knowledge now).seen
  pub book : HasBookInHand now []

-- the book that is in hand has this history, which is the own machine's
pub record HasBookWith {X : Type 0} (history : List Entry) (now : SeatNow X) : Type 0 where
  pub book : BookParts X
  pub hand_is : hand now ≡ (0, Some book) ∷ []
  pub history_is : book.kept.book.history ≡ history
  pub origin : origin_of book.kept.book ≡ (knowledge now).origin
  pub ranking : (knowledge now).ranking ≡ Some book.ranking
  pub run : IsOwnRun (origin_of book.kept.book) book.kept.book.history

-- the cell was found closed
pub record HasFoundClosed {X : Type 0} (now : SeatNow X) : Type 0 where
  pub ticket : (knowledge now).ticket ≡ None
  pub holds_book : (knowledge now).holds_book ≡ false
  pub closed : (knowledge now).closed ≡ true
  pub hand_is : hand now ≡ []

-- What a seat knows once these passes are joined to it: its history is one of theirs, and each history that begins with what it
-- has seen and what was reported to it begins with each of theirs.
pub record Gathers {X : Type 0} (passes : List PassView) (known : Knowledge X) : Type 0 where
  pub count : known.passes ≡ length passes
  pub number : 0 < known.number
  pub holds_book : known.holds_book ≡ false
  pub among : Contains (map (λ p. p.seen) passes) known.seen
  pub begins : (history : List MarkedEntry) → StartsWith history known.seen → StartsWithAll history known.reported
      → All (λ p. StartsWith history p.seen) passes
