-- Runs of the queue of an operator (implementation-specific).
use Rattle.std.specs.Prelude.{ℕ, ◌+◌, ◌≡◌, ◌≤◌, ◌<◌, ◌⊎◌, List, [], ◌∷◌, ◌++◌, Bool, if◌then◌else◌}
use Rattle.fair_queue.specs.declared.line.Item.{Item}
use Rattle.fair_queue.specs.declared.line.Item.TheVariants as items
use Rattle.fair_queue.specs.Items.{QueueView, IsCutOut, next_number}

-- ---- steps

-- a line of the operator, or the mark of a line of the owner, comes to the end of the queue
abbrev pub IsArrival : Item → QueueView → QueueView → Type 0
IsArrival item old new = new ≡ record old { items = old.items ++ item ∷ [] }

-- The operator's first line is chosen, and counted: nothing is before it, and the limit is not reached.
pub record IsTaken (line : List ℕ) (old new : QueueView) : Type 0 where
  pub allowed : old.chosen < old.limit
  pub first : old.items ≡ items.Line line ∷ new.items
  pub new_is : new ≡ record old { items = new.items; chosen = old.chosen + 1; taken = next_number old.taken }

-- A line of the owner is chosen. No line of the operator that came before it may be chosen any more: there is none, or the limit is
-- reached. Those that the limit holds back stay first. A tick begins the count anew.
pub record IsPassed (is_tick : Bool) (old new : QueueView) : Type 0 where
  pub items_are : IsCutOut is_tick old.items new.items
  pub none_left : (items_are.held ≡ []) ⊎ (old.limit ≤ old.chosen)
  pub new_is : new ≡ record old { items = new.items; chosen = if is_tick then 0 else old.chosen }

-- ---- runs

-- what happens to a queue: an item came, or was chosen
pub data QueueEvent : Type 0 where
  came : Item → QueueEvent
  went : Item → QueueEvent

-- this event makes of the first queue the second
abbrev pub QueueSteps : QueueEvent → QueueView → QueueView → Type 0
QueueSteps (came item) old new = IsArrival item old new
QueueSteps (went (items.Line line)) old new = IsTaken line old new
QueueSteps (went (items.Owner tick)) old new = IsPassed tick old new

-- these events, in order, make of the first queue the second
abbrev pub IsQueueRun : List QueueEvent → QueueView → QueueView → Type 0
IsQueueRun [] old new = new ≡ old
IsQueueRun (event ∷ later) old new = (mid : QueueView) × QueueSteps event old mid × IsQueueRun later mid new

-- all that came, in order
abbrev pub arrivals : List QueueEvent → List Item
arrivals [] = []
arrivals (came item ∷ later) = item ∷ arrivals later
arrivals (went item ∷ later) = arrivals later

-- all that was chosen, in order
abbrev pub choices : List QueueEvent → List Item
choices [] = []
choices (came item ∷ later) = choices later
choices (went item ∷ later) = item ∷ choices later
