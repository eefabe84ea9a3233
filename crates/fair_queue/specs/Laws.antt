-- Laws of runs (implementation-specific).
use Rattle.std.specs.Prelude.{ℕ, ◌+◌, ◌-◌, ◌^◌, ◌≡◌, ◌≤◌, ◌<◌, List, [], ◌∷◌, ◌++◌, length, take, drop, min, Bool, true, false, Some}
use Rattle.std.specs.Prelude.{slice_get, if◌then◌else◌}
use Rattle.fair_queue.specs.declared.line.Item.{Item}
use Rattle.fair_queue.specs.declared.line.Item.TheVariants as items
use Rattle.fair_queue.specs.Items.{QueueView, as_items, own_lines}
use Rattle.fair_queue.specs.Runs.{QueueEvent, IsQueueRun, arrivals, choices}
use Rattle.fair_queue.specs.Fair.{FairView, FairEvent, IsFairRun, ReadyAt, own_events, times_chosen, owner_chosen_times}

-- ---- one queue

-- What is chosen of what came, in this order, if the queue is left to itself: before each line of the owner the operator's lines that
-- came before it, as far as the limit lets them. Those that it holds back are first after it.
abbrev pub placement : ℕ → ℕ → List (List ℕ) → List Item → List Item
placement limit chosen held [] = as_items (take (limit - chosen) held)
placement limit chosen held (items.Line line ∷ more) = placement limit chosen (held ++ line ∷ []) more
placement limit chosen held (items.Owner tick ∷ more) =
    as_items (take (limit - chosen) held)
    ++ items.Owner tick ∷ placement limit (if tick then 0 else chosen + min (limit - chosen) (length held))
    (drop (limit - chosen) held) more

-- What was chosen is a beginning of the placement of all that came, and the rest of it is the placement of what waits, whatever comes
-- later. So neither the moments of the choices nor anybody else's lines matter. The run begins with a queue in which nothing waits.
abbrev pub PlacesAreOwn : Type 0
PlacesAreOwn = (events : List QueueEvent) (u v : QueueView) (later : List Item) → u.items ≡ [] → IsQueueRun events u v
    → placement u.limit u.chosen [] (arrivals events ++ later) ≡ choices events ++ placement u.limit v.chosen [] (v.items ++ later)

-- Each line that came is chosen once or waits, in order and unchanged.
abbrev pub LinesAreKept : Type 0
LinesAreKept = (events : List QueueEvent) (u v : QueueView) → u.items ≡ [] → IsQueueRun events u v
    → own_lines (arrivals events) ≡ own_lines (choices events) ++ own_lines v.items

-- In two runs the same came, as far as it came, and as much was chosen: then the same was chosen, at the same places among the lines of
-- the owner. Both begin with queues of one limit and one count since the last tick, in which nothing waits.
abbrev pub RunsAgree : Type 0
RunsAgree = (a b : List QueueEvent) (t u v w : QueueView) (x y : List Item) → t.items ≡ [] → u.items ≡ [] → t.limit ≡ u.limit
    → t.chosen ≡ u.chosen → IsQueueRun a t v → IsQueueRun b u w → arrivals a ++ x ≡ arrivals b ++ y
    → length (choices a) ≡ length (choices b) → choices a ≡ choices b

-- whether a tick is among these items
abbrev pub has_tick : List Item → Bool
has_tick [] = false
has_tick (items.Line line ∷ more) = has_tick more
has_tick (items.Owner tick ∷ more) = if tick then true else has_tick more

-- At most as many lines as the limit says are chosen between two ticks: of what was chosen, no part without a tick has more lines.
abbrev pub LimitHolds : Type 0
LimitHolds = (events : List QueueEvent) (u v : QueueView) (before between after : List Item) → u.chosen ≤ u.limit → IsQueueRun events u v
    → choices events ≡ before ++ (between ++ after) → has_tick between ≡ false → length (own_lines between) ≤ u.limit

-- A queue counts its lines as they are chosen, up to 2^64 - 1.
abbrev pub LinesAreNumbered : Type 0
LinesAreNumbered = (events : List QueueEvent) (u v : QueueView) → u.taken < 2 ^ 64 → IsQueueRun events u v
    → v.taken ≡ min (u.taken + length (own_lines (choices events))) (2 ^ 64 - 1)

-- ---- all queues

-- The queue of an operator runs on its own lines and the owner's alone.
abbrev pub QueuesRunAlone : Type 0
QueuesRunAlone = (i : ℕ) (events : List FairEvent) (u v : FairView) (q q' : QueueView) → IsFairRun events u v
    → slice_get u.queues i ≡ Some q → slice_get v.queues i ≡ Some q' → IsQueueRun (own_events i events) q q'

-- As long as a line of an operator may be chosen and none of it is, at most one line of each other operator is chosen, and none of the
-- owner's.
abbrev pub TurnsAreTaken : Type 0
TurnsAreTaken = (i j : ℕ) (events : List FairEvent) (u v : FairView) → IsFairRun events u v → ReadyAt u.queues i → times_chosen i events ≡ 0
    → (times_chosen j events ≤ 1) × (owner_chosen_times events ≡ 0)
