-- Queues of several operators and of the owner, and whose line is chosen next (implementation-specific).
use Rattle.std.specs.Prelude.{ℕ, suc, ◌+◌, ◌≡◌, ◌≤◌, ◌<◌, ◌⊎◌, List, [], ◌∷◌, ◌++◌, length, map, Bool, Some, slice_get, slice_set, nat_eq}
use Rattle.std.specs.Prelude.{if◌then◌else◌}
use Rattle.fair_queue.specs.declared.line.Item.TheVariants as items
use Rattle.fair_queue.specs.declared.line.OwnerLine.{OwnerLine}
use Rattle.fair_queue.specs.declared.fair_queue.Choice.{Choice}
use Rattle.fair_queue.specs.declared.fair_queue.Choice.TheVariants as choices
use Rattle.fair_queue.specs.Items.{QueueView, OwnerView, MayChoose, owner_places, IsLineAdded, IsFirstTaken}
use Rattle.fair_queue.specs.Runs.{QueueEvent, came, went, IsArrival, IsTaken, IsPassed}

-- What contracts see: the owner's queue, the operators' queues, from whose turn the search goes on, and whether no allocation for a line
-- of the owner failed.
pub record FairView : Type 0 where
  pub owner : OwnerView
  pub queues : List QueueView
  pub turn : ℕ
  pub is_whole : Bool

-- ---- whose turn it is

-- a line of the operator at this place may be chosen
abbrev pub ReadyAt : List QueueView → ℕ → Type 0
ReadyAt queues op = (q : QueueView) × (slice_get queues op ≡ Some q) × MayChoose q

-- from this turn on and round again, j comes before op
abbrev pub ComesBefore : ℕ → ℕ → ℕ → Type 0
ComesBefore turn j op = ((turn ≤ j) × (j < op)) ⊎ (((op < turn) × (turn ≤ j)) ⊎ ((j < op) × (op < turn)))

-- this operator is the next one, from this turn on and round again, of which a line may be chosen
pub record IsNextReady (queues : List QueueView) (turn op : ℕ) : Type 0 where
  pub ready : ReadyAt queues op
  pub first : (j : ℕ) → ComesBefore turn j op → ReadyAt queues j → ⊥

-- no line of an operator may be chosen
abbrev pub NoneReady : List QueueView → Type 0
NoneReady queues = (op : ℕ) → ReadyAt queues op → ⊥

-- ---- steps

-- one queue does this, and the others stay as they are
pub record OneActs (op : ℕ) (step : QueueView → QueueView → Type 0) (old new : List QueueView) : Type 0 where
  pub was : QueueView
  pub is : QueueView
  pub was_at : slice_get old op ≡ Some was
  pub acts : step was is
  pub new_are : new ≡ slice_set old op is

-- each queue does this
pub record AllAct (step : QueueView → QueueView → Type 0) (old new : List QueueView) : Type 0 where
  pub as_many : length new ≡ length old
  pub each : (op : ℕ) (q q' : QueueView) → slice_get old op ≡ Some q → slice_get new op ≡ Some q' → step q q'

-- each queue has a mark for each line of the owner that waits, in order
abbrev pub AreInStep : List OwnerLine → List QueueView → Type 0
AreInStep owner queues = (op : ℕ) (q : QueueView) → slice_get queues op ≡ Some q → owner_places q.items ≡ map (λ o. o.is_tick) owner

-- a line of this operator comes, and nothing else changes
pub record IsOffered (op : ℕ) (line : List ℕ) (old new : FairView) : Type 0 where
  pub queues : OneActs op (IsArrival (items.Line line)) old.queues new.queues
  pub new_is : new ≡ record old { queues = new.queues }

-- a line of the owner comes, and leaves a mark in each queue
pub record IsOwnerOffered (line : OwnerLine) (old new : FairView) : Type 0 where
  pub queues : AllAct (IsArrival (items.Owner line.is_tick)) old.queues new.queues
  pub owner : IsLineAdded line old.owner new.owner
  pub new_is : new ≡ record old { queues = new.queues; owner = new.owner }

-- the next operator's first line is chosen, with this number, and the turn goes on after that operator
pub record IsChosen (op number : ℕ) (line : List ℕ) (old new : FairView) : Type 0 where
  pub next : IsNextReady old.queues old.turn op
  pub queues : OneActs op (IsTaken line) old.queues new.queues
  pub numbered : number ≡ queues.is.taken
  pub new_is : new ≡ record old { queues = new.queues; turn = op + 1 }

-- the owner's first line is chosen, with this number, since no operator's line may be
pub record IsOwnerChosen (number : ℕ) (line : OwnerLine) (old new : FairView) : Type 0 where
  pub none : NoneReady old.queues
  pub owner : IsFirstTaken line old.owner new.owner
  pub numbered : number ≡ new.owner.taken
  pub queues : AllAct (IsPassed line.is_tick) old.queues new.queues
  pub new_is : new ≡ record old { queues = new.queues; owner = new.owner }

-- this is chosen
abbrev pub IsChoice : Choice → FairView → FairView → Type 0
IsChoice (choices.Operator op number line) old new = IsChosen op number line old new
IsChoice (choices.Owner number line) old new = IsOwnerChosen number line old new

-- nothing may be chosen
pub record IsNothingReady (old : FairView) : Type 0 where
  pub none : NoneReady old.queues
  pub no_owner : old.owner.lines ≡ []

-- ---- runs

-- what happens to the queues: a line comes, or is chosen with its number
pub data FairEvent : Type 0 where
  offered : ℕ → List ℕ → FairEvent
  owner_offered : OwnerLine → FairEvent
  chosen : ℕ → ℕ → List ℕ → FairEvent
  owner_chosen : ℕ → OwnerLine → FairEvent

-- this event makes of the first state the second
abbrev pub FairStep : FairEvent → FairView → FairView → Type 0
FairStep (offered op line) old new = IsOffered op line old new
FairStep (owner_offered line) old new = IsOwnerOffered line old new
FairStep (chosen op number line) old new = IsChosen op number line old new
FairStep (owner_chosen number line) old new = IsOwnerChosen number line old new

-- these events, in order, make of the first state the second
abbrev pub IsFairRun : List FairEvent → FairView → FairView → Type 0
IsFairRun [] old new = new ≡ old
IsFairRun (event ∷ later) old new = (mid : FairView) × FairStep event old mid × IsFairRun later mid new

-- what the queue of an operator sees of an event: its own lines, and the owner's
abbrev pub own_event : ℕ → FairEvent → List QueueEvent
own_event i (offered op line) = if nat_eq op i then came (items.Line line) ∷ [] else []
own_event i (owner_offered line) = came (items.Owner line.is_tick) ∷ []
own_event i (chosen op number line) = if nat_eq op i then went (items.Line line) ∷ [] else []
own_event i (owner_chosen number line) = went (items.Owner line.is_tick) ∷ []

-- what the queue of an operator sees of these events
abbrev pub own_events : ℕ → List FairEvent → List QueueEvent
own_events i [] = []
own_events i (event ∷ later) = own_event i event ++ own_events i later

-- how often a line of the operator is chosen
abbrev pub times_chosen : ℕ → List FairEvent → ℕ
times_chosen i [] = 0
times_chosen i (offered op line ∷ later) = times_chosen i later
times_chosen i (owner_offered line ∷ later) = times_chosen i later
times_chosen i (chosen op number line ∷ later) = if nat_eq op i then suc (times_chosen i later) else times_chosen i later
times_chosen i (owner_chosen number line ∷ later) = times_chosen i later

-- how often a line of the owner is chosen
abbrev pub owner_chosen_times : List FairEvent → ℕ
owner_chosen_times [] = 0
owner_chosen_times (offered op line ∷ later) = owner_chosen_times later
owner_chosen_times (owner_offered line ∷ later) = owner_chosen_times later
owner_chosen_times (chosen op number line ∷ later) = owner_chosen_times later
owner_chosen_times (owner_chosen number line ∷ later) = suc (owner_chosen_times later)
