-- What is taken at once (implementation-specific).
use Rattle.std.specs.Prelude.{◌≡◌, List, [], ◌∷◌, ◌++◌, map, Bool, true, false}
use Rattle.fair_queue.specs.declared.fair_queue.Choice.{Choice}
use Rattle.fair_queue.specs.declared.fair_queue.Choice.TheVariants as choices
use Rattle.fair_queue.specs.Fair.{FairView, FairEvent, chosen, owner_chosen, IsFairRun}

-- the event of a line that is chosen
abbrev pub choice_event : Choice → FairEvent
choice_event (choices.Operator op number line) = chosen op number line
choice_event (choices.Owner number line) = owner_chosen number line

-- whether a line that is chosen is a tick of the owner
abbrev pub is_tick_choice : Choice → Bool
is_tick_choice (choices.Operator op number line) = false
is_tick_choice (choices.Owner number line) = line.is_tick

-- These lines are put after others, and a tick is the last of them. Taking them is a run of the queues, so the laws of runs hold of it.
pub record IsBatchTaken (before after : List Choice) (old new : FairView) : Type 0 where
  pub taken : List Choice
  pub all : after ≡ before ++ taken
  pub run : IsFairRun (map choice_event taken) old new
  pub last : (first : List Choice) (choice : Choice) (more : List Choice) → taken ≡ first ++ choice ∷ more
      → is_tick_choice choice ≡ true → more ≡ []
