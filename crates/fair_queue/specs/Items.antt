-- What waits in the queue of an operator, and in the queue of the owner (implementation-specific).
use Rattle.std.specs.Prelude.{ℕ, suc, ◌+◌, ◌-◌, ◌^◌, ◌<◌, ◌≡◌, List, [], ◌∷◌, ◌++◌, length, min, Bool, true, false}
use Rattle.fair_queue.specs.declared.line.Item.{Item}
use Rattle.fair_queue.specs.declared.line.Item.TheVariants as items
use Rattle.fair_queue.specs.declared.line.OwnerLine.{OwnerLine}

-- the number of the line after so many lines of an input: after 2^64 - 1 lines it stays the same
abbrev pub next_number : ℕ → ℕ
next_number taken = min (taken + 1) (2 ^ 64 - 1)

-- ---- the queue of an operator

-- how many bytes an item counts for: a line counts with its line feed
abbrev pub item_bytes : Item → ℕ
item_bytes (items.Line line) = length line + 1
item_bytes (items.Owner tick) = 0

-- how many bytes wait
abbrev pub waiting_bytes : List Item → ℕ
waiting_bytes [] = 0
waiting_bytes (item ∷ more) = item_bytes item + waiting_bytes more

-- whether an item is a line of the operator
abbrev pub is_line : Item → Bool
is_line (items.Line line) = true
is_line (items.Owner tick) = false

-- the operator's lines among these items, in order
abbrev pub own_lines : List Item → List (List ℕ)
own_lines [] = []
own_lines (items.Line line ∷ more) = line ∷ own_lines more
own_lines (items.Owner tick ∷ more) = own_lines more

-- the marks of the owner's lines among these items: which of these lines are ticks
abbrev pub owner_places : List Item → List Bool
owner_places [] = []
owner_places (items.Line line ∷ more) = owner_places more
owner_places (items.Owner tick ∷ more) = tick ∷ owner_places more

-- how many of the operator's lines are before the first mark
abbrev pub owner_place : List Item → ℕ
owner_place [] = 0
owner_place (items.Line line ∷ more) = suc (owner_place more)
owner_place (items.Owner tick ∷ more) = 0

-- lines as items
abbrev pub as_items : List (List ℕ) → List Item
as_items [] = []
as_items (line ∷ more) = items.Line line ∷ as_items more

-- What contracts see of a queue: what waits, how many of the operator's lines were chosen since the last tick, how many may be chosen
-- between two ticks, the most bytes that may wait, and the number of the line that was chosen last.
pub record QueueView : Type 0 where
  pub items : List Item
  pub chosen : ℕ
  pub limit : ℕ
  pub most_bytes : ℕ
  pub taken : ℕ

-- a queue in which nothing waits, with a limit, the most bytes, and where its counts begin
abbrev pub opened_queue : ℕ → ℕ → ℕ → ℕ → QueueView
opened_queue limit most taken chosen = record { items = []; chosen = chosen; limit = limit; most_bytes = most; taken = taken }

-- whether a line of the operator is first
abbrev pub begins_with_line : List Item → Bool
begins_with_line [] = false
begins_with_line (items.Line line ∷ more) = true
begins_with_line (items.Owner tick ∷ more) = false

-- the operator's first line may be chosen
abbrev pub MayChoose : QueueView → Type 0
MayChoose q = (begins_with_line q.items ≡ true) × (q.chosen < q.limit)

-- the first mark is taken out, which is after these lines
pub record IsCutOut (is_tick : Bool) (old new : List Item) : Type 0 where
  pub held : List (List ℕ)
  pub rest : List Item
  pub old_is : old ≡ as_items held ++ items.Owner is_tick ∷ rest
  pub new_is : new ≡ as_items held ++ rest

-- ---- the queue of the owner

-- how many bytes of the owner's lines wait, each line with its line feed
abbrev pub owner_bytes : List OwnerLine → ℕ
owner_bytes [] = 0
owner_bytes (line ∷ more) = length line.line + 1 + owner_bytes more

-- What contracts see of the owner's queue: the lines that wait, the most bytes that may wait, and the number of the line that was chosen
-- last.
pub record OwnerView : Type 0 where
  pub lines : List OwnerLine
  pub most_bytes : ℕ
  pub taken : ℕ

-- the owner's queue with this line after its others
abbrev pub IsLineAdded : OwnerLine → OwnerView → OwnerView → Type 0
IsLineAdded line old new = new ≡ record old { lines = old.lines ++ line ∷ [] }

-- the owner's first line is taken out, and counted
pub record IsFirstTaken (line : OwnerLine) (old new : OwnerView) : Type 0 where
  pub first : old.lines ≡ line ∷ new.lines
  pub new_is : new ≡ record old { lines = new.lines; taken = next_number old.taken }
