-- what a ledger keeps inside, next to its rows.
use Rattle.std.specs.Prelude.{◌≡◌, ℕ, ◌+◌, ◌<◌, ◌≤◌, ◌^◌, List, length, All}
use Rattle.std.specs.Map.{values_of}
use Rattle.admission.specs.declared.budget.Budget.{Budget}
use Rattle.admission.specs.Ledger.{IsAscending, FitsU32, total_minislots, total_elements}

-- what the type of a ledger keeps of its room, its rows, the places that are reserved for them, and its totals
pub record IsLedger (room : ℕ) (rows : List (ℕ × Budget)) (capacity minislots elements : ℕ) : Type 0 where
  pub small : room < 2 ^ 32
  pub ascending : IsAscending rows
  pub within : length rows ≤ room
  pub reserved : room ≤ capacity
  pub numbers : All FitsU32 (values_of rows)
  pub minislots_are : minislots ≡ total_minislots rows
  pub elements_are : elements ≡ total_elements rows

-- the totals have the old budget in them, and another one fits
pub record CanReplace (minislots elements : ℕ) (old : Budget) : Type 0 where
  pub minislots_in : old.minislots ≤ minislots
  pub elements_in : old.elements ≤ elements
  pub minislots_room : minislots + 2 ^ 32 ≤ 2 ^ 64
  pub elements_room : elements + 2 ^ 32 ≤ 2 ^ 64
