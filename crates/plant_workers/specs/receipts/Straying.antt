-- Receipts at fault (implementation-specific).
use Rattle.std.specs.Prelude.{◌≡◌, ℕ, ◌<◌, min, ◌⊎◌, List, [], ◌∷◌, Option, Some, None}
use Rattle.operator_model.specs.declared.action.Entry.{Entry}
use Rattle.plant_workers.specs.declared.receipts.receipt.Receipt.{Receipt}
use Rattle.plant_workers.specs.receipts.Merge.{Told, Stands}

-- ---- the least

-- the lesser of two numbers, or the one that is there
abbrev pub lesser : Option ℕ → Option ℕ → Option ℕ
lesser None b = b
lesser (Some a) None = Some a
lesser (Some a) (Some b) = Some (min a b)

-- the least number of which P holds; where there is none, all is well
abbrev pub IsLeastOr : (ℕ → Type 0) → Type 0 → Option ℕ → Type 0
IsLeastOr P well None = well × ((n : ℕ) → ¬ P n)
IsLeastOr P well (Some least) = P least × ((n : ℕ) → n < least → ¬ P n)

-- ---- receipts of one caller

-- the index is greater than that of the receipt before, where there is one
abbrev pub IsGreater : Option ℕ → ℕ → Type 0
IsGreater None index = Unit {0}
IsGreater (Some before) index = before < index

-- a receipt strays: it differs from the entry at its index, or its index is not greater than that of the receipt before
abbrev pub IsStray : List Entry → Option ℕ → Receipt → Type 0
IsStray history before r = (¬ Stands history r) ⊎ (¬ IsGreater before r.index)

-- of a caller's receipts that follow one of index `before`, one with this index strays
abbrev pub StraysBehind : List Entry → Option ℕ → List Receipt → ℕ → Type 0
StraysBehind history before [] index = ⊥
StraysBehind history before (r ∷ later) index =
    ((r.index ≡ index) × IsStray history before r) ⊎ StraysBehind history (Some r.index) later index

-- each of a caller's receipts that follow one of index `before` exists, and has a greater index than the one before
abbrev pub StandBehind : List Entry → Option ℕ → List Receipt → Type 0
StandBehind history before [] = Unit {0}
StandBehind history before (r ∷ later) =
    Stands history r × IsGreater before r.index × StandBehind history (Some r.index) later

-- ---- receipts of all callers of an operator

-- one with this index strays
abbrev pub Strays : List Entry → Told → ℕ → Type 0
Strays history [] index = ⊥
Strays history (receipts ∷ callers) index = StraysBehind history None receipts index ⊎ Strays history callers index

-- each exists, and has a greater index than its caller's one before
abbrev pub AllStand : List Entry → Told → Type 0
AllStand history [] = Unit {0}
AllStand history (receipts ∷ callers) = StandBehind history None receipts × AllStand history callers
