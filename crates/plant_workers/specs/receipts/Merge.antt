-- What receipts say of a history (implementation-specific).
use Rattle.std.specs.Prelude.{◌≡◌, ◌==◌, ℕ, ◌<◌, List, length, map, All, sum_by, count_by, slice_get, Some}
use Rattle.std.specs.List.Sorted.{IsStrictlyIncreasing}
use Rattle.operator_model.specs.declared.action.Entry.{Entry}
use Rattle.plant_workers.specs.declared.receipts.receipt.Receipt.{Receipt}

-- the receipts of an operator's callers, caller by caller
abbrev pub Told : Type 0
Told = List (List Receipt)

-- the entry at the receipt's index has its action and its outputs
abbrev pub Stands : List Entry → Receipt → Type 0
Stands history r = slice_get history r.index ≡ Some (record { action = r.action; outputs = r.outputs })

-- each receipt of a caller has a greater index than the one before
abbrev pub IndicesAscend : List Receipt → Type 0
IndicesAscend receipts = IsStrictlyIncreasing (map (λ r. r.index) receipts)

-- how many receipts of all callers have this index
abbrev pub times : ℕ → Told → ℕ
times k callers = sum_by (λ receipts. count_by (λ r. r.index == k) receipts) callers

-- the history is the merge of what its callers were reported: each receipt is in it, each caller's ascend, and each
-- entry has just one
pub record IsMergeOf (history : List Entry) (callers : Told) : Type 0 where
  pub stand : All (λ receipts. All (Stands history) receipts) callers
  pub ascend : All IndicesAscend callers
  pub once : (k : ℕ) → k < length history → times k callers ≡ 1
