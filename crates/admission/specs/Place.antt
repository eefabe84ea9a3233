-- where a search by SFID ends among ascending entries, and what an edit there makes of them.
use Rattle.std.specs.Prelude.{◌≡◌, ℕ, ◌<◌, ◌≤◌, List, length, slice_set, slice_index_or, Some, None}
use Rattle.std.specs.List.{insert, remove}
use Rattle.std.specs.Ordering.{nat_cmp}
use Rattle.std.specs.Map.{lookup, remove_entry}
use Rattle.std.specs.BTreeMap.{insert_entry, is_at}

-- the entry of this SFID is at this place of ascending entries, and an edit there replaces or removes the entry of this SFID
pub record StandsAt {V : Type 0} (entries : List (ℕ × V)) (sfid place : ℕ) : Type 0 where
  pub in_range : place < length entries
  pub key : (other : ℕ × V) → (slice_index_or entries place other).0 ≡ sfid
  pub there : (other : ℕ × V) → lookup (is_at (nat_cmp sfid)) entries ≡ Some (slice_index_or entries place other).1
  pub written : (value : V) → slice_set entries place (sfid, value) ≡ insert_entry nat_cmp entries sfid value
  pub removed : remove entries place ≡ remove_entry (is_at (nat_cmp sfid)) entries

-- no entry of this SFID exists, and one that is inserted at this place is in its order
pub record IsGap {V : Type 0} (entries : List (ℕ × V)) (sfid place : ℕ) : Type 0 where
  pub in_range : place ≤ length entries
  pub absent : lookup (is_at (nat_cmp sfid)) entries ≡ None
  pub inserted : (value : V) → insert entries place (sfid, value) ≡ insert_entry nat_cmp entries sfid value
