-- When books, receipts and MAPs are settled with one another, and else what is invalid (implementation-specific).
use Rattle.std.specs.Prelude.{◌≡◌, ◌≢◌, ℕ, ◌<◌, List, ◌∷◌, ◌++◌, length, All, slice_get, Some}
use Rattle.operator_model.specs.Replay.{BookView}
use Rattle.map_assembly.specs.declared.map_bytes.MapBytes.{MapBytes}
use Rattle.plant_workers.specs.declared.receipts.run_fault.RunFault.{RunFault}
use Rattle.plant_workers.specs.declared.receipts.run_fault.RunFault.TheVariants.{Strayed, Short, MapStrayed}
use Rattle.plant_workers.specs.receipts.Merge.{Told, times, IsMergeOf}
use Rattle.plant_workers.specs.receipts.Straying.{Strays, AllStand}
use Rattle.plant_workers.specs.receipts.OwnParts.{HasOwnParts}

-- each operator's history is the merge of what its callers were reported, and each MAP gives every operator its own frame
pub record IsSettled (books : List BookView) (receipts : List Told) (maps : List MapBytes) : Type 0 where
  pub merged : (op : ℕ) (book : BookView) (callers : Told) → slice_get books op ≡ Some book
      → slice_get receipts op ≡ Some callers → IsMergeOf book.history callers
  pub own_parts : All (HasOwnParts books) maps

-- a receipt of this index strays of a caller of the operator at this place
pub record StraysAt (books : List BookView) (receipts : List Told) (op index : ℕ) : Type 0 where
  pub book : BookView
  pub callers : Told
  pub book_is : slice_get books op ≡ Some book
  pub callers_are : slice_get receipts op ≡ Some callers
  pub strays : Strays book.history callers index

-- an entry of the operator at this place has no receipt, or more than one
pub record IsShort (books : List BookView) (receipts : List Told) (op : ℕ) : Type 0 where
  pub book : BookView
  pub callers : Told
  pub book_is : slice_get books op ≡ Some book
  pub callers_are : slice_get receipts op ≡ Some callers
  pub place : ℕ
  pub within : place < length book.history
  pub not_once : times place callers ≢ 1

-- the receipts of each operator's callers exist, each caller's with ascending indices
abbrev pub EachStands : List BookView → List Told → Type 0
EachStands books receipts = (op : ℕ) (book : BookView) (callers : Told) → slice_get books op ≡ Some book
    → slice_get receipts op ≡ Some callers → AllStand book.history callers

-- no receipt of any operator strays
abbrev pub NoneStrays : List BookView → List Told → Type 0
NoneStrays books receipts = (op index : ℕ) → ¬ StraysAt books receipts op index

-- no entry of any operator has no receipt, or more than one
abbrev pub NoneIsShort : List BookView → List Told → Type 0
NoneIsShort books receipts = (op : ℕ) → ¬ IsShort books receipts op

-- the least operator of which a receipt strays, and of it the least index
pub record IsFirstStrayed (books : List BookView) (receipts : List Told) (op index : ℕ) : Type 0 where
  pub strays : StraysAt books receipts op index
  pub least_index : (k : ℕ) → k < index → ¬ StraysAt books receipts op k
  pub least_operator : (i k : ℕ) → i < op → ¬ StraysAt books receipts i k

-- the least operator of which an entry has no receipt, or more than one
pub record IsFirstShort (books : List BookView) (receipts : List Told) (op : ℕ) : Type 0 where
  pub short : IsShort books receipts op
  pub least : (i : ℕ) → i < op → ¬ IsShort books receipts i

-- the first MAP that does not give every operator its own frame is of this frame
pub record IsFirstMapStrayed (books : List BookView) (maps : List MapBytes) (frame : ℕ) : Type 0 where
  pub before : List MapBytes
  pub made : MapBytes
  pub after : List MapBytes
  pub split : maps ≡ before ++ made ∷ after
  pub frame_is : made.frame ≡ frame
  pub strays : ¬ HasOwnParts books made
  pub first : All (HasOwnParts books) before

-- the first fault: receipts that stray are reported before entries with no receipt or more than one, and these before MAPs
abbrev pub IsFirstFault : List BookView → List Told → List MapBytes → RunFault → Type 0
IsFirstFault books receipts maps (Strayed op index) = IsFirstStrayed books receipts op index
IsFirstFault books receipts maps (Short op) = NoneStrays books receipts × IsFirstShort books receipts op
IsFirstFault books receipts maps (MapStrayed frame) =
    NoneStrays books receipts × NoneIsShort books receipts × IsFirstMapStrayed books maps frame
IsFirstFault books receipts maps fault = ⊥
