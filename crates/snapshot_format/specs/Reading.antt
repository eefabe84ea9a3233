-- What a reader takes from the head of a text, and where it stops (implementation-specific).
use Rattle.std.specs.Prelude.{◌≡◌, ℕ, zero, suc, Bool, true, List, [], ◌∷◌, ◌++◌, length, Option, Some, None, Result, Ok, Err, if◌then◌else◌}
use Rattle.lists.specs.Results.{◌>>=◌}
use Rattle.snapshot_format.specs.declared.fault.Wrong.{Wrong}
use Rattle.snapshot_format.specs.declared.fault.Wrong.TheVariants.{Repeated}
use Rattle.snapshot_format.specs.declared.fault.ReadStop.{ReadStop}
use Rattle.snapshot_format.specs.declared.fault.ReadFault.{ReadFault}
use Rattle.snapshot_format.specs.declared.fault.ReadFault.TheVariants.{NoMemory, Stopped}

-- a value and the bytes after it, or where reading stops
abbrev pub Taken : Type 0 → Type 0
Taken A = Result (A × List ℕ) ReadStop

-- reading stops at these bytes
abbrev pub stop_at : {A : Type 0} → Wrong → List ℕ → Result A ReadStop
stop_at wrong bytes = Err (record { wrong = wrong; left = length bytes })

-- a field's value with the bytes after the field, or reading stops at the field
abbrev pub place_result : {A : Type 0} → Result A Wrong → List ℕ → List ℕ → Taken A
place_result (Ok x) bytes rest = Ok (x, rest)
place_result (Err wrong) bytes rest = stop_at wrong bytes

-- where reading stops by a fault: nowhere where memory ran out
abbrev pub read_cause : ReadFault → Option ReadStop
read_cause NoMemory = None
read_cause (Stopped stop) = Some stop

-- ---- records one after the other

-- so many items, each of which may follow those before it
abbrev pub take_items : {A : Type 0} → (List ℕ → Taken A) → (List A → A → Bool) → ℕ → List A → List ℕ → Taken (List A)
take_items item_at may_follow zero before bytes = Ok (before, bytes)
take_items item_at may_follow (suc n) before bytes =
    item_at bytes >>= λ item. if may_follow before item.0 then take_items item_at may_follow n (before ++ item.0 ∷ []) item.1 else stop_at Repeated bytes

-- each item may follow those before it
abbrev pub AllFollow : {A : Type 0} → (List A → A → Bool) → List A → List A → Type 0
AllFollow may_follow before [] = Unit {0}
AllFollow may_follow before (item ∷ items) = (may_follow before item ≡ true) × AllFollow may_follow (before ++ item ∷ []) items
