-- Which operator lists a modem, and the map that finds it (implementation-specific).
use Rattle.std.specs.Prelude.{◌≡◌, ℕ, ◌≤◌, IsTrue, List, Option, Some, None, is_some, slice_get, if◌then◌else◌}
use Rattle.std.specs.List.{position_from}
use Rattle.std.specs.Option.{option_or}
use Rattle.std.specs.HashMap.{HashMap, get}
use Rattle.std.specs.declared.hash.BuildHasherDefault.{BuildHasherDefault}
use Rattle.std.specs.declared.hash.FoldHasher.{FoldHasher}
use Rattle.dsx_messages.specs.declared.modem.Modem.{Modem}
use Rattle.plant.specs.declared.operator_row.RowFields.{RowFields}
use Rattle.plant.specs.Row.{same_modem, is_listed}

-- the place of the first row that lists the modem
abbrev pub holder : List RowFields → Modem → Option ℕ
holder rows modem = position_from (λ row. is_listed modem row.modems) 0 rows

-- the operator at this place lists the modem, and none before it does
pub record ListsFirst (rows : List RowFields) (modem : Modem) (operator : ℕ) : Type 0 where
  pub row : RowFields
  pub here : slice_get rows operator ≡ Some row
  pub listed : IsTrue (is_listed modem row.modems)
  pub first : (i : ℕ) (other : RowFields) → slice_get rows i ≡ Some other → IsTrue (is_listed modem other.modems) → operator ≤ i

-- modems and numbers by the hash of their addresses
abbrev pub Places : Type 0
Places = HashMap Modem ℕ (BuildHasherDefault FoldHasher)

-- the place that the map has for a modem
abbrev pub place_of : Places → Modem → Option ℕ
place_of places modem = get same_modem places modem

-- the map has each modem at its row
abbrev pub Finds : List RowFields → Places → Type 0
Finds rows places = (modem : Modem) → place_of places modem ≡ holder rows modem

-- the map has exactly these modems
abbrev pub Lists : Places → List Modem → Type 0
Lists places modems = (modem : Modem) → is_some (place_of places modem) ≡ is_listed modem modems

-- new is old with these modems at one place
abbrev pub Adds : Places → ℕ → List Modem → Places → Type 0
Adds old place modems new = (modem : Modem) → place_of new modem ≡ option_or (place_of old modem) (if is_listed modem modems then Some place else None)
