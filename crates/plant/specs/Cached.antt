-- What a cache of operators keeps (implementation-specific).
use Rattle.std.specs.Prelude.{◌≡◌, ℕ, List, Contains, Some}
use Rattle.dsx_messages.specs.declared.modem.Modem.{Modem}
use Rattle.plant.specs.declared.operator_row.RowFields.{RowFields}
use Rattle.plant.specs.Roster.{holder}

-- each modem is next to the operator that lists it
abbrev pub AreHolders : List RowFields → List (Modem × ℕ) → Type 0
AreHolders rows pairs = (modem : Modem) (op : ℕ) → Contains pairs (modem, op) → holder rows modem ≡ Some op
