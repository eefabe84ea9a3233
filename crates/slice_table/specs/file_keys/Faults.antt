-- The fault of a plant file: that of the first of its keys that is invalid (implementation-specific).
use Rattle.std.specs.Prelude.{◌≡◌, ◌⊎◌, All, List, Some, None}
use Rattle.toml.specs.Data.{Data, Members}
use Rattle.plant.specs.declared.consts.ConstsFields.{ConstsFields}
use Rattle.plant.specs.declared.operator_row.RowFields.{RowFields}
use Rattle.slice_table.specs.declared.plant_fault.PlantFault.{PlantFault}
use Rattle.slice_table.specs.declared.plant_fault.PlantFault.TheVariants.{Missing, BadValue}
use Rattle.slice_table.specs.declared.plant_key.Key.{Key}
use Rattle.slice_table.specs.Checks.{rows_fault}
use Rattle.slice_table.specs.Says.{SaysConsts, SaysRows}
use Rattle.lists.specs.First.{IsFirst}
use Rattle.slice_table.specs.file_keys.Held.{value_of_key}
use Rattle.slice_table.specs.file_keys.Keys.{keys_of}
use Rattle.slice_table.specs.file_keys.Stands.{IsValueOfKey, MustStand}

-- the key has to be there, and is not
abbrev pub IsMissing : Members → Key → Type 0
IsMissing document key = (value_of_key document key ≡ None) × MustStand document key

-- what is under the key may not be there: it is of another type, or out of its range
abbrev pub IsWrong : Members → Key → Type 0
IsWrong document key = (d : Data) × (value_of_key document key ≡ Some d) × (¬ IsValueOfKey document key d)

-- the key is missing, or what is under it is wrong
abbrev pub IsAtFault : Members → Key → Type 0
IsAtFault document key = IsMissing document key ⊎ IsWrong document key

-- how the fault is reported
abbrev pub IsToldAs : Members → Key → PlantFault → Type 0
IsToldAs document key fault = (IsMissing document key × (fault ≡ Missing key)) ⊎ (IsWrong document key × (fault ≡ BadValue key))

-- the fault of the first key that is invalid
pub record IsOfTheFirstKey (document : Members) (fault : PlantFault) : Type 0 where
  pub key : Key
  pub first : IsFirst (IsAtFault document) (keys_of document) key
  pub told : IsToldAs document key fault

-- no key is invalid
abbrev pub HasNoFault : Members → Type 0
HasNoFault document = All (λ key. ¬ IsAtFault document key) (keys_of document)

-- no key is invalid, and this is the first fault of all of them together
pub record IsOfAllKeys (document : Members) (fault : PlantFault) : Type 0 where
  pub consts : ConstsFields
  pub rows : List RowFields
  pub right : HasNoFault document
  pub says_consts : SaysConsts document consts
  pub says_rows : SaysRows consts document rows
  pub told : rows_fault consts rows ≡ Some fault
