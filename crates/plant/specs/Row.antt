-- What an operator is provisioned with: the keys of its row, each in its range (implementation-specific).
use Rattle.std.specs.Prelude.{◌≤◌, ℕ, ◌+◌, ◌-◌, Bool, false, List, length, All, count_by, sum_by, Option, Some, None, IsTrue, IsSome, is_some}
use Rattle.std.specs.List.{list_any}
use Rattle.std.specs.Str.{bytes_eq}
use Rattle.dsx_messages.specs.declared.modem.Modem.{Modem}
use Rattle.admission.specs.Free.{Numbers}
use Rattle.admission.specs.declared.budget.Budget.{Budget}
use Rattle.param_sets.specs.Units.{UnitSizes}
use Rattle.param_sets.specs.Need.{need_if}
use Rattle.param_sets.specs.declared.sets.SetsFields.{SetsFields}
use Rattle.plant.specs.declared.consts.ConstsFields.{ConstsFields}
use Rattle.plant.specs.declared.provision.Provision.{Provision}
use Rattle.plant.specs.declared.operator_row.RowFields.{RowFields}
use Rattle.plant.specs.Provisioned.{sets_of_encoding}

-- ---- whose modem a modem is

-- two addresses are equal, byte by byte
abbrev pub same_modem : Modem → Modem → Bool
same_modem a b = bytes_eq a.0 b.0

-- the modem is one of these
abbrev pub is_listed : Modem → List Modem → Bool
is_listed modem modems = list_any (λ m. same_modem m modem) modems

-- ---- the keys by themselves

-- from least to most of them
pub record IsFrom (least most n : ℕ) : Type 0 where
  pub low : least ≤ n
  pub high : n ≤ most

-- each key of a row is in its range, by itself; the SIDs are those that one flow may have (Annex A, A.2)
pub record IsRow (row : RowFields) : Type 0 where
  pub sfids : 1 ≤ row.sfids.first
  pub sids_low : 1 ≤ row.sids.first
  pub sids_high : row.sids.last ≤ 8191
  pub flows : IsFrom 1 1024 row.flows
  pub transactions : IsFrom 1 256 row.transactions
  pub inbox : IsFrom 1 256 row.inbox
  pub budget : row.budget ≤ 4096
  pub elements : row.elements ≤ 235
  pub modems : IsFrom 1 1024 (length row.modems)

-- ---- the keys next to what all operators share

-- what a provisioned flow needs: the need of its admitted set
abbrev pub need_of_sets : UnitSizes → Option SetsFields → Budget
need_of_sets units None = record { minislots = 0; elements = 0 }
need_of_sets units (Some sets) = need_if units sets.admitted

-- what a provisioned flow needs, by its encoding
abbrev pub need_of_provision : ConstsFields → Provision → Budget
need_of_provision consts p = need_of_sets consts.units (sets_of_encoding consts p.encoding)

-- a flow with these sets has an admitted set
abbrev pub admits : Option SetsFields → Bool
admits None = false
admits (Some sets) = is_some sets.admitted

-- how many numbers a range has
abbrev pub count_of : Numbers → ℕ
count_of range = range.last + 1 - range.first

-- a provisioned flow is of one of the operator's modems, and its encoding gives it sets
pub record IsProvision (consts : ConstsFields) (row : RowFields) (p : Provision) : Type 0 where
  pub mine : IsTrue (is_listed p.modem row.modems)
  pub sets : IsSome (sets_of_encoding consts p.encoding)

-- the provisioned flows fit the operator's flows, its SFIDs, its SIDs, its budget and its quota of elements
pub record DoesFit (consts : ConstsFields) (row : RowFields) : Type 0 where
  pub flows : length row.provisions ≤ row.flows
  pub sfids : length row.provisions ≤ count_of row.sfids
  pub sids : count_by (λ p. admits (sets_of_encoding consts p.encoding)) row.provisions ≤ count_of row.sids
  pub minislots : sum_by (λ p. (need_of_provision consts p).minislots) row.provisions ≤ row.budget
  pub elements : sum_by (λ p. (need_of_provision consts p).elements) row.provisions ≤ row.elements

-- a row of a plant of these constants: its slice lies after the head and within the frame, its budget is at most its
-- slice, and its provisioned flows fit
pub record IsRowOf (consts : ConstsFields) (row : RowFields) : Type 0 where
  pub keys : IsRow row
  pub behind_head : consts.channel.head ≤ row.slice.start
  pub within_frame : row.slice.start + row.slice.length ≤ consts.channel.frame_minislots
  pub provisions : All (IsProvision consts row) row.provisions
  pub budget : row.budget ≤ row.slice.length
  pub fits : DoesFit consts row
