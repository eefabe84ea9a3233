-- What is asked of all keys of a plant file together, and the first fault (implementation-specific).
use Rattle.std.specs.Prelude.{ℕ, ◌&&◌, nat_le, nat_lt, Bool, not, List, [], ◌∷◌, ◌++◌, length, count_by, sum_by, find, option_map, Option, Some, None, if◌then◌else◌, Ok, Err}
use Rattle.std.specs.Option.{option_or}
use Rattle.dsx_messages.specs.declared.modem.Modem.{Modem}
use Rattle.slice_table.specs.declared.checks.Apart.{Apart}
use Rattle.slice_table.specs.declared.checks.Apart.TheVariants.{Slices, Sids, Sfids}
use Rattle.plant.specs.declared.consts.ConstsFields.{ConstsFields}
use Rattle.plant.specs.declared.operator_row.RowFields.{RowFields}
use Rattle.plant.specs.declared.provision.Provision.{Provision}
use Rattle.slice_table.specs.declared.plant_fault.PlantFault.{PlantFault}
use Rattle.slice_table.specs.declared.plant_fault.PlantFault.TheVariants.{SlicesMeet, SidsMeet, SfidsMeet, ModemTwice, TooManyElements, BudgetOverSlice, ProvisionedOver}
use Rattle.plant.specs.Provisioned.{sets_of_encoding}
use Rattle.plant.specs.Row.{is_listed, need_of_provision, admits, count_of}
use Rattle.plant.specs.Plant.{ranges_overlap, all_modems, most_elements}
use Rattle.slice_scheduler.specs.Minislots.{slices_overlap}
use Rattle.slice_table.specs.Tree.{PlantResult}

-- ---- two operators have something in common

-- two operators' slices, SIDs or SFIDs have a number in common
abbrev pub meets : Apart → RowFields → RowFields → Bool
meets Slices a b = slices_overlap a.slice b.slice
meets Sids a b = ranges_overlap a.sids b.sids
meets Sfids a b = ranges_overlap a.sfids b.sfids

-- the first item with the first after it that the test joins it with
abbrev pub first_pair : {A : Type 0} → (A → A → Bool) → List A → Option (A × A)
first_pair test [] = None
first_pair test (x ∷ xs) = option_or (option_map (λ y. (x, y)) (find (test x) xs)) (first_pair test xs)

-- the names of the first two operators that have this in common
unfoldable pub first_meeting : Apart → List RowFields → Option (List ℕ × List ℕ)
first_meeting apart rows = option_map (λ pair. (pair.0.name, pair.1.name)) (first_pair (meets apart) rows)

-- ---- an address is listed twice

-- the first that was before
abbrev pub first_again : List Modem → List Modem → Option Modem
first_again before [] = None
first_again before (m ∷ ms) = if is_listed m before then Some m else first_again (before ++ m ∷ []) ms

-- ---- one operator's keys

-- the operator's budget is greater than its slice
abbrev pub is_over_slice : RowFields → Bool
is_over_slice row = nat_lt row.slice.length row.budget

-- the SIDs that the provisioned flows need together
unfoldable pub sids_needed : ConstsFields → List Provision → ℕ
sids_needed consts ps = count_by (λ p. admits (sets_of_encoding consts p.encoding)) ps

-- the minislots that the provisioned flows need together
unfoldable pub minislots_needed : ConstsFields → List Provision → ℕ
minislots_needed consts ps = sum_by (λ p. (need_of_provision consts p).minislots) ps

-- the elements that the provisioned flows need together
unfoldable pub provision_elements : ConstsFields → List Provision → ℕ
provision_elements consts ps = sum_by (λ p. (need_of_provision consts p).elements) ps

-- whether the provisioned flows fit the flows and the SFIDs
unfoldable pub counts_fit : RowFields → Bool
counts_fit row = nat_le (length row.provisions) row.flows && nat_le (length row.provisions) (count_of row.sfids)

-- whether what they need fits the SIDs, the budget and the quota
unfoldable pub needs_fit : ConstsFields → RowFields → Bool
needs_fit consts row =
    (nat_le (sids_needed consts row.provisions) (count_of row.sids) && nat_le (minislots_needed consts row.provisions) row.budget)
    && nat_le (provision_elements consts row.provisions) row.elements

-- whether the provisioned flows fit the operator's limits
unfoldable pub do_fit : ConstsFields → RowFields → Bool
do_fit consts row = counts_fit row && needs_fit consts row

-- the provisioned flows do not fit the operator's limits
abbrev pub is_overfull : ConstsFields → RowFields → Bool
is_overfull consts row = not (do_fit consts row)

-- the name of the first operator of which the test holds
abbrev pub first_named : (RowFields → Bool) → List RowFields → Option (List ℕ)
first_named test rows = option_map (λ row. row.name) (find test rows)

-- ---- the first fault

-- two operators have minislots in common, else SIDs, else SFIDs
unfoldable pub meeting_fault : List RowFields → Option PlantFault
meeting_fault rows =
    option_or (option_map (λ names. SlicesMeet names.0 names.1) (first_meeting Slices rows))
    (option_or (option_map (λ names. SidsMeet names.0 names.1) (first_meeting Sids rows))
    (option_map (λ names. SfidsMeet names.0 names.1) (first_meeting Sfids rows)))

-- a modem is listed twice, if this one is
abbrev pub modem_twice_fault : Option Modem → Option PlantFault
modem_twice_fault again = option_map ModemTwice again

-- the first address that is listed twice
unfoldable pub twice_fault : List RowFields → Option PlantFault
twice_fault rows = modem_twice_fault (first_again [] (all_modems rows))

-- a MAP can need more than 240 elements
unfoldable pub elements_fault : List RowFields → Option PlantFault
elements_fault rows = if nat_le (most_elements rows) 240 then None else Some (TooManyElements (most_elements rows))

-- the first operator whose budget is greater than its slice
unfoldable pub budget_fault : List RowFields → Option PlantFault
budget_fault rows = option_map BudgetOverSlice (first_named is_over_slice rows)

-- the first operator whose provisioned flows do not fit its limits
unfoldable pub provisioned_fault : ConstsFields → List RowFields → Option PlantFault
provisioned_fault consts rows = option_map ProvisionedOver (first_named (is_overfull consts) rows)

-- the value, unless there is a fault
abbrev pub unless : {A : Type 0} → Option PlantFault → A → PlantResult A
unless None x = Ok x
unless (Some fault) x = Err fault

-- the first of the faults 8 to 10 of all keys together
unfoldable pub late_fault : ConstsFields → List RowFields → Option PlantFault
late_fault consts rows = option_or (elements_fault rows) (option_or (budget_fault rows) (provisioned_fault consts rows))

-- the first of the faults 4 to 10 of all keys together
unfoldable pub rows_fault : ConstsFields → List RowFields → Option PlantFault
rows_fault consts rows = option_or (meeting_fault rows) (option_or (twice_fault rows) (late_fault consts rows))
