-- What the faults of a service say.
use Rattle.std.proofs.Common.{◌≡◌, ◌≢◌, ◌≤◌, ℕ, List, Option, Some, None, Result, Ok, Err, IfSome, IfErr, subst, arith, lt_of_lt_of_le, lt_of_le_of_lt}
use Rattle.toml.specs.Parse.{parse_document}
use Rattle.slice_table.specs.ReadPlant.{text_plant}
use Rattle.state_service.proofs.Common.{PlantFields, CoreView, plant_text, JournalContent, LeadsHere, IsFoundIn, IsSavedWith, IsDiskFault, IsServingFault, IsFaultOfChange, IsStartRefused, IsStartFault, IsJournalFault, IsRefusedAt, IsServiceFault}
use Rattle.plant_restart.specs.declared.fault.ChangeFault.{ChangeFault}
use Rattle.plant_restart.specs.declared.refusing.RefusedState.{RefusedState}
use Rattle.state_service.specs.declared.durable.fault.DurableFault.{DurableFault}
use Rattle.state_service.specs.declared.durable.fault.DurableFault.TheVariants as durable
use Rattle.state_service.specs.declared.fault.StateServiceFault.{StateServiceFault}
use Rattle.state_service.specs.declared.fault.StateServiceFault.TheVariants.{NotText, InvalidPlant, Journal, NotRestored, NotChanged, Stream, NoMemory}

pub if_err : {T E : Type 0} (r : Result T E) (P Q : E → Type 0) → ((e : E) → P e → Q e) → IfErr r P → IfErr r Q
if_err (Ok x) P Q f h = tt
if_err (Err e) P Q f h = f e h

-- ---- the disk

later_disk : (a b c d : ℕ) (fault : DurableFault) → c ≤ a → b ≤ d → IsDiskFault a b fault → IsDiskFault c d fault
later_disk a b c d durable.NoJournal le1 le2 is = is
later_disk a b c d (durable.State fault) le1 le2 is = tt
later_disk a b c d (durable.Line failure) le1 le2 is = tt
later_disk a b c d durable.Disk le1 le2 is = lt_of_le_of_lt le1 (lt_of_lt_of_le is le2)
later_disk a b c d durable.Full le1 le2 is = tt

-- more faults of the disk
pub later_fault : (a b c d : ℕ) (fault : StateServiceFault) → c ≤ a → b ≤ d → IsServingFault a b fault → IsServingFault c d fault
later_fault a b c d NotText le1 le2 is = is
later_fault a b c d (InvalidPlant fault) le1 le2 is = is
later_fault a b c d (Journal fault) le1 le2 is = later_disk a b c d fault le1 le2 is
later_fault a b c d (NotRestored why) le1 le2 is = tt
later_fault a b c d (NotChanged why refused) le1 le2 is = is
later_fault a b c d (Stream error) le1 le2 is = tt
later_fault a b c d NoMemory le1 le2 is = tt

-- ---- the start

module _ (found : Option JournalContent) (file : List ℕ) where
  pub serving_start : (before now : ℕ) (fault : StateServiceFault) → IsServingFault before now fault → IsStartFault found file before now fault
  serving_start before now NotText is = is
  serving_start before now (InvalidPlant fault) is = is
  serving_start before now (Journal fault) is = is
  serving_start before now (NotRestored why) is = tt
  serving_start before now (NotChanged why refused) is = absurd is
  serving_start before now (Stream error) is = tt
  serving_start before now NoMemory is = tt

  -- the plant is not changed
  pub change_start : (n : ℕ) (led : CoreView) (count : ℕ) (saved : List ℕ) (plant : PlantFields) (fault : StateServiceFault) → LeadsHere found led count → IsSavedWith found saved → file ≢ saved
      → text_plant (parse_document file) ≡ Ok plant → IsFaultOfChange led plant fault → IsStartFault found file n n fault
  change_start n led count saved plant NotText leads is_saved other plant_is is = is
  change_start n led count saved plant (InvalidPlant fault) leads is_saved other plant_is is = is
  change_start n led count saved plant (Journal durable.NoJournal) leads is_saved other plant_is is = is
  change_start n led count saved plant (Journal (durable.State fault)) leads is_saved other plant_is is = tt
  change_start n led count saved plant (Journal (durable.Line failure)) leads is_saved other plant_is is = tt
  change_start n led count saved plant (Journal durable.Disk) leads is_saved other plant_is is = absurd (omega (arith, is))
  change_start n led count saved plant (Journal durable.Full) leads is_saved other plant_is is = tt
  change_start n led count saved plant (NotRestored why) leads is_saved other plant_is is = tt
  change_start n led count saved plant (NotChanged why refused) leads is_saved other plant_is is =
      record { led = led; count = count; leads = leads; saved = saved; is_saved_with = is_saved; other = other; plant = plant; plant_is = plant_is; not_changed = is }
  change_start n led count saved plant (Stream error) leads is_saved other plant_is is = tt
  change_start n led count saved plant NoMemory leads is_saved other plant_is is = tt

-- ---- the beginning

refused_at : (known : Option (List ℕ)) (bytes file : List ℕ) (found : Option JournalContent) (why : ChangeFault) (refused : List RefusedState) → IfSome known (λ input. file ≡ plant_text input) → IsFoundIn bytes file found
    → IsStartRefused found file why refused → IfSome known (λ input. IsRefusedAt bytes (plant_text input) why refused)
refused_at None bytes file found why refused file_is is_found is = tt
refused_at (Some input) bytes file found why refused file_is is_found is =
    subst (λ (f : List ℕ). IsRefusedAt bytes f why refused) file_is (found, is_found, is)

disk_journal : (bytes : List ℕ) (a b c d : ℕ) (fault : DurableFault) → c ≤ a → b ≤ d → IsDiskFault a b fault → IsJournalFault bytes c d fault
disk_journal bytes a b c d durable.NoJournal le1 le2 is = absurd is
disk_journal bytes a b c d (durable.State fault) le1 le2 is = tt
disk_journal bytes a b c d (durable.Line failure) le1 le2 is = tt
disk_journal bytes a b c d durable.Disk le1 le2 is = lt_of_le_of_lt le1 (lt_of_lt_of_le is le2)
disk_journal bytes a b c d durable.Full le1 le2 is = tt

pub start_fault : (known : Option (List ℕ)) (bytes file : List ℕ) (found : Option JournalContent) (a b c d : ℕ) (fault : StateServiceFault) → IfSome known (λ input. file ≡ plant_text input) → IsFoundIn bytes file found
    → c ≤ a → b ≤ d → IsStartFault found file a b fault → IsServiceFault known bytes c d fault
start_fault known bytes file found a b c d NotText file_is is_found le1 le2 is = absurd is
start_fault known bytes file found a b c d (InvalidPlant fault) file_is is_found le1 le2 is = absurd is
start_fault known bytes file found a b c d (Journal fault) file_is is_found le1 le2 is = disk_journal bytes a b c d fault le1 le2 is
start_fault known bytes file found a b c d (NotRestored why) file_is is_found le1 le2 is = tt
start_fault known bytes file found a b c d (NotChanged why refused) file_is is_found le1 le2 is = refused_at known bytes file found why refused.items file_is is_found is
start_fault known bytes file found a b c d (Stream error) file_is is_found le1 le2 is = tt
start_fault known bytes file found a b c d NoMemory file_is is_found le1 le2 is = tt
