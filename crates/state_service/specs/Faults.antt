-- What the faults of a service with a journal say (implementation-specific).
use Rattle.std.specs.Prelude.{◌≡◌, ◌≢◌, ◌<◌, ⊤, ℕ, List, [], Option, None, Ok, Err, IfSome, IsUtf8}
use Rattle.toml.specs.Parse.{parse_document}
use Rattle.slice_table.specs.ReadPlant.{text_plant}
use Rattle.plant.specs.declared.plant.PlantFields.{PlantFields}
use Rattle.run_model.specs.IsStateAfter.{CoreView}
use Rattle.plant_core.specs.live.Resting.{Rests}
use Rattle.line_service.specs.script.Input.{plant_text}
use Rattle.plant_restart.specs.Changing.{IsChangeFault}
use Rattle.plant_restart.specs.declared.fault.ChangeFault.{ChangeFault}
use Rattle.plant_restart.specs.declared.refusing.RefusedState.{RefusedState}
use Rattle.plant_restart.specs.Refused.{refused_states}
use Rattle.plant_restart.specs.Saving.{states_by_name}
use Rattle.line_journal.specs.Journal.{JournalContent, journal_content}
use Rattle.state_service.specs.declared.durable.fault.DurableFault.{DurableFault}
use Rattle.state_service.specs.declared.durable.fault.DurableFault.TheVariants as durable
use Rattle.state_service.specs.declared.fault.StateServiceFault.{StateServiceFault}
use Rattle.state_service.specs.declared.fault.StateServiceFault.TheVariants.{NotText, InvalidPlant, Journal, NotRestored, NotChanged, Stream, NoMemory}
use Rattle.state_service.specs.Serving.{LeadsHere}
use Rattle.state_service.specs.Beginning.{IsFoundIn, IsSavedWith}

-- ---- lines that are served

-- a fault of the journal, where the disk has failed so often before and now: it has failed since if it says so, and the file is a journal
abbrev pub IsDiskFault : ℕ → ℕ → DurableFault → Type 0
IsDiskFault before now durable.NoJournal = ⊥
IsDiskFault before now (durable.State fault) = ⊤
IsDiskFault before now (durable.Line failure) = ⊤
IsDiskFault before now durable.Disk = before < now
IsDiskFault before now durable.Full = ⊤

-- a fault after the start of a service: it is none of the plant file of the input
abbrev pub IsServingFault : ℕ → ℕ → StateServiceFault → Type 0
IsServingFault before now NotText = ⊥
IsServingFault before now (InvalidPlant fault) = ⊥
IsServingFault before now (Journal fault) = IsDiskFault before now fault
IsServingFault before now (NotRestored why) = ⊤
IsServingFault before now (NotChanged why refused) = ⊥
IsServingFault before now (Stream error) = ⊤
IsServingFault before now NoMemory = ⊤

-- ---- a plant that is not changed

-- the refusals of the states of a core's operators under a plant, if the core rests, and none otherwise
pub record AreRefusals (live : CoreView) (plant : PlantFields) (refused : List RefusedState) : Type 0 where
  pub rests : (frame : ℕ) → Rests live frame → refused ≡ refused_states plant (states_by_name live)
  pub restless : ((frame : ℕ) → ¬ Rests live frame) → refused ≡ []

-- the plant of a core is not changed to this one for such a reason, and these are the refusals
pub record IsChangeRefusedFor (live : CoreView) (plant : PlantFields) (why : ChangeFault) (refused : List RefusedState) : Type 0 where
  pub reason : IsChangeFault live plant why
  pub refusals : AreRefusals live plant refused

-- a fault of a change of the plant of a core
abbrev pub IsFaultOfChange : CoreView → PlantFields → StateServiceFault → Type 0
IsFaultOfChange live plant NotText = ⊥
IsFaultOfChange live plant (InvalidPlant fault) = ⊥
IsFaultOfChange live plant (Journal fault) = IsDiskFault 0 0 fault
IsFaultOfChange live plant (NotRestored why) = ⊤
IsFaultOfChange live plant (NotChanged why refused) = IsChangeRefusedFor live plant why refused.items
IsFaultOfChange live plant (Stream error) = ⊤
IsFaultOfChange live plant NoMemory = ⊤

-- ---- the start of a service

-- the plant of the core to which a journal leads is not changed to that of another plant file than the one that was saved
pub record IsStartRefused (found : Option JournalContent) (file : List ℕ) (why : ChangeFault) (refused : List RefusedState) : Type 0 where
  pub led : CoreView
  pub count : ℕ
  pub leads : LeadsHere found led count
  pub saved : List ℕ
  pub is_saved_with : IsSavedWith found saved
  pub other : file ≢ saved
  pub plant : PlantFields
  pub plant_is : text_plant (parse_document file) ≡ Ok plant
  pub not_changed : IsChangeRefusedFor led plant why refused

-- a fault of a service that found this journal
abbrev pub IsStartFault : Option JournalContent → List ℕ → ℕ → ℕ → StateServiceFault → Type 0
IsStartFault found file before now NotText = ⊥
IsStartFault found file before now (InvalidPlant fault) = ⊥
IsStartFault found file before now (Journal fault) = IsDiskFault before now fault
IsStartFault found file before now (NotRestored why) = ⊤
IsStartFault found file before now (NotChanged why refused) = IsStartRefused found file why refused.items
IsStartFault found file before now (Stream error) = ⊤
IsStartFault found file before now NoMemory = ⊤

-- ---- a service from its beginning on

-- a fault of the plant file of an input, if the bytes of the input are known
abbrev pub IsGivenFault : Option (List ℕ) → StateServiceFault → Type 0
IsGivenFault known NotText = IfSome known (λ input. IsUtf8 (plant_text input) → ⊥)
IsGivenFault known (InvalidPlant fault) = IfSome known (λ input. text_plant (parse_document (plant_text input)) ≡ Err fault)
IsGivenFault known (Journal fault) = ⊥
IsGivenFault known (NotRestored why) = ⊥
IsGivenFault known (NotChanged why refused) = ⊥
IsGivenFault known (Stream error) = ⊤
IsGivenFault known NoMemory = ⊤

-- a file of these bytes is not a journal: it has a byte, and has no state
pub record IsNoJournal (bytes : List ℕ) : Type 0 where
  pub has_byte : bytes ≢ []
  pub no_state : journal_content bytes ≡ None

-- a fault of a journal in a file of these bytes, which may be no journal
abbrev pub IsJournalFault : List ℕ → ℕ → ℕ → DurableFault → Type 0
IsJournalFault bytes before now durable.NoJournal = IsNoJournal bytes
IsJournalFault bytes before now (durable.State fault) = ⊤
IsJournalFault bytes before now (durable.Line failure) = ⊤
IsJournalFault bytes before now durable.Disk = before < now
IsJournalFault bytes before now durable.Full = ⊤

-- a start from a file of these bytes is refused
abbrev pub IsRefusedAt : List ℕ → List ℕ → ChangeFault → List RefusedState → Type 0
IsRefusedAt bytes file why refused = (found : Option JournalContent) × IsFoundIn bytes file found × IsStartRefused found file why refused

-- what each fault says of the input, of the file of these bytes and of the disk, which has failed so often before and now
abbrev pub IsServiceFault : Option (List ℕ) → List ℕ → ℕ → ℕ → StateServiceFault → Type 0
IsServiceFault known bytes before now NotText = IfSome known (λ input. IsUtf8 (plant_text input) → ⊥)
IsServiceFault known bytes before now (InvalidPlant fault) = IfSome known (λ input. text_plant (parse_document (plant_text input)) ≡ Err fault)
IsServiceFault known bytes before now (Journal fault) = IsJournalFault bytes before now fault
IsServiceFault known bytes before now (NotRestored why) = ⊤
IsServiceFault known bytes before now (NotChanged why refused) = IfSome known (λ input. IsRefusedAt bytes (plant_text input) why refused.items)
IsServiceFault known bytes before now (Stream error) = ⊤
IsServiceFault known bytes before now NoMemory = ⊤
