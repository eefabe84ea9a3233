-- What a service with a journal begins with (implementation-specific).
use Rattle.std.specs.Prelude.{◌≡◌, ◌≢◌, ◌⊎◌, ◌≤◌, ℕ, ◌+◌, List, [], Option, Ok, IfSome}
use Rattle.std.specs.Io.KnownBytes.{Appends}
use Rattle.toml.specs.Parse.{parse_document}
use Rattle.slice_table.specs.ReadPlant.{text_plant}
use Rattle.plant.specs.declared.plant.PlantFields.{PlantFields}
use Rattle.run_model.specs.IsStateAfter.{CoreView}
use Rattle.snapshot_format.specs.declared.saved.Snapshot.{Snapshot}
use Rattle.snapshot_format.specs.States.{states_of}
use Rattle.plant_restart.specs.Restarted.{IsRestarted}
use Rattle.plant_restart.specs.Changing.{IsChangeOf}
use Rattle.line_service.specs.Bytes.{WhereKnown}
use Rattle.line_journal.specs.Journal.{JournalContent, journal_content}
use Rattle.state_service.specs.durable.Durable.{IsBegunWith, StandsForState}
use Rattle.state_service.specs.declared.period_end.PeriodEnd.{PeriodEnd}
use Rattle.state_service.specs.declared.period_end.PeriodEnd.TheVariants.{Ended}
use Rattle.state_service.specs.Serving.{LeadsHere, LosesNoLine, IsRestFrame, greeting}
use Rattle.state_service.specs.Periods.{IsAfterPeriod, SaysAtEnd, LeadsAtEnd}
use Rattle.state_service.specs.Crashes.{IsLeftBy}

-- the journal of a file of these bytes, which is begun if there is no byte
abbrev pub IsFoundIn : List ℕ → List ℕ → Option JournalContent → Type 0
IsFoundIn bytes file content = (bytes ≢ [] → content ≡ journal_content bytes) × (bytes ≡ [] → IsBegunWith file content)

-- the journal has a state that was saved with this plant file
pub record IsSavedWith (content : Option JournalContent) (file : List ℕ) : Type 0 where
  pub count : ℕ
  pub plant : PlantFields
  pub saved : Snapshot
  pub lines : List (List ℕ)
  pub stands : StandsForState content count plant saved lines
  pub file_is : saved.plant ≡ file

-- the plant is changed to that of a plant file
abbrev pub IsChangedTo : List ℕ → CoreView → CoreView → Type 0
IsChangedTo given led first = (plant : PlantFields) × (text_plant (parse_document given) ≡ Ok plant) × IsChangeOf led plant first

-- the plant stays if the given plant file has the same bytes as the one that was saved, and otherwise it is changed to that of the given
-- one
abbrev pub IsUnderFile : List ℕ → List ℕ → CoreView → CoreView → Type 0
IsUnderFile saved given led first = (given ≡ saved → first ≡ led) × (given ≢ saved → IsChangedTo given led first)

-- a core is restored from the state of a journal, which was saved with this plant file, before which so many lines were done, and these
-- lines are since
pub record IsRestoredFrom (content : Option JournalContent) (file : List ℕ) (count : ℕ) (lines : List (List ℕ)) (live : CoreView) : Type 0 where
  pub plant : PlantFields
  pub saved : Snapshot
  pub stands : StandsForState content count plant saved lines
  pub file_is : saved.plant ≡ file
  pub restored : IsRestarted plant saved.frame (states_of saved) live

-- from the core to which a journal leads, a service goes on with this first core under the plant file, after so many lines
pub record IsFirstCore (found : Option JournalContent) (file : List ℕ) (first : CoreView) (count : ℕ) : Type 0 where
  pub led : CoreView
  pub leads : LeadsHere found led count
  pub saved : List ℕ
  pub is_saved_with : IsSavedWith found saved
  pub is_under : IsUnderFile saved file led first

-- a service from the core to which a journal leads, under the plant file: after the greeting, lines are done up to the end of the input or
-- until a state is to be saved, and the journal is still the one that was found, or has the first lines of the input
pub record IsServiceSoFar (found : Option JournalContent) (file : List ℕ) (end : PeriodEnd) (content : Option JournalContent) (input rest part : List ℕ) (live : CoreView) (now : ℕ) (old new : Option (List ℕ)) : Type 0 where
  pub first : CoreView
  pub count : ℕ
  pub is_first : IsFirstCore found file first count
  pub frame : Option ℕ
  pub is_frame : IsRestFrame first frame
  pub mid : Option (List ℕ)
  pub greeted : Appends old mid (greeting (count + 1) frame)
  pub so_far : IsAfterPeriod end file first count input rest part live now mid new
  pub left : (content ≡ found) ⊎ IsLeftBy found file first count input content

-- such a service up to the end of a period, of a core that is not kept: a state that is due is that of the core with the plant file, and
-- otherwise the journal leads to the core
pub record IsServedUpTo (found content : Option JournalContent) (given file : List ℕ) (count : ℕ) (end : PeriodEnd) (part : List ℕ) (known rest old new : Option (List ℕ)) : Type 0 where
  pub live : CoreView
  pub same_file : file ≡ given
  pub due : SaysAtEnd count end
  pub leads : LeadsAtEnd end content live count
  pub serves : WhereKnown known rest (λ input left. IsServiceSoFar found given end content input left part live count old new)
  pub loses_none : LosesNoLine found content
  pub enough : loses_none.least ≤ count

-- a service of all lines of an input, at whose end the journal leads to the core that has done them
pub record IsServiceOn (found : Option JournalContent) (file input : List ℕ) (content : Option JournalContent) (old new : Option (List ℕ)) : Type 0 where
  pub live : CoreView
  pub now : ℕ
  pub serves : IsServiceSoFar found file Ended content input [] [] live now old new
  pub leads : LeadsHere content live now

-- a service that begins with a file of these bytes: a journal is found in it, which leads to a core, which is then under the plant of the
-- plant file, and the service goes on from there
pub record IsStateService (bytes file input : List ℕ) (content : Option JournalContent) (old new : Option (List ℕ)) : Type 0 where
  pub found : Option JournalContent
  pub is_found : IsFoundIn bytes file found
  pub serves : IsServiceOn found file input content old new

-- ---- what a crash leaves

-- it is as before, or it has a state and no fewer lines
abbrev pub IsUnharmed : List ℕ → Option JournalContent → Type 0
IsUnharmed bytes content = (content ≡ journal_content bytes) ⊎ LosesNoLine (journal_content bytes) content

-- of a service that found this journal: it has the first lines of the input
pub record IsLeftByService (found : Option JournalContent) (file input : List ℕ) (content : Option JournalContent) : Type 0 where
  pub first : CoreView
  pub count : ℕ
  pub is_first : IsFirstCore found file first count
  pub left : IsLeftBy found file first count input content

-- it has no fewer lines, and it is the one that was found or, if the bytes of the input are known, has its first lines
pub record IsLeftUnder (found : Option JournalContent) (file : List ℕ) (known : Option (List ℕ)) (content : Option JournalContent) : Type 0 where
  pub loses_none : LosesNoLine found content
  pub named : IfSome known (λ input. (content ≡ found) ⊎ IsLeftByService found file input content)

-- of a service that began with a file of these bytes: the file is as it was, or has the journal that was found in it or begun, or this has
-- the first lines of the input
abbrev pub IsLeftAt : List ℕ → List ℕ → List ℕ → Option JournalContent → Type 0
IsLeftAt bytes file input content = (content ≡ journal_content bytes) ⊎ ((found : Option JournalContent) × IsFoundIn bytes file found
    × ((content ≡ found) ⊎ IsLeftByService found file input content))

-- of its opening: the file is as it was, or the journal is begun
abbrev pub IsLeftByOpening : List ℕ → List ℕ → Option JournalContent → Type 0
IsLeftByOpening bytes file content = (content ≡ journal_content bytes) ⊎ ((bytes ≡ []) × IsBegunWith file content)
