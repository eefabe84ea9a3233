-- Which lines a crash of a service with a journal leaves (implementation-specific).
use Rattle.std.specs.Prelude.{◌≡◌, ◌⊎◌, ℕ, ◌+◌, List, [], ◌++◌, length, map, Option, Some, None, IfSome}
use Rattle.plant.specs.declared.plant.PlantFields.{PlantFields}
use Rattle.run_model.specs.IsStateAfter.{CoreView}
use Rattle.line_service.specs.script.Lines.{lines_of}
use Rattle.line_service.specs.Bytes.{WhereKnown}
use Rattle.line_journal.specs.Journal.{JournalContent}
use Rattle.state_service.specs.durable.Durable.{LeadsTo}
use Rattle.state_service.specs.declared.reading.BatchEnd.{BatchEnd}
use Rattle.state_service.specs.declared.reading.BatchEnd.TheVariants.{Open}
use Rattle.state_service.specs.declared.period_end.PeriodEnd.{PeriodEnd}
use Rattle.state_service.specs.Taking.{kept_line, IsAfterBatch}
use Rattle.state_service.specs.Serving.{Event, lines_done, LeadOn, HasNoFewer}

-- these are the first lines of an input, as they are kept
pub record AreFirstLines (input : List ℕ) (lines : List (List ℕ)) : Type 0 where
  pub rest : List (List ℕ)
  pub lines_are : map kept_line (lines_of input) ≡ lines ++ rest

-- ---- the lines of a journal

-- A journal leads to the core to which these events led. It is the one that was found, before any event, or its state was saved after them.
pub record IsBase (found : Option JournalContent) (file : List ℕ) (first : CoreView) (count : ℕ) (events : List Event) (base : JournalContent) : Type 0 where
  pub live : CoreView
  pub plant : PlantFields
  pub lead : LeadOn file first count events live
  pub leads : LeadsTo base plant live (count + length (lines_done events))
  pub is : ((events ≡ []) × (found ≡ Some base)) ⊎ (base.lines ≡ [])

-- a journal has these lines: a state to which the first of them led, and the others since
pub record HoldsLines (found : Option JournalContent) (file : List ℕ) (first : CoreView) (count : ℕ) (done : List (List ℕ)) (content : Option JournalContent) : Type 0 where
  pub events : List Event
  pub base : JournalContent
  pub is_base : IsBase found file first count events base
  pub since : List (List ℕ)
  pub content_is : content ≡ Some (record { snapshot = base.snapshot; lines = base.lines ++ since })
  pub done_are : done ≡ lines_done events ++ since

-- it has the first lines of an input
pub record IsLeftBy (found : Option JournalContent) (file : List ℕ) (first : CoreView) (count : ℕ) (input : List ℕ) (content : Option JournalContent) : Type 0 where
  pub done : List (List ℕ)
  pub holds : HoldsLines found file first count done content
  pub first_lines : AreFirstLines input done

-- it has the lines that are taken of an input up to the end of a batch
pub record HoldsTakenLines (found : Option JournalContent) (file : List ℕ) (first : CoreView) (count : ℕ) (end : BatchEnd) (content : Option JournalContent) (input rest part : List ℕ) : Type 0 where
  pub done : List (List ℕ)
  pub taken : IsAfterBatch end input rest done part
  pub holds : HoldsLines found file first count done content

-- ---- the journal of a service

-- how a service began: the journal that it found, with no fewer lines than these, its first core under its plant file, after so many lines,
-- and the bytes of its input, if they are known
pub record ServiceOrigin : Type 0 where
  pub found : Option JournalContent
  pub least : ℕ
  pub file : List ℕ
  pub first : CoreView
  pub count : ℕ
  pub input : Option (List ℕ)

-- its journal between two batches, or before the command after a batch
pub record IsJournalOf (origin : ServiceOrigin) (end : BatchEnd) (content : Option JournalContent) (rest : Option (List ℕ)) (part : List ℕ) : Type 0 where
  pub no_fewer : HasNoFewer origin.least content
  pub holds : WhereKnown origin.input rest (λ input left. HoldsTakenLines origin.found origin.file origin.first origin.count end content input left part)

-- what a crash leaves of it
pub record IsLeftFrom (origin : ServiceOrigin) (content : Option JournalContent) : Type 0 where
  pub no_fewer : HasNoFewer origin.least content
  pub named : IfSome origin.input (λ input. IsLeftBy origin.found origin.file origin.first origin.count input content)

-- its journal in a period that goes on, or has ended
abbrev pub IsJournalInPeriod : Option PeriodEnd → ServiceOrigin → Option JournalContent → Option (List ℕ) → List ℕ → Type 0
IsJournalInPeriod None origin content rest part = IsJournalOf origin Open content rest part
IsJournalInPeriod (Some end) origin content rest part = IsLeftFrom origin content
