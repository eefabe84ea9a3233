-- The names that several proofs of this crate cite, passed on from one place. Declares nothing.
pub use Rattle.state_service.proofs.DurableLemmas.LeadLemmas.{leads_anew, restarted_reached}
pub use Rattle.state_service.specs.durable.Durable.{SaysState, LeadsTo, IsLeading, StandsForState, IsBegunWith, IsKeptState}
pub use Rattle.line_journal.specs.Device.{LeavesOnly, Only, Elapses}
pub use Rattle.line_journal.specs.Found.{texts}
pub use Rattle.line_journal.specs.Journal.{JournalContent, journal_content, with_lines, fresh, IsBeforeOrAfter, IsJournalSettled}
pub use Rattle.line_service.specs.Bytes.{WhereKnown}
pub use Rattle.plant_core.specs.live.LiveView.{live_view}
pub use Rattle.plant.specs.declared.plant.PlantFields.{PlantFields}
pub use Rattle.plant_restart.specs.Restarted.{IsRestarted}
pub use Rattle.state_service.specs.resumed.NewFrames.{IsSavedCore, frame_text}
pub use Rattle.run_model.specs.IsStateAfter.{CoreView}
pub use Rattle.line_service.proofs.ScriptLemmas.Outcomes.{if_ok}
pub use Rattle.line_service.specs.script.Input.{plant_text, script_text}
pub use Rattle.line_service.specs.script.Lines.{lines_of, parts_from}
pub use Rattle.snapshot_format.specs.States.{states_of}
pub use Rattle.snapshot_format.specs.declared.saved.Snapshot.{Snapshot}
pub use Rattle.state_service.specs.Beginning.{IsFoundIn, IsSavedWith, IsChangedTo, IsUnderFile, IsFirstCore, IsRestoredFrom, IsServiceSoFar, IsServiceOn, IsStateService, IsUnharmed, IsLeftUnder, IsLeftByService, IsLeftByOpening, IsLeftAt, IsServedUpTo}
pub use Rattle.state_service.specs.Commands.{AreNoCommands, IsRefusedCommand, IsCommandRefusedFor, IsSnapshotDue, IsNumberDue, IsCommandDue, IsOutcomeOf}
pub use Rattle.state_service.specs.Crashes.{ServiceOrigin, IsJournalOf, IsLeftFrom, IsLeftBy, HoldsTakenLines, AreFirstLines, HoldsLines, IsJournalInPeriod}
pub use Rattle.state_service.specs.Faults.{IsDiskFault, IsServingFault, IsFaultOfChange, IsStartRefused, IsStartFault, IsJournalFault, IsRefusedAt, IsServiceFault}
pub use Rattle.state_service.specs.Periods.{IsAfterPeriod, LeadsAtEnd, SaysDue, IsAfterLines, GoesOnAfterSave, IsKeptOf, IsInPeriod, LeadsUnlessDue}
pub use Rattle.state_service.specs.Serving.{IsServing, LeadsHere, HasLines, HasNoFewer, LosesNoLine, IsRestFrame, greeting, Event, lines_done, LeadOn, text_told, AreDoneNext, IsAtLine, GoesOnFromState, GoesOnUnderNumber}
pub use Rattle.state_service.specs.Taking.{AreTakenSoFar, kept_line, line_at_end, AreTaken, AreAllTaken, IsAfterBatch, AreTakenToEnd, line_if_any}
pub use Rattle.state_service.specs.declared.period_end.DueState.{DueState}
pub use Rattle.state_service.specs.declared.period_end.PeriodEnd.{PeriodEnd}
pub use Rattle.state_service.specs.declared.period_end.PeriodEnd.TheVariants.{Ended, Due}
pub use Rattle.state_service.specs.declared.reading.BatchEnd.{BatchEnd}
pub use Rattle.state_service.specs.declared.reading.BatchEnd.TheVariants.{Open, Command}
pub use Rattle.std.proofs.KnownBytes.{Appends-nil, Appends-trans, Appends-kept}
pub use Rattle.std.proofs.lemmas.List.{map-append, length-map, drop-append-le, nil_from_length, drop_more}
pub use Rattle.std.specs.Io.BufRead.{DropsConsumable, FillKeeps}
pub use Rattle.std.specs.Io.Buffered.{reader_buffer, reader_capacity, reader_inner, reader_remaining}
pub use Rattle.std.specs.Io.KnownBytes.{Appends, prepend_known, append_known, Keeps}
pub use Rattle.std.specs.declared.alloc.Global.{Global}
