-- The names that several proofs of this crate cite, passed on from one place. Declares nothing.
pub use Rattle.line_service.proofs.ServiceLemmas.{known_same, known_then}
pub use Rattle.line_service.proofs.StepLemmas.{on_ok_map, on_ok}
pub use Rattle.line_service.specs.Bytes.{WhereKnown}
pub use Rattle.line_service.specs.Lines.{lines_left, IsLineRead}
pub use Rattle.line_service.specs.Service.{answer_text, end_text}
pub use Rattle.line_service.specs.SoFar.{IsHeld, LineIsAnswered}
pub use Rattle.line_service.specs.declared.line_break.LineBreak.{LineBreak}
pub use Rattle.line_service.specs.declared.line_break.LineBreak.TheVariants.{Another, End}
pub use Rattle.plant_core.specs.live.After.{IsAfterFrom, IsReachableFromStart}
pub use Rattle.plant_core.specs.live.LiveView.{live_view}
pub use Rattle.operator_model.specs.Replay.{BookView}
pub use Rattle.operator_model.specs.State.{OperatorState, Operator, opened_state}
pub use Rattle.plant.specs.Plant.{IsPlant}
pub use Rattle.plant.specs.declared.operator_row.RowFields.{RowFields}
pub use Rattle.plant.specs.declared.plant.PlantFields.{PlantFields}
pub use Rattle.plant_restart.specs.ByName.{start_by_name, state_under, state_or_opened, operator_by_name, operators_by_name}
pub use Rattle.plant_restart.specs.Changing.{IsChangeFault, IsChangeOf}
pub use Rattle.plant_restart.specs.Restarted.{IsRestarted, IsRestoreFault}
pub use Rattle.plant_restart.specs.Saving.{state_of_book, saved_book, IsCoreSnapshot, states_by_name}
pub use Rattle.plant_restart.specs.declared.fault.RestartFault.TheVariants.{NoMemory, State, Core}
pub use Rattle.state_service.specs.resumed.Beginning.{is_snapshot_head, front_text, GoesOnFrom, BeginsAnew, IsBeginning, IsSavedFile, IsPlantFile, IsFileFault, IsTextFault, IsRestoringFault, IsBeginFault, IsBeginningRead}
pub use Rattle.state_service.specs.resumed.Items.{InService, begun_from, asks_snapshot, begins_plant, core_snapshot, ItemAnswer, IsRunSoFarOf, IsItemAnswer, AreItemAnswers, first_period, later_periods, KeepNumbers, ServiceIsOfChanges, ServiceIsOfRuns, change_text, texts_of}
pub use Rattle.state_service.specs.resumed.LastStates.{IsLastState, IsServedTo, name_at, restless_operator, EndsBegun}
pub use Rattle.state_service.specs.resumed.NewFrames.{asks_frame, NamesFrame, IsCoreRenumbered, IsNewFrameFault, IsStartRefusal, IsNotStarted, frame_text, frame_refusal_text, IsSavedCore, saved_core}
pub use Rattle.state_service.specs.resumed.NewPlants.{IsChangeRefusal, IsNewFileFault, IsNewPlantFault, refusal_text}
pub use Rattle.state_service.specs.resumed.PlantFiles.{IsNumberAfter, is_dashes, is_ended, lines_taken, file_text, most_bytes, most_kept, IsKeptUpTo, IsReadingFile, IsFileRead, IsWhole, IsPlantFileText, IsFileOf, break_after, IsFileKept}
pub use Rattle.state_service.specs.resumed.Renumbering.{IsRunRenumbered, AreRuns}
pub use Rattle.state_service.specs.resumed.Resumed.{resumed_service, EndsInput}
pub use Rattle.state_service.specs.resumed.Served.{AreServedSoFar, HoldsLine, AwaitsFrame, in_service, ItemIsAnswered, WritesSnapshot, AwaitsPlant, AwaitsCore, IsAfterItem}
pub use Rattle.state_service.specs.declared.resumed.kept_text.Keeping.{Keeping}
pub use Rattle.state_service.specs.declared.resumed.last_state.AtEnd.{AtEnd}
pub use Rattle.state_service.specs.declared.resumed.last_state.BegunEnd.{BegunEnd}
pub use Rattle.state_service.specs.declared.resumed.last_state.LastState.{LastState}
pub use Rattle.run_model.specs.Changing.{RunSoFar, IsPlantChange, AreChanges, state_now}
pub use Rattle.run_model.specs.IsStateAfter.{CoreView}
pub use Rattle.run_model.specs.Starts.{Start}
pub use Rattle.run_model.specs.declared.step.Out.{Out}
pub use Rattle.run_model.specs.declared.step.Step.{Step}
pub use Rattle.line_service.proofs.ScriptLemmas.Outcomes.{if_ok}
pub use Rattle.slice_table.specs.ReadPlant.{text_plant}
pub use Rattle.snapshot_format.specs.States.{states_of, sfid_with_flow, saved_flow, state_of, saved_state}
pub use Rattle.snapshot_format.specs.Text.{text_of_snapshot}
pub use Rattle.snapshot_format.specs.declared.saved.Snapshot.{Snapshot}
pub use Rattle.std.proofs.KnownBytes.{Appends-nil, Appends-trans, Appends-kept}
pub use Rattle.std.proofs.lemmas.List.{map-id, take_all}
pub use Rattle.std.proofs.lemmas.Slice.Eq.{bytes_eq-Decides}
pub use Rattle.std.proofs.lemmas.Str.{IsUtf8-from_is_utf8, IsUtf8-from_ascii, is_utf8-from_IsUtf8}
pub use Rattle.std.specs.Io.KnownBytes.{Appends}
pub use Rattle.std.specs.Prelude.{drop, slice_get}
pub use Rattle.std.specs.Str.{IsUtf8, is_utf8, bytes_eq}
pub use Rattle.std.specs.Str.Parse.{ParsesUnsigned}
pub use Rattle.toml.specs.Parse.{parse_document}
