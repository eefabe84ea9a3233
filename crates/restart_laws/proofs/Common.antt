-- The names that several proofs of this crate cite, passed on from one place. Declares nothing.
pub use Rattle.dsx_messages.specs.declared.kind.Kind.{Kind}
pub use Rattle.dsx_messages.specs.declared.kind.Kind.TheVariants.{Dsa, Dsc, Dsd}
pub use Rattle.dsx_messages.specs.declared.modem.Modem.{Modem}
pub use Rattle.flow_table.specs.Table.{committed_minislots, flow_at, flow_with, is_sid, with_flow, sfids_of, sids_of, committed_elements}
pub use Rattle.flow_table.specs.declared.flow.Flow.{Flow}
pub use Rattle.flow_table.specs.declared.flow.Pending.{Pending}
pub use Rattle.plant_core.proofs.LiveLemmas.BehindLemmas.{HasCore, behind}
pub use Rattle.plant_core.proofs.LiveLemmas.GoLemmas.{started_after}
pub use Rattle.plant_core.proofs.LiveLemmas.RestLemmas.{book_at_place, stands_now, rests_at}
pub use Rattle.plant_core.proofs.LiveLemmas.ResumeLemmas.{HaveOwnNames, own_state, map_is, over_map, resumed_starts}
pub use Rattle.plant_core.specs.live.After.{IsAfterFrom}
pub use Rattle.plant_core.specs.live.Resumed.{waiting_among, later_of, waiting_if, waits_from, first_from, MayResume, GoesAlong, GoTogether, slices_now, slices_next, slice_later}
pub use Rattle.map_assembly.proofs.OrderLemmas.{PairsByRecursion, pairs_from_AllPairs, pairs-map}
pub use Rattle.map_assembly.specs.Gathering.{IsGathering, frame_slices, Gathering, slices_at, is_whole, AreQueued}
pub use Rattle.map_assembly.specs.Part.{quota_of}
pub use Rattle.map_assembly.specs.Plan.{AreQuotas, AreSlices}
pub use Rattle.map_assembly.specs.declared.slicing.Reslicing.{Reslicing}
pub use Rattle.operator_book.specs.Resuming.{IsListedIn, IsStateUnder}
pub use Rattle.operator_model.proofs.FrameLemmas.{StaysAt, worked_none, arrived_none, run_puts}
pub use Rattle.operator_model.specs.Frame.{next_at, all_undone, flows_left, frame_grants, all_granted, tick_result}
pub use Rattle.operator_model.specs.Handle.{StepResult, without_flow, undone, flows_after, carried_out, is_of_cmts, new_unless, transaction_result, acked_if, ack_result, kind_of, tid_of, message_handled, asked_of_flow, bandwidth_request_result, handle}
pub use Rattle.operator_model.specs.Replay.{BookView}
pub use Rattle.operator_model.specs.Slices.{waiting_slice, SliceFrom, slice_from, reslicings_in, MayRun, slice_in_frame}
pub use Rattle.operator_model.specs.Sound.{IsSound, IsNextShare, IsShare}
pub use Rattle.operator_model.specs.State.{OperatorState, operator, opened_before, Operator, opened_state, opened_flow, consts_from}
pub use Rattle.operator_model.specs.declared.action.Action.{Action}
pub use Rattle.operator_model.specs.declared.action.Action.TheVariants.{Arrive, Work, Tick, Reslice}
pub use Rattle.operator_model.specs.declared.heard.Arrival.{Arrival}
pub use Rattle.operator_model.specs.declared.heard.Heard.{Heard}
pub use Rattle.operator_model.specs.declared.share.NextShare.{NextShare}
pub use Rattle.operator_model.specs.declared.share.Share.{Share}
pub use Rattle.param_sets.specs.declared.sets.SetsFields.{SetsFields}
pub use Rattle.plant.specs.Consts.{KeepsConsts, IsChannel}
pub use Rattle.plant.specs.Name.{IsOperatorName}
pub use Rattle.plant.specs.Plant.{IsPlant}
pub use Rattle.plant.specs.Row.{IsRowOf, is_listed, same_modem, IsProvision}
pub use Rattle.plant.specs.declared.consts.ConstsFields.{ConstsFields}
pub use Rattle.plant.specs.declared.operator_row.RowFields.{RowFields}
pub use Rattle.plant.specs.declared.plant.PlantFields.{PlantFields}
pub use Rattle.plant_restart.specs.ByName.{operator_by_name, start_by_name, state_under, state_or_opened, operators_by_name}
pub use Rattle.plant_restart.specs.Restarted.{IsRestarted, HasNoRow, HaveRows, names_of, CanRestart}
pub use Rattle.plant_restart.specs.Saving.{state_of_book, states_by_name, saved_book}
pub use Rattle.restart_laws.specs.Processes.{PlantFileBegins, after_answers, IsProcess, EndsAtRest, next_service, AreProcesses, first_of_all, later_of_all, all_periods, IsBegun, ProcessesAreChanges, KeptRowsGoThroughAll, RestartsAreNotNoticed}
pub use Rattle.restart_laws.specs.Restarting.{IsOfItsModems, StartsOfItsModems, IsReadWhole, IsFileInForce, BeginsInForce, StaysInForce, NumbersKeepModems, NumbersAreNotNoticed, IsReadyToSave, AnsweredIsReady, HaveTypedStates, ModemsGoOn, BeginsOfItsModems, StaysOfItsModems, snapshot_at, BeginsWith, SnapshotBeginsService, IsRestorable, SavedStatesAreRestored, OnlyMemoryRefuses, RestartIsChange, SnapshotIsServed, FitsTypes}
pub use Rattle.state_service.specs.resumed.Beginning.{front_text, GoesOnFrom, BeginsAnew, is_snapshot_head, IsBeginning, IsSavedFile, IsPlantFile, IsRestoringFault, IsBeginFault}
pub use Rattle.state_service.specs.resumed.Items.{IsRunSoFarOf, InService, ItemAnswer, IsItemAnswer, AreItemAnswers, IsFrameAnswer, first_period, later_periods, core_snapshot, IsServedFrom}
pub use Rattle.state_service.specs.resumed.Resumed.{resumed_service}
pub use Rattle.run_model.proofs.Entries.{some_at}
pub use Rattle.run_model.proofs.Fits.{may, have_one, lengths_of, own_all, put_so_far}
pub use Rattle.run_model.proofs.OwnFrames.{at_place}
pub use Rattle.run_model.specs.Changing.{IsPlantChange, state_now, RunSoFar, AreChanges, KeepsProvisioning, periods}
pub use Rattle.run_model.specs.IsStateAfter.{CoreView, frames_of, IsStateAfterFrom}
pub use Rattle.run_model.specs.Opened.{gathering_from, started_core}
pub use Rattle.run_model.specs.OwnSteps.{own_steps, collects_of, reslicings_of}
pub use Rattle.run_model.specs.Starts.{own_of, IsStart, Start}
pub use Rattle.run_model.specs.declared.step.Out.{Out}
pub use Rattle.run_model.specs.declared.step.Step.{Step}
pub use Rattle.line_service.specs.script.Input.{is_bar, before_bar, plant_text, script_text}
pub use Rattle.slice_scheduler.proofs.SumLemmas.{recursion-append}
pub use Rattle.slice_scheduler.specs.Minislots.{Minislots}
pub use Rattle.slice_table.specs.ReadPlant.{text_plant}
pub use Rattle.slice_table.specs.declared.plant_fault.PlantFault.{PlantFault}
pub use Rattle.snapshot_format.specs.Saved.{IsSavedOperator, IsSnapshot, IsSavedShare, IsSavedNext, IsSet, AreSets, IsPending, IsSavedFlow, IsSavedEntry, IsHeard, IsSavedArrival}
pub use Rattle.snapshot_format.specs.States.{states_of, saved_flow}
pub use Rattle.snapshot_format.specs.declared.saved.SavedFlow.{SavedFlow}
pub use Rattle.snapshot_format.specs.declared.saved.SavedOperator.{SavedOperator}
pub use Rattle.snapshot_format.specs.declared.saved.Snapshot.{Snapshot}
pub use Rattle.std.proofs.lemmas.Bool.{ne_eqb, ltb-true, ltb-false, eqb-false, lt-ltb, le-ltb, leb-false, eqb-true, cond_both, and_from, eq-eqb}
pub use Rattle.std.proofs.lemmas.List.{take_at, drop_at, drop_all, length-map, map-id, length-replicate}
pub use Rattle.std.proofs.lemmas.List.Elements.{recursion_from_All, All-from_recursion, All-contains}
pub use Rattle.std.proofs.lemmas.Option.{slice_get-map, slice_get_within, none-some, same_Some}
pub use Rattle.std.proofs.lemmas.Slice.Eq.{bytes_eq-Decides}
pub use Rattle.std.specs.List.{AllByRecursion, flat_map, cons_option, count_by, list_any, list_all}
pub use Rattle.std.specs.Map.{remove_entry, lookup, keys_of}
pub use Rattle.std.specs.Ordering.{nat_cmp, match_ordering, MatchOrdering}
pub use Rattle.std.specs.Prelude.{slice_get, IsTrue, All, Some, replicate, IfSome, slice_index}
pub use Rattle.std.specs.Str.{bytes_eq, is_utf8}
pub use Rattle.std.specs.declared.cmp.Ordering.{Ordering}
pub use Rattle.std.specs.declared.cmp.Ordering.TheVariants.{Less, Equal, Greater}
pub use Rattle.toml.specs.Parse.{parse_document}
pub use Rattle.transactions.specs.Entry.{same_kind, is_of, waits_for}
pub use Rattle.transactions.specs.Keeping.{entry_after_ack, OneEach}
pub use Rattle.transactions.specs.declared.entry.KeptEntry.{KeptEntry}
