-- The names that several proofs of this crate cite, passed on from one place. Declares nothing.
pub use Rattle.map_assembly.proofs.LastLemmas.{length-fronts}
pub use Rattle.map_assembly.proofs.StateLemmas.{after_other, is_put, last_is_first, last_frame, slices_valid}
pub use Rattle.map_assembly.specs.Assembled.{IsPutResult, IsMapOf}
pub use Rattle.map_assembly.specs.Gathering.{Gathering, next_of, IsGathering, HasPutNoneFrom, MayReslice, queue_of, with_part, is_last, frame_slices, slices_at, is_part, put_fault, frame_parts, front_or, slices_or, fits_at, is_whole, fronts, IsPartAt, AreQueued}
pub use Rattle.map_assembly.specs.Part.{quota_of, is_fitting, is_slice}
pub use Rattle.map_assembly.specs.Plan.{IsInFrame, AreSlices}
pub use Rattle.map_assembly.specs.Reading.{MapReads}
pub use Rattle.map_assembly.specs.Tiled.{part_of, own_part, holds}
pub use Rattle.map_assembly.specs.declared.map_bytes.MapBytes.{MapBytes}
pub use Rattle.map_assembly.specs.declared.quota.Quota.{Quota}
pub use Rattle.map_assembly.specs.declared.slicing.Reslicing.{Reslicing}
pub use Rattle.map_assembly.specs.declared.view.MapView.{MapView}
pub use Rattle.operator_model.proofs.FrameLemmas.{arrived_none, worked_none, run_puts}
pub use Rattle.operator_model.specs.Frame.{next_at, resent, tick_result, frame_elements}
pub use Rattle.operator_model.specs.Frames.{is_tick, frame_numbers}
pub use Rattle.operator_model.specs.Machine.{own_step, IsAllowed, own_run}
pub use Rattle.operator_model.specs.Replay.{BookView, operator_of_book, IsReplayFrom, actions_of, book_after_action, AreTold}
pub use Rattle.operator_model.specs.Slices.{SliceFrom, reslicings_in, MayRun, waiting_slice, slice_in_frame, slice_of_run, IsOfItsSlice, slice_or}
pub use Rattle.operator_model.specs.Sound.{IsSound}
pub use Rattle.operator_model.specs.State.{OperatorState, Operator, operator, opened_state}
pub use Rattle.operator_model.specs.declared.action.Action.{Action}
pub use Rattle.operator_model.specs.declared.action.Action.TheVariants.{Arrive, Work, Tick, Reslice}
pub use Rattle.operator_model.specs.declared.action.Entry.{Entry}
pub use Rattle.operator_model.specs.declared.action.SliceRow.{SliceRow}
pub use Rattle.operator_model.specs.declared.output.Output.{Output}
pub use Rattle.plant.specs.Plant.{IsPlant, AgreeOn}
pub use Rattle.plant.specs.Roster.{holder, ListsFirst}
pub use Rattle.plant.specs.Row.{IsRowOf, is_listed}
pub use Rattle.plant.specs.declared.consts.Channel.{Channel}
pub use Rattle.plant.specs.declared.consts.ConstsFields.{ConstsFields}
pub use Rattle.plant.specs.declared.operator_row.RowFields.{RowFields}
pub use Rattle.plant.specs.declared.plant.PlantFields.{PlantFields}
pub use Rattle.run_model.specs.IsStateAfter.{CoreView, IsStateAfterFrom, frames_of, IsStateAfter, IsBookFrom, AreFramesFrom, AreNumbered, frame_with_number, IsGatheredFrom}
pub use Rattle.run_model.specs.IsTraceOf.{isolated_run_from, IsMapFrom, IsLeast, AreMapsFrom, IsUnder, elements_at_frame, ArePartsFrom, isolated_run, IsTraceFrom, IsTraceOf}
pub use Rattle.run_model.specs.NonInterference.{NoticeTheSame}
pub use Rattle.run_model.specs.Opened.{opened_core, started_book, started_core}
pub use Rattle.run_model.specs.Ordered.{IsCollected, target, IsToldFrom, AreInOrderFrom, OrderedFrom, action_at, AreOwnFrom}
pub use Rattle.run_model.specs.OwnSteps.{own_steps, slice_of, reslicings_of, answers_of, outputs_under, maps_in, action_of, collects_of, map_in, reslicing_in, output_under, is_collect, resliced_by}
pub use Rattle.run_model.specs.Periods.{ArePeriodsOf, Period, IsPeriodOf, steps_over, answers_over, maps_over, NoticesAlike}
pub use Rattle.run_model.specs.SharedOut.{IsOwnPartFrom, IsSharedOutFrom, IsSharedOut}
pub use Rattle.run_model.specs.Starts.{Start, first_start, own_of, IsStart, StandAtOneFrame}
pub use Rattle.run_model.specs.Steps.{told_map, Collects, Acts, Reslices, Steps}
pub use Rattle.run_model.specs.declared.step.Out.{Out}
pub use Rattle.run_model.specs.declared.step.Step.{Step}
pub use Rattle.slice_scheduler.proofs.SumLemmas.{recursion-append}
pub use Rattle.slice_scheduler.specs.Minislots.{Minislots, slices_overlap}
pub use Rattle.slice_scheduler.specs.declared.elements.ElementsFields.{ElementsFields}
pub use Rattle.std.proofs.lemmas.Bool.{or_parts, leb-false, ltb-false, eqb-false, eqb-true, eq-eqb, ne_eqb, cases_eq, cond-true, and_from, lt-leb, le-leb, false_from_ne_true, ltb-true, cond-false, and_parts, lt-ltb}
pub use Rattle.std.proofs.lemmas.List.{length-map, map-append, length-drop, length-take-le, drop-append-le, drop-drop, drop-map, drop_more, take_more, length-set, length_push, map_push, length-replicate, reverse-append, take-append-le}
pub use Rattle.std.proofs.lemmas.List.Elements.{All-from_recursion, filter_map-append, All-weaker, All-push, All-append, recursion_from_All, All-nil, Contains-append_cases, All-contains}
pub use Rattle.std.proofs.lemmas.Option.{slice_get-get_or, slice_get_within, slice_get-map, get_or_from_slice_get, none-some, same_Some}
pub use Rattle.std.specs.List.{AllByRecursion, range_with_len, list_all, Contains}
pub use Rattle.std.specs.Prelude.{slice_get, count_by, if◌then◌else◌, ◌==◌, slice_set, filter_map, Option, Some, None, All}
