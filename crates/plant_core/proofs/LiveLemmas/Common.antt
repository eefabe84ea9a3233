-- The names that several proofs of this crate cite, passed on from one place. Declares nothing.
pub use Rattle.dsx_messages.specs.declared.modem.Modem.{Modem}
pub use Rattle.plant_core.specs.live.After.{IsOperatorFrom, IsAfterFrom, IsAfter, IsReachableFromStart, TwoLiveCores, TwoResumedCores}
pub use Rattle.plant_core.specs.live.DeskView.{book_of, slot_book, slot_waiting}
pub use Rattle.plant_core.specs.live.Faults.{collect_fault, act_fault, arrive_fault, step_fault, IsReported}
pub use Rattle.plant_core.specs.live.Giving.{HaveTakenAs, IsOfASlice}
pub use Rattle.plant_core.specs.live.LiveOperator.{sound_of, IsAtFrame, WaitsFrom, IsOdd, book_by, IsSoundAt}
pub use Rattle.plant_core.specs.live.LiveView.{live_view}
pub use Rattle.plant_core.specs.live.Performing.{forgotten, IsOf, went, Performs}
pub use Rattle.plant_core.specs.live.Reachable.{core_of, IsOfAStep, IsReachable}
pub use Rattle.plant_core.specs.live.Reslicing.{is_unfit, least_unfit, least_meeting, first_fault, row_fault, reslice_fault, do_meet}
pub use Rattle.plant_core.specs.live.Resting.{Rests, IsRestless, IsRestFault, RestingIsAtRest, BooksStandNow}
pub use Rattle.plant_core.specs.live.Resumed.{waiting_among, start_with, waits_from, first_from, GoesAlong, GoTogether, IsFirstOdd, IsOddFault, IsSliceFault, IsResumeFault, state_among, slice_later, later_of, waiting_if, MayResume}
pub use Rattle.map_assembly.proofs.NewLemmas.{queued-agree, AllPairs-from_pairs}
pub use Rattle.map_assembly.proofs.OrderLemmas.{PairsByRecursion, pairs_from_AllPairs, all-map}
pub use Rattle.map_assembly.specs.Gathering.{Gathering, slices_or, slices_at, frame_slices, queue_of, fits_at, is_part, put_fault, with_part, fronts, is_last, after_put, IsGathering, MayReslice, gathering_after_reslice, gathering_of, gathering_at, HasPutNoneFrom}
pub use Rattle.map_assembly.specs.LettingGo.{GoesOnAlike, has_begun, is_from}
pub use Rattle.map_assembly.specs.Part.{quota_of}
pub use Rattle.map_assembly.specs.Plan.{AreSlices, IsInFrame, IsFirstInvalid}
pub use Rattle.map_assembly.specs.declared.map_bytes.MapBytes.{MapBytes}
pub use Rattle.map_assembly.specs.declared.refused.GatherFault.{GatherFault}
pub use Rattle.map_assembly.specs.declared.slicing.Reslicing.{Reslicing}
pub use Rattle.operator_model.specs.Machine.{own_step, after_step, own_run, unfit_from, IsAllowed, stranger_of}
pub use Rattle.operator_model.specs.Replay.{BookView, AreTold, actions_of, operator_of_book, book_after_action}
pub use Rattle.operator_model.specs.Slices.{MayRun, SliceFrom, waiting_slice}
pub use Rattle.operator_model.specs.State.{Operator, operator, opened_before, OperatorState, opened_state}
pub use Rattle.operator_model.specs.declared.action.Action.{Action}
pub use Rattle.operator_model.specs.declared.action.SliceRow.{SliceRow}
pub use Rattle.operator_model.specs.declared.action.Unfit.{Unfit}
pub use Rattle.operator_model.specs.declared.heard.Heard.{Heard}
pub use Rattle.operator_model.specs.declared.output.Output.{Output}
pub use Rattle.plant.specs.Plant.{IsPlant}
pub use Rattle.plant.specs.Roster.{holder}
pub use Rattle.plant.specs.Row.{is_listed}
pub use Rattle.plant.specs.declared.consts.Channel.{Channel}
pub use Rattle.plant.specs.declared.consts.ConstsFields.{ConstsFields}
pub use Rattle.plant.specs.declared.operator_row.RowFields.{RowFields}
pub use Rattle.plant.specs.declared.plant.PlantFields.{PlantFields}
pub use Rattle.run_model.proofs.Entries.{some_at, get_same, get_other}
pub use Rattle.run_model.proofs.OneStep.{step_from, step_reached}
pub use Rattle.run_model.proofs.OwnFrames.{told_may, at_place}
pub use Rattle.run_model.specs.IsStateAfter.{CoreView, IsBookFrom, IsStateAfterFrom, frames_of, IsStateAfter}
pub use Rattle.run_model.specs.IsTraceOf.{IsTraceFrom, isolated_run_from}
pub use Rattle.run_model.specs.Opened.{opened_core, started_book, started_core, gathering_from}
pub use Rattle.run_model.specs.Ordered.{target, OrderedFrom, action_at}
pub use Rattle.run_model.specs.OwnSteps.{own_steps, slice_of, outputs_under, collects_of}
pub use Rattle.run_model.specs.Starts.{Start, IsStart, first_start, own_of}
pub use Rattle.run_model.specs.Steps.{NoneRefuses, Acts, Collects, Reslices, Steps, told_map}
pub use Rattle.run_model.specs.declared.step.Out.{Out}
pub use Rattle.run_model.specs.declared.step.Step.{Step}
pub use Rattle.slice_scheduler.specs.Minislots.{Minislots, slices_overlap}
pub use Rattle.slice_scheduler.specs.declared.elements.ElementsFields.{ElementsFields}
pub use Rattle.std.proofs.Math.Logic.{∥∥₁_map, ∥∥₁_elim}
pub use Rattle.std.proofs.Props.{props}
pub use Rattle.std.proofs.lemmas.Bool.{ltb-false, eqb-true, cases_eq, cond-true, lt-leb}
pub use Rattle.std.proofs.lemmas.List.{reverse-append, length-map, map-append, take_more, length-set, map-set, drop_more, drop_all, map-id, take_all, length-drop, take-map}
pub use Rattle.std.proofs.lemmas.List.Elements.{All-push, recursion_from_All, All-from_recursion, All-pop, All-nil, All-map}
pub use Rattle.std.proofs.lemmas.Option.{slice_get-map, slice_get_within, same_Some, slice_get_read, none-some, slice_get-get_or, some_pair_parts}
pub use Rattle.std.proofs.lemmas.Result.{on_ok_weaker, on_err_weaker}
pub use Rattle.std.proofs.lemmas.Slice.Eq.{bytes_eq-Decides}
pub use Rattle.std.specs.List.{find, range_with_len, AllByRecursion, position_from}
pub use Rattle.std.specs.Prelude.{slice_get, if◌then◌else◌, ◌==◌, IsSome, filter_map, count_by, slice_set, ◌≢◌, option_to_list, replicate}
pub use Rattle.std.specs.Vec.Iter.{into_iter_items, into_iter_len}
