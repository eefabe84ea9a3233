-- The names that several proofs of this crate cite, passed on from one place. Declares nothing.
pub use Rattle.map_assembly.proofs.StateLemmas.{is_put, after_other}
pub use Rattle.map_assembly.specs.Assembled.{IsMapOf, IsPutResult}
pub use Rattle.map_assembly.specs.Gathering.{Gathering, queue_of, is_last, with_part, is_whole, fronts, frame_slices, frame_parts, put_fault, after_put, gathering_after_reslice, IsGathering, gathering_of, next_of, MayReslice}
pub use Rattle.map_assembly.specs.declared.map_bytes.MapBytes.{MapBytes}
pub use Rattle.map_assembly.specs.declared.refused.GatherFault.{GatherFault}
pub use Rattle.map_assembly.specs.declared.refused.Refused.{Refused}
pub use Rattle.operator_book.specs.ViewOf.{view_of}
pub use Rattle.operator_model.specs.Machine.{own_run, own_step}
pub use Rattle.operator_model.specs.Replay.{BookView, actions_of, IsReplay, AreTold}
pub use Rattle.operator_model.specs.State.{opened_state, operator, OperatorState}
pub use Rattle.operator_model.specs.declared.action.Action.{Action}
pub use Rattle.operator_model.specs.declared.action.Entry.{Entry}
pub use Rattle.operator_model.specs.declared.action.SliceRow.{SliceRow}
pub use Rattle.operator_model.specs.declared.output.Output.{Output}
pub use Rattle.plant.specs.Plant.{IsPlant}
pub use Rattle.plant.specs.Row.{is_listed}
pub use Rattle.plant.specs.declared.consts.ConstsFields.{ConstsFields}
pub use Rattle.plant.specs.declared.operator_row.RowFields.{RowFields}
pub use Rattle.plant.specs.declared.plant.PlantFields.{PlantFields}
pub use Rattle.plant_core.proofs.WaitingLemmas.{none_here, one_here, replay_one}
pub use Rattle.plant_core.specs.Waiting.{frames_in, waiting_in, IsOneFrame}
pub use Rattle.plant_workers.specs.audit.Advancing.{Advances, HasAdvanced, HaveAdvanced, AllEndAt, EndsAt}
pub use Rattle.plant_workers.specs.audit.Counting.{AreCountsOf}
pub use Rattle.plant_workers.specs.audit.Due.{AreDue}
pub use Rattle.plant_workers.specs.audit.Numbering.{AllAreNumbered, IsMissed}
pub use Rattle.plant_workers.specs.audit.Outcome.{AreMerged, is_tick_of, ticks_of, AreTicked, IsOutcome}
pub use Rattle.plant_workers.specs.audit.Outs.{due_of, outs_of, outs_from}
pub use Rattle.plant_workers.specs.audit.Placings.{puts_of, map_if_made, HaveMade, AssemblyView, HasPut, put_by}
pub use Rattle.plant_workers.specs.audit.Straying.{AreOwnRuns, DifferFirst, IsOfAnother, HistoryStraysAt, IsStrayHistory, ArePut, IsPutStray, IsMapStray, IsFound}
pub use Rattle.plant_workers.specs.audit.Taken.{taken_by, waiting_operator}
pub use Rattle.plant_workers.specs.declared.audit.placing.Placing.{Placing}
pub use Rattle.plant_workers.specs.declared.audit.placing.Placing.TheVariants.{Put, Reslice}
pub use Rattle.run_model.proofs.Entries.{get_same, get_other, same_at, some_at}
pub use Rattle.run_model.proofs.Numbers.{Numbered, are_numbered, numbers_are, elements_are, of_number, found_at}
pub use Rattle.run_model.proofs.Slices.{parts_slices, none_put}
pub use Rattle.run_model.specs.IsStateAfter.{IsBookAfter, frames_of, AreNumbered}
pub use Rattle.run_model.specs.IsTraceOf.{isolated_run, AreMaps, IsUnder, IsTraceOf, ArePartsAt, IsMapIn, IsLeast}
pub use Rattle.run_model.specs.OwnSteps.{action_of, slice_of, own_steps, resliced_by, collects_of, outputs_under, output_under, answers_of, map_in, maps_in, is_collect}
pub use Rattle.run_model.specs.declared.step.Step.{Step}
pub use Rattle.plant_workers.specs.receipts.Framing.{numbered_frame}
pub use Rattle.plant_workers.specs.receipts.OwnParts.{history_outputs}
pub use Rattle.plant_workers.specs.declared.receipts.run_fault.RunFault.{RunFault}
pub use Rattle.slice_scheduler.specs.Minislots.{Minislots, IsSlice}
pub use Rattle.slice_scheduler.specs.declared.elements.ElementsFields.{ElementsFields}
pub use Rattle.std.proofs.lemmas.Bool.{cases_eq, eq-eqb, ne_eqb, cond-true, and_parts, cond-false, false_from_ne_true, false≢true}
pub use Rattle.std.proofs.lemmas.List.{length-map, length-set, length-replicate, take-replicate, take_all, length-take-le, drop_more, take_more, drop-drop, length-append, length-drop, get_or-replicate}
pub use Rattle.std.proofs.lemmas.List.Elements.{filter_map-append, All-from_recursion, recursion_from_All}
pub use Rattle.std.proofs.lemmas.Option.{none-some, same_Some, slice_get_within, get_or_from_slice_get, slice_get_past, slice_get_read}
pub use Rattle.std.specs.List.{range_with_len, AllByRecursion}
pub use Rattle.std.specs.Prelude.{slice_get, slice_set, filter_map, MatchOption, ◌==◌, All, replicate, OnOk, OnErr}
