-- The names that several proofs of this crate cite, passed on from one place. Declares nothing.
pub use Rattle.plant_core.proofs.LiveLemmas.PlaceLemmas.{seen_at, set_alike}
pub use Rattle.plant_core.proofs.LiveLemmas.ReachLemmas.{stepped, arrives}
pub use Rattle.plant_core.specs.live.Faults.{step_fault, IsReported, act_fault}
pub use Rattle.plant_core.specs.live.LiveView.{live_view}
pub use Rattle.plant_core.specs.live.Performing.{forgotten, IsOf, Performs}
pub use Rattle.plant_core.specs.live.Planning.{IsActPlan}
pub use Rattle.plant_core.specs.live.Reachable.{IsReachable, IsOfAStep}
pub use Rattle.plant_core.specs.live.Reslicing.{reslice_fault}
pub use Rattle.plant_core.specs.declared.live.act_plan.ActPlan.{ActPlan}
pub use Rattle.plant_core.specs.declared.live.core_fault.ResliceFault.{ResliceFault}
pub use Rattle.map_assembly.specs.Gathering.{gathering_of, IsGathering, Gathering, is_last}
pub use Rattle.operator_book.specs.Kept.{HeldHistory}
pub use Rattle.operator_model.specs.Machine.{own_step, IsAllowed}
pub use Rattle.operator_model.specs.Replay.{BookView, opened_book, operator_of_book, book_after_action, AreTold, IsReplay}
pub use Rattle.operator_model.specs.declared.action.Action.{Action}
pub use Rattle.operator_model.specs.declared.action.Entry.{Entry}
pub use Rattle.operator_model.specs.declared.action.SliceRow.{SliceRow}
pub use Rattle.operator_model.specs.declared.output.Output.{Output}
pub use Rattle.plant.specs.Plant.{IsPlant}
pub use Rattle.plant.specs.declared.consts.ConstsFields.{ConstsFields}
pub use Rattle.plant.specs.declared.operator_row.RowFields.{RowFields}
pub use Rattle.plant.specs.declared.plant.PlantFields.{PlantFields}
pub use Rattle.plant_core.specs.RecordView.{record_view}
pub use Rattle.plant_core.specs.Recorded.{histories_after_reslice, with_histories, recorded_view, IsRecordOf, reslicing_of, recorded_gathering}
pub use Rattle.plant_core.specs.declared.slice_change.SliceChange.{SliceChange}
pub use Rattle.run_model.proofs.Entries.{get_other, some_at}
pub use Rattle.run_model.specs.IsStateAfter.{CoreView, IsStateAfter, frame_with_number, frames_of}
pub use Rattle.run_model.specs.Steps.{Steps, Acts, Collects, Reslices}
pub use Rattle.run_model.specs.declared.step.Out.{Out}
pub use Rattle.run_model.specs.declared.step.Step.{Step}
pub use Rattle.slice_scheduler.specs.declared.elements.ElementsFields.{ElementsFields}
pub use Rattle.std.proofs.lemmas.List.{length-set, map-set, take_all, length-map, length-replicate, map-append, drop_at, take-append-drop, drop-append-le, drop_more}
pub use Rattle.std.proofs.lemmas.List.Elements.{AllWithin-more_set, filter_map-append}
pub use Rattle.std.proofs.lemmas.Option.{slice_get-map, slice_get_read, same_Some, slice_get_within, slice_get_past}
pub use Rattle.std.specs.List.{AllWithin, flat_map}
pub use Rattle.std.specs.Prelude.{slice_get, replicate, slice_index_or}
