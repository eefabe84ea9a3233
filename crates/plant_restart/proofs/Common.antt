-- The names that several proofs of this crate cite, passed on from one place. Declares nothing.
pub use Rattle.plant_core.proofs.LiveLemmas.ResumeLemmas.{HaveOwnNames, own_state, map_is, over_map, all_gone}
pub use Rattle.plant_core.specs.live.After.{IsAfterFrom}
pub use Rattle.plant_core.specs.live.LiveOperator.{sound_of, book_by}
pub use Rattle.plant_core.specs.live.LiveView.{live_view}
pub use Rattle.plant_core.specs.live.Resting.{Rests}
pub use Rattle.plant_core.specs.live.Resumed.{first_from, GoesAlong, GoTogether, slices_now, slices_next, IsOddFault, IsSliceFault, IsResumeFault, start_with}
pub use Rattle.plant_core.specs.declared.live.resume_fault.ResumeFault.{ResumeFault}
pub use Rattle.map_assembly.proofs.OrderLemmas.{PairsByRecursion, pairs_from_AllPairs, pairs-map, all-map}
pub use Rattle.operator_model.specs.Replay.{BookView}
pub use Rattle.operator_model.specs.State.{OperatorState, Operator, opened_state}
pub use Rattle.plant.specs.Consts.{KeepsConsts}
pub use Rattle.plant.specs.declared.consts.ConstsFields.{ConstsFields}
pub use Rattle.plant.specs.declared.operator_row.RowFields.{RowFields}
pub use Rattle.plant.specs.declared.plant.PlantFields.{PlantFields}
pub use Rattle.plant_restart.specs.ByName.{state_under, state_or_opened, operator_by_name, operators_by_name, start_by_name}
pub use Rattle.plant_restart.specs.Refused.{refused_from}
pub use Rattle.plant_restart.specs.Restarted.{IsRestarted, IsRestartFault, CanRestart, IsRowFault, IsRowsFault, names_of, HasNoRow, HaveRows, IsRestoreFault}
pub use Rattle.plant_restart.specs.Saving.{state_of_book, states_by_name, saved_book, saved_by_name}
pub use Rattle.plant_restart.specs.declared.fault.RestartFault.{RestartFault}
pub use Rattle.plant_restart.specs.declared.fault.RestartFault.TheVariants.{NoMemory, State, Core}
pub use Rattle.run_model.proofs.OwnFrames.{at_place}
pub use Rattle.run_model.specs.Changing.{IsPlantChange}
pub use Rattle.run_model.specs.IsStateAfter.{CoreView}
pub use Rattle.run_model.specs.Starts.{Start}
pub use Rattle.snapshot_format.specs.States.{state_of, saved_state}
pub use Rattle.snapshot_format.specs.declared.saved.SavedOperator.{SavedOperator}
pub use Rattle.std.proofs.lemmas.List.{map-id, at_drop_more, at_drop_all, get_or-take, length-take-le, map-append, take_more, take_all, length-map}
pub use Rattle.std.proofs.lemmas.List.Elements.{All-take, recursion_from_All, All-from_recursion, All-contains, All-push}
pub use Rattle.std.proofs.lemmas.Option.{slice_get-map, slice_get_within, none-some, same_Some, slice_get_read}
pub use Rattle.std.specs.List.{AllByRecursion}
pub use Rattle.std.specs.Prelude.{slice_get, ◌≢◌, Contains}
pub use Rattle.std.specs.Vec.Iter.{into_iter_items, into_iter_len}
