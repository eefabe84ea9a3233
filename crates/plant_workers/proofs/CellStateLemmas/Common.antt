-- The names that several proofs of this crate cite, passed on from one place. Declares nothing.
pub use Rattle.plant_workers.specs.cell_state.HeldView.{cell_book, waiting_of}
pub use Rattle.plant_workers.specs.cell_state.Taking.{is_frame, has_frame}
pub use Rattle.plant_workers.specs.declared.cell_state.told.Told.{Told}
pub use Rattle.plant_core.proofs.LiveLemmas.GiveLemmas.{one_more_taken, all_taken, HaveTakenSoFar}
pub use Rattle.plant_core.specs.live.Reslicing.{least_unfit, reslice_fault}
pub use Rattle.operator_model.specs.Replay.{BookView, book_after_action}
pub use Rattle.operator_model.specs.declared.action.Entry.{Entry}
pub use Rattle.operator_model.specs.declared.action.SliceRow.{SliceRow}
pub use Rattle.operator_model.specs.declared.output.Output.{Output}
pub use Rattle.plant_core.proofs.WaitingLemmas.{waiting_acted, waiting_more, none_here, one_here, some_here, on_err, replay_one}
pub use Rattle.plant_core.specs.Waiting.{waiting_in, frames_in, IsOneFrame}
pub use Rattle.run_model.specs.IsStateAfter.{frames_of, frame_with_number}
pub use Rattle.slice_scheduler.specs.declared.elements.ElementsFields.{ElementsFields}
pub use Rattle.std.proofs.lemmas.List.{length-set, take-append-drop, length-append}
pub use Rattle.std.proofs.lemmas.List.Elements.{AllWithin-more_set, filter_map-append}
pub use Rattle.std.proofs.lemmas.Option.{same_Some, slice_get_within, slice_get-get_or, slice_get-map, slice_get_read}
pub use Rattle.std.specs.List.{AllWithin, flat_map}
pub use Rattle.std.specs.Prelude.{slice_get, slice_set, count_by, nat_lt, map, vec_len, vec_capacity}
