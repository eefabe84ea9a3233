-- The names that several proofs of this crate cite, passed on from one place. Declares nothing.
pub use Rattle.map_assembly.specs.declared.map_bytes.MapBytes.{MapBytes}
pub use Rattle.map_assembly.specs.declared.view.MapSpan.{MapSpan}
pub use Rattle.operator_book.specs.ViewOf.{view_of}
pub use Rattle.operator_model.specs.Frames.{frame_numbers, is_tick}
pub use Rattle.operator_model.specs.Replay.{actions_of, AreTold, BookView}
pub use Rattle.operator_model.specs.State.{Operator, operator, opened_state}
pub use Rattle.operator_model.specs.declared.action.Entry.{Entry}
pub use Rattle.run_model.specs.IsStateAfter.{AreNumbered, frames_of}
pub use Rattle.run_model.specs.IsTraceOf.{elements_at_frame}
pub use Rattle.plant_workers.specs.receipts.Framing.{frames_with_numbers, AreFramesOf}
pub use Rattle.plant_workers.specs.receipts.Merge.{times, IsMergeOf, Stands, IndicesAscend}
pub use Rattle.plant_workers.specs.receipts.OwnParts.{history_outputs, IsFramePart, HasOwnParts}
pub use Rattle.plant_workers.specs.receipts.Settling.{IsSettled, StraysAt, IsShort, EachStands, NoneStrays, NoneIsShort, IsFirstStrayed, IsFirstShort, IsFirstMapStrayed, IsFirstFault}
pub use Rattle.plant_workers.specs.receipts.Straying.{lesser, IsLeastOr, Strays, AllStand, IsGreater, IsStray, StraysBehind, StandBehind}
pub use Rattle.plant_workers.specs.declared.receipts.own_frames.Frame.{Frame}
pub use Rattle.plant_workers.specs.declared.receipts.receipt.Receipt.{Receipt}
pub use Rattle.slice_scheduler.specs.declared.span.Span.{Span}
pub use Rattle.std.proofs.Math.ListN.{drop_of_length-le}
pub use Rattle.std.proofs.lemmas.Bool.{cases_eq, cases_lt, ne_eqb, false≢true}
pub use Rattle.std.proofs.lemmas.List.{drop_more, take_more, take_all, take-append-drop, map-append}
pub use Rattle.std.proofs.lemmas.List.Elements.{filter_map-append, All-more, All-nil, All-cons, All-head, All-tail}
pub use Rattle.std.proofs.lemmas.Option.{same_Some, slice_get-map, slice_get_within, slice_get_read}
pub use Rattle.std.proofs.lemmas.Slice.Eq.{slice_eq-Decides}
pub use Rattle.std.specs.Bool.{Decides}
pub use Rattle.std.specs.List.{range_with_len, AllZip}
pub use Rattle.std.specs.Prelude.{slice_get, min, MatchOption, ◌↔◌, Result, Err, IsErrAnd, slice_index, All}
