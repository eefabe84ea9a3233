-- The names that several proofs of this crate cite, passed on from one place. Declares nothing.
pub use Rattle.admission.specs.Free.{Numbers}
pub use Rattle.map_assembly.specs.Element.{word_of, element_of, FitsElement, spelled_element, spelled_elements, elements_in, is_null}
pub use Rattle.map_assembly.specs.Gathering.{Gathering, slices_or, slices_at, IsGathering, queue_of, with_part, is_whole, fronts, front_or, part_at, gathering_at, IsPartAt, AreQueued, HasPutNoneFrom, MayReslice, gathering_after_reslice, frame_slices, next_of, fits_at, is_part, put_fault, is_last, frame_parts, after_put, frame_out, AreAllQueued}
pub use Rattle.map_assembly.specs.Judging.{count_before_null, judged_behind, spans_in, pending_in, next_offset, span_to, behind_null}
pub use Rattle.map_assembly.specs.Map.{in_slice_order, idle_span, head_span, map_span, spans_with_idle, map_spans, map_pending, map_header, frame_start, map_of, pending_element, elements_of_map, map_elements_of}
pub use Rattle.map_assembly.specs.Part.{is_within, is_mine, ArePartsOf, quota_of, IsPartOf, is_slice, is_fitting}
pub use Rattle.map_assembly.specs.Plan.{AreSlices, IsQuota, AreQuotas, IsInFrame}
pub use Rattle.map_assembly.specs.Reading.{header_in, IsCounted, is_pending, AreAscending, least_behind, GoesBackward, IsNoGrant, FollowsNull, ElementsFault, element_of_span, null_at, ElementsSay, MapReads, elements_behind, IsFirstMapFault, MapIsRead, first_offset, AreJoined}
pub use Rattle.map_assembly.specs.Sorted.{insert_by_key, sorted_by, numbers_from, sorted_order}
pub use Rattle.map_assembly.specs.Tiled.{touches, IsOwn, GivesNoMinislotTwice, part_of, own_part, LiesIn, MapPart, holds}
pub use Rattle.map_assembly.specs.Writing.{spelled_header, spelled_map}
pub use Rattle.map_assembly.specs.declared.element.MapElement.{MapElement}
pub use Rattle.map_assembly.specs.declared.quota.Quota.{Quota}
pub use Rattle.map_assembly.specs.declared.slicing.Reslicing.{Reslicing}
pub use Rattle.map_assembly.specs.declared.view.MapFault.{MapFault}
pub use Rattle.map_assembly.specs.declared.view.MapFault.TheVariants.{Short, Count, Backward, NoNull, AfterNull, NoMemory}
pub use Rattle.map_assembly.specs.declared.view.MapHeader.{MapHeader}
pub use Rattle.map_assembly.specs.declared.view.MapSpan.{MapSpan}
pub use Rattle.plant.specs.Consts.{IsChannel}
pub use Rattle.plant.specs.Plant.{ranges_overlap, IsPlant}
pub use Rattle.plant.specs.declared.consts.Channel.{Channel}
pub use Rattle.plant.specs.declared.operator_row.RowFields.{RowFields}
pub use Rattle.slice_scheduler.specs.Minislots.{Minislots, slices_overlap}
pub use Rattle.slice_scheduler.specs.Tiles.{IsTiled, Tiles}
pub use Rattle.slice_scheduler.specs.declared.elements.ElementsFields.{ElementsFields}
pub use Rattle.slice_scheduler.specs.declared.span.Span.{Span}
pub use Rattle.std.proofs.lemmas.Bool.{and_parts, and_from, not-true, not_from_false, ltb-true, ltb-false, le-ltb, lt-ltb, leb-true, le-leb, both_ways, eq-eqb, ne_eqb, cases_eq, cases_Bool, cases_lt, or_cases, eqb-true, and_right, lt-leb, cond_both, and_cases, leb-false, and_left, false_from_ne_true}
pub use Rattle.std.proofs.lemmas.List.{reverse-append, set_split, take_rest, length-map, length-replicate, length-set, take_at, set-get_or, get_or_default}
pub use Rattle.std.proofs.lemmas.List.Elements.{All-head, All-tail, recursion_from_All, All-from_recursion, All-push, filter-append}
pub use Rattle.std.proofs.lemmas.List.Sums.{sum_by-cons, prefix_len-le-length}
pub use Rattle.std.proofs.lemmas.Nat.{from_be_bytes-to_be_bytes_4, mod_below}
pub use Rattle.std.proofs.lemmas.Option.{same_Some, slice_get-get_or, slice_get-map}
pub use Rattle.std.specs.List.{AllByRecursion, AllPairs, list_all, All, slice_get, find, slice_set, slice_index, sum_by, count_by, flat_map, filter, insert, position, position_or_len}
pub use Rattle.std.specs.Prelude.{slice_index_or, replicate}
