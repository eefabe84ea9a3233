-- The names that several proofs of this crate cite, passed on from one place. Declares nothing.
pub use Rattle.admission.specs.Free.{IsIn, least_free_of}
pub use Rattle.dsx_messages.specs.declared.kind.Kind.{Kind}
pub use Rattle.dsx_messages.specs.declared.kind.Kind.TheVariants.{Dsa, Dsc, Dsd}
pub use Rattle.dsx_messages.specs.declared.modem.Modem.{Modem}
pub use Rattle.flow_table.specs.Flow.{asks_for_grants, with_pending, flow_after_ack, without_pending, taken_back, flow_after_request, flow_after_grant, committed_of}
pub use Rattle.flow_table.specs.Moved.{change_if, change_at}
pub use Rattle.flow_table.specs.Table.{flow_with, with_flow, flowing_of_set, flowing_in, flow_at, sid_if, sids_of, committed_minislots, committed_elements, HaveOwnSids, is_sid, sfids_of}
pub use Rattle.flow_table.specs.declared.flow.Flow.{Flow}
pub use Rattle.flow_table.specs.declared.flow.Pending.{Pending}
pub use Rattle.frame_numbers.specs.Numbering.{start_distance, since_distance, flow_renumbered, saved_flow_renumbered, next_renumbered, operator_renumbered, flow_fits, flows_fit, next_fits, renumber_refusal, IsRenumberedUnder, IsRenumberedSnapshot}
pub use Rattle.frame_numbers.specs.Renumbered.{IsRenumbered, number_moved, action_moved, output_moved, IsSameRun}
pub use Rattle.frame_numbers.specs.Seen.{interval_if, place_in, flow_seen, entry_seen, state_as_seen, next_seen}
pub use Rattle.operator_model.specs.Frame.{all_undone, resent, at_frame, all_granted, share_at, next_at, flows_left, frame_elements, frame_grants, tick_result}
pub use Rattle.operator_model.specs.Handle.{StepResult, silent, reply_output, reply_result, carried_out, is_of_cmts, new_unless, transaction_result, acked_if, tid_of, kind_of, message_handled, asked_of_flow, bandwidth_request_result, handle, without_flow, undone, flows_acked}
pub use Rattle.operator_model.specs.Sound.{IsSound, IsSoundPending, IsSoundFlow, IsWaitingOf, HasItsFlow, IsNextShare}
pub use Rattle.operator_model.specs.State.{OperatorState, Operator, operator}
pub use Rattle.operator_model.specs.Verdict.{new_flow, verdict, encoding_refusal}
pub use Rattle.operator_model.specs.declared.heard.Heard.{Heard}
pub use Rattle.operator_model.specs.declared.output.Output.{Output}
pub use Rattle.operator_model.specs.declared.share.NextShare.{NextShare}
pub use Rattle.operator_model.specs.declared.verdict.Verdict.{Verdict}
pub use Rattle.operator_model.specs.declared.verdict.Verdict.TheVariants.{Refused, Put, Deleted}
pub use Rattle.param_sets.specs.Units.{UnitSizes, reserve_of}
pub use Rattle.plant.specs.Row.{same_modem}
pub use Rattle.plant.specs.declared.consts.ConstsFields.{ConstsFields}
pub use Rattle.plant.specs.declared.operator_row.RowFields.{RowFields}
pub use Rattle.slice_scheduler.specs.Schedule.{by_rank, award_pieces, idle, spans_from, minislots_in, elements_of, granted_of}
pub use Rattle.std.proofs.lemmas.Bool.{eqb-false, leb-true, and_parts, leb-false, le-leb, lt-leb, ne_eqb, eqb-true, eq-eqb}
pub use Rattle.std.proofs.lemmas.List.{length-map, map-append}
pub use Rattle.std.proofs.lemmas.List.Elements.{All-from_recursion, recursion_from_All, All-weaker}
pub use Rattle.std.proofs.lemmas.List.Sums.{sum_by-cons}
pub use Rattle.std.proofs.lemmas.Map.Made.{lookup-map_values}
pub use Rattle.std.proofs.lemmas.Simd.{map-map}
pub use Rattle.std.specs.BTreeMap.{insert_entry, is_at}
pub use Rattle.std.specs.List.{cons_option, flat_map, list_all, AllZip, AllByRecursion}
pub use Rattle.std.specs.Map.{remove_entry, keys_of, values_of}
pub use Rattle.std.specs.Ordering.{nat_cmp, match_ordering}
pub use Rattle.transactions.specs.declared.entry.KeptEntry.{KeptEntry}
pub use native.Mathlib.Nat.{mod-add-mod, mod-mod}
