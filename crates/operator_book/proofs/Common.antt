-- The names that several proofs of this crate cite, passed on from one place. Declares nothing.
pub use Rattle.admission.specs.Free.{least_free_of, Numbers, IsLeastFree, IsIn}
pub use Rattle.dsx_messages.specs.Reading.{message_of}
pub use Rattle.dsx_messages.specs.Spelling.{spell_reply}
pub use Rattle.dsx_messages.specs.declared.code.Code.TheVariants.{RejectAuthorizationFailure, Okay, RejectRequiredParameterNotPresent, RejectInvalidForContext}
pub use Rattle.dsx_messages.specs.declared.fault.MessageFault.{MessageFault}
pub use Rattle.dsx_messages.specs.declared.kind.Kind.{Kind}
pub use Rattle.dsx_messages.specs.declared.kind.Kind.TheVariants.{Dsa, Dsc, Dsd}
pub use Rattle.dsx_messages.specs.declared.message.Message.{Message}
pub use Rattle.dsx_messages.specs.declared.modem.Modem.{Modem}
pub use Rattle.flow_table.proofs.IndexLemmas.{sid_used, cases_sid, none_of}
pub use Rattle.flow_table.specs.Flow.{asks_for_grants, flow_after_request}
pub use Rattle.flow_table.specs.Table.{flow_with, with_flow, sfids_of, sids_of, FlowTable, HasRoomFor, is_sid, flow_at, sid_if, committed_minislots, committed_elements, HaveOwnSids, flowing_in}
pub use Rattle.flow_table.specs.declared.flow.Flow.{Flow}
pub use Rattle.flow_table.specs.declared.flow.Pending.{Pending}
pub use Rattle.operator_book.specs.Kept.{HeldBook}
pub use Rattle.operator_book.specs.Resuming.{fault_where, first_fault_in, is_not_after, order_fault, sid_twice_fault, all_put_back, is_off_time, entry_fault, modem_fault, is_out_of, sid_fault, lacks_sid, has_stray_backlog, same_params, same_set, pending_fault, standing_fault, flow_fault, HasTypedSets, IsTypedFlow, is_unset, does_await, response_fault, awaits_flow, pairs_fault, share_fault, next_fault, counts_fault, committed_fault, parts_fault, table_fault, IsStateUnder, sids_fault, entries_fault, state_fault}
pub use Rattle.operator_book.specs.RowFaults.{row_faults_of_flow, row_faults_of_message, row_faults_of_response}
pub use Rattle.operator_book.specs.declared.state_fault.StateFault.{StateFault}
pub use Rattle.operator_model.specs.Asked.{refusal}
pub use Rattle.operator_model.specs.Frame.{at_frame, flows_left, all_granted}
pub use Rattle.operator_model.specs.Handle.{StepResult, reply_result, silent, carried_out, is_of_cmts, new_unless, transaction_result, acked_if, kind_of, tid_of, message_handled, asked_of_flow, handle}
pub use Rattle.operator_model.specs.Machine.{taken_out, work_result, IsAllowed}
pub use Rattle.operator_model.specs.Replay.{actions_of, AreTold, IsReplay, BookView, operator_of_book}
pub use Rattle.operator_model.specs.Sound.{IsSoundFlow, IsSoundPending, IsWaitingOf, HasItsFlow, HaveOwnFlows, IsShare, IsNextShare, IsSound}
pub use Rattle.operator_model.specs.State.{Operator, opened_flow, consts_from, opened_before, OperatorState, opened_state, operator}
pub use Rattle.operator_model.specs.Verdict.{verdict, encoding_refusal, changed_flow}
pub use Rattle.operator_model.specs.declared.action.Action.{Action}
pub use Rattle.operator_model.specs.declared.heard.Arrival.{Arrival}
pub use Rattle.operator_model.specs.declared.heard.Heard.{Heard}
pub use Rattle.operator_model.specs.declared.share.NextShare.{NextShare}
pub use Rattle.operator_model.specs.declared.share.Share.{Share}
pub use Rattle.operator_model.specs.declared.verdict.Verdict.{Verdict}
pub use Rattle.operator_model.specs.declared.verdict.Verdict.TheVariants.{Refused}
pub use Rattle.param_sets.specs.Scheduling.{scheduling_of, scheduling_number}
pub use Rattle.param_sets.specs.declared.param_set.ParamFields.{ParamFields}
pub use Rattle.param_sets.specs.declared.refusal.Refusal.{Refusal}
pub use Rattle.param_sets.specs.declared.scheduling.Scheduling.{Scheduling}
pub use Rattle.param_sets.specs.declared.sets.SetsFields.{SetsFields}
pub use Rattle.plant.specs.Row.{same_modem, is_listed}
pub use Rattle.plant.specs.declared.consts.ConstsFields.{ConstsFields}
pub use Rattle.plant.specs.declared.operator_row.RowFields.{RowFields}
pub use Rattle.std.proofs.lemmas.Bool.{ltb-false, leb-false, eqb-false, lt-ltb, le-ltb, eq-eqb, ne_eqb, or_parts, true≢false, cases_Bool, eqb-true, and_parts, not-false, not-true, and_from, lt-leb, or_from, not_from_true, false_from_ne_true}
pub use Rattle.std.proofs.lemmas.Cmp.{nat_cmp_total, ranked}
pub use Rattle.std.proofs.lemmas.List.{length-map, map-append, append-nil, append_assoc, at_drop_more, take_all}
pub use Rattle.std.proofs.lemmas.List.Elements.{All-nil, All-cons, All-contains, All-map, All-head, All-tail, All-weaker, Contains-append_right, All-more, at_read, All-same}
pub use Rattle.std.proofs.lemmas.List.Sums.{sum_by-cons, sum_by-append}
pub use Rattle.std.proofs.lemmas.Map.Made.{Contains-tail}
pub use Rattle.std.proofs.lemmas.Option.{same_Some, none-some, slice_get_read}
pub use Rattle.std.specs.BTreeMap.{insert_entry, is_at}
pub use Rattle.std.specs.List.{cons_option, Contains, AllByRecursion, list_any, flat_map}
pub use Rattle.std.specs.Map.{keys_of, lookup, values_of}
pub use Rattle.std.specs.Option.{option_map, option_or}
pub use Rattle.std.specs.Ordering.{nat_cmp, match_ordering, MatchOrdering}
pub use Rattle.std.specs.Prelude.{not, find, nat_le, if◌then◌else◌, length, slice_get, drop, Some, None, Result, Ok, Err, is_some, ◌≢◌, IfSome, All, unwrap_or, sum_by, ◌⊎◌, true, false}
pub use Rattle.std.specs.declared.cmp.Ordering.{Ordering}
pub use Rattle.std.specs.declared.cmp.Ordering.TheVariants.{Less, Equal, Greater}
pub use Rattle.tlv24.specs.declared.fields.FlowFields.{FlowFields}
pub use Rattle.transactions.specs.Entry.{same_kind, is_of, waits_for, is_waiting}
pub use Rattle.transactions.specs.Keeping.{HasTicks, IsHeldUnsent, OneEach}
pub use Rattle.transactions.specs.declared.entry.KeptEntry.{KeptEntry}
