-- The names that several proofs of this crate cite, passed on from one place. Declares nothing.
pub use Rattle.admission.specs.Free.{IsIn, Numbers, IsFree, least_free_of, IsLeastFree, is_used}
pub use Rattle.admission.specs.declared.budget.Budget.{Budget}
pub use Rattle.dsx_messages.specs.Reading.{message_of}
pub use Rattle.dsx_messages.specs.declared.fault.MessageFault.{MessageFault}
pub use Rattle.dsx_messages.specs.declared.kind.Kind.{Kind}
pub use Rattle.dsx_messages.specs.declared.kind.Kind.TheVariants.{Dsa, Dsc, Dsd}
pub use Rattle.dsx_messages.specs.declared.message.Message.{Message}
pub use Rattle.dsx_messages.specs.declared.modem.Modem.{Modem}
pub use Rattle.dsx_messages.specs.declared.reply.ReplyFields.{ReplyFields}
pub use Rattle.flow_table.specs.Flow.{taken_back, committed_of, asks_for_grants, pending_admitted, with_pending, flow_after_ack, without_pending, flow_after_request, flow_after_grant, is_unsolicited}
pub use Rattle.flow_table.specs.Moved.{change_if, change_at}
pub use Rattle.flow_table.specs.Table.{flow_at, with_flow, sfids_of, sids_of, sid_if, committed_minislots, committed_elements, HaveOwnSids, flow_with, is_sid, flowing_of_set, flowing_in}
pub use Rattle.flow_table.specs.declared.flow.Flow.{Flow}
pub use Rattle.flow_table.specs.declared.flow.Pending.{Pending}
pub use Rattle.operator_model.specs.Asked.{refusal, transaction, free_flow, addition_of, change_of}
pub use Rattle.operator_model.specs.Frame.{resent, tick_result, all_undone, all_granted, at_frame, frame_elements, share_at, next_at, flows_left}
pub use Rattle.operator_model.specs.Frames.{frame_number, frame_numbers, is_tick}
pub use Rattle.operator_model.specs.Handle.{StepResult, without_flow, carried_out, is_of_cmts, new_unless, transaction_result, kind_of, tid_of, message_handled, handle, undone, reply_result, acked_if, asked_of_flow, flows_acked, ack_result}
pub use Rattle.operator_model.specs.Replay.{actions_of, AreTold, IsReplay}
pub use Rattle.operator_model.specs.Sound.{KeepsItsKind, AreOfTheirKinds, IsWaitingOf, HasItsFlow, HaveOwnFlows, IsSound, IsSoundFlow, IsSoundPending, IsNextShare, IsShare}
pub use Rattle.operator_model.specs.State.{Operator, operator, OperatorState, consts_from, opened_before, opened_flow, opened_state}
pub use Rattle.operator_model.specs.Verdict.{verdict, encoding_refusal, minislots_allowed}
pub use Rattle.operator_model.specs.declared.action.Action.{Action}
pub use Rattle.operator_model.specs.declared.action.Action.TheVariants.{Arrive, Work, Tick, Reslice}
pub use Rattle.operator_model.specs.declared.action.Entry.{Entry}
pub use Rattle.operator_model.specs.declared.action.SliceRow.{SliceRow}
pub use Rattle.operator_model.specs.declared.action.Unfit.TheVariants.{NotPast, Unfinished, OffFrame, BudgetOverSlice, OverBudget}
pub use Rattle.operator_model.specs.declared.heard.Arrival.{Arrival}
pub use Rattle.operator_model.specs.declared.heard.Heard.{Heard}
pub use Rattle.operator_model.specs.declared.share.NextShare.{NextShare}
pub use Rattle.operator_model.specs.declared.share.Share.{Share}
pub use Rattle.operator_model.specs.declared.verdict.Addition.{Addition}
pub use Rattle.operator_model.specs.declared.verdict.Change.{Change}
pub use Rattle.operator_model.specs.declared.verdict.Verdict.{Verdict}
pub use Rattle.operator_model.specs.declared.verdict.Verdict.TheVariants.{Refused, Put, Deleted}
pub use Rattle.param_sets.proofs.WithinLemmas.{is_within, within_self}
pub use Rattle.param_sets.specs.Need.{need_if, need_of_kind, need_of}
pub use Rattle.param_sets.specs.Reading.{parameter_set_of, invalids_of, invalid_of, set_unless, set_of_kind}
pub use Rattle.param_sets.specs.Sets.{AreNested, IsWithinProvisioned}
pub use Rattle.param_sets.specs.Units.{UnitSizes, reserve_of}
pub use Rattle.param_sets.specs.Within.{IsWithinOrNull, IsWithin}
pub use Rattle.param_sets.specs.declared.param_set.ParamFields.{ParamFields}
pub use Rattle.param_sets.specs.declared.refusal.Refusal.{Refusal}
pub use Rattle.param_sets.specs.declared.scheduling.Scheduling.{Scheduling}
pub use Rattle.param_sets.specs.declared.scheduling.Scheduling.TheVariants.{BestEffort, NonRealTimePolling, RealTimePolling, UnsolicitedGrant}
pub use Rattle.param_sets.specs.declared.sets.SetsFields.{SetsFields}
pub use Rattle.plant.specs.Classes.{asked_of}
pub use Rattle.plant.specs.Provisioned.{sets_of_flow, sets_of_encoding, OpenedFlow, opened_sfids, opened_sids, opened_sid, and_under, and_opened, all_opened, opened_flows, sets_of_type, sets_of_set, sets_over_class}
pub use Rattle.plant.specs.Row.{same_modem, need_of_sets, need_of_provision, admits, IsProvision, IsRowOf, count_of, IsRow}
pub use Rattle.plant.specs.declared.consts.ConstsFields.{ConstsFields}
pub use Rattle.plant.specs.declared.operator_row.RowFields.{RowFields}
pub use Rattle.plant.specs.declared.provision.Provision.{Provision}
pub use Rattle.slice_scheduler.specs.Schedule.{elements_of, granted_of}
pub use Rattle.slice_scheduler.specs.Servable.{IsOfItsKind, AsksWhereItMay, SfidsAscend, IsPast, total_need, elements_needed}
pub use Rattle.slice_scheduler.specs.declared.flowing.Flowing.{Flowing}
pub use Rattle.std.proofs.lemmas.Bool.{cond_both, leb-false, true≢false, cases_eq, cases_order, cond-true, cond-false, lt-leb, and_parts, not-false, false≢true, not-true, or_parts, lt-ltb, le-ltb, eq-eqb, ne_eqb, or_cases, eqb-true, true_from_ne_false, le-leb, eqb-false, ltb-false}
pub use Rattle.std.proofs.lemmas.Cmp.{nat_cmp_total, ranked, nat_eq_equiv}
pub use Rattle.std.proofs.lemmas.List.{length_push, length-map, reverse-append}
pub use Rattle.std.proofs.lemmas.List.Elements.{All-push, All-head, All-tail, All-nil, All-cons, filter_map-append, All-map, All-weaker, All-from_recursion, recursion_from_All, All-filter, filter_passes}
pub use Rattle.std.proofs.lemmas.List.Kept.{AllPairs-cons, AllPairs-filter}
pub use Rattle.std.proofs.lemmas.List.Sums.{sum_by-cons, length-filter, count_by-le-length}
pub use Rattle.std.proofs.lemmas.Map.Views.{All-values-insert_entry, All-keys-insert_entry, All-map-remove_entry, IfSome-lookup_from_All}
pub use Rattle.std.proofs.lemmas.Option.{none-some, IfSome_then, same_Some}
pub use Rattle.std.specs.BTreeMap.{insert_entry, is_at}
pub use Rattle.std.specs.List.{AllByRecursion, cons_option, range_with_len, Contains, list_all}
pub use Rattle.std.specs.Map.{remove_entry, keys_of, values_of, lookup}
pub use Rattle.std.specs.Ordering.{nat_cmp, is_eq, match_ordering}
pub use Rattle.std.specs.declared.cmp.Ordering.{Ordering}
pub use Rattle.std.specs.declared.cmp.Ordering.TheVariants.{Less, Equal, Greater}
pub use Rattle.tlv24.specs.Flow.{flow_of}
pub use Rattle.tlv24.specs.SetType.{set_type_of}
pub use Rattle.tlv24.specs.declared.fields.FlowFields.{FlowFields}
pub use Rattle.tlv24.specs.declared.set_type.SetType.{SetType}
pub use Rattle.tlv24.specs.declared.set_type.SetType.TheVariants.{Null, Provisioned, Admitted, ProvisionedAndAdmitted, Active, AdmittedAndActive, AllSets}
pub use Rattle.transactions.specs.Entry.{same_kind, is_waiting, is_of, waits_for}
pub use Rattle.transactions.specs.Keeping.{begun_entry, held_entry, entry_after_ack}
pub use Rattle.transactions.specs.Timers.{resent_in, is_response_due, is_given_up, given_up_of, given_up_in, is_resent, is_forgotten, kept_after}
pub use Rattle.transactions.specs.Waits.{Waits}
pub use Rattle.transactions.specs.declared.entry.KeptEntry.{KeptEntry}
pub use Rattle.transactions.specs.declared.tick.GivenUp.{GivenUp}
