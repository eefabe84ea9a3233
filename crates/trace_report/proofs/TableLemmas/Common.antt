-- The names that several proofs of this crate cite, passed on from one place. Declares nothing.
pub use Rattle.admission.proofs.FreeLemmas.{least_free_one, least_free_cases, least_free_iff}
pub use Rattle.admission.specs.Free.{IsLeastFree, least_free_of, Numbers, IsFree}
pub use Rattle.trace_report.specs.table.Answering.{GetsSid, told_sid, refusal_verdict, naming, set_type_code, IsAdded, IsAnswerToChange, IsDeleted, IsAccepted, AnswersCheck}
pub use Rattle.trace_report.specs.table.Awaited.{AreOfTwo, AreAwaited, IsAwaited}
pub use Rattle.trace_report.specs.table.Examples.{worked_operator, one_added, full_added, provisioned_row}
pub use Rattle.trace_report.specs.table.Holding.{would_commit, NamesUnknownClass, GivesNoSet, AreAdmittedAndActive, AcceptsSetType, CheckApplies, IsUsedUp, IsOverBudget}
pub use Rattle.trace_report.specs.table.Messages.{Reading, ReadsAsRequest, IsCachedEntry, IsUnread, IsRefusedFor, IsRepeatOf, HoldsOf, AnswersOf, message_table, IsHandledBy, IsNoAck}
pub use Rattle.trace_report.specs.table.Said.{Said, said_by, IsAbout, Admits, IsSetWhere, NamesFlow, IsOfFlow, Activates, EncodingAsksFor, identifier, told_identifier, identifier_subtype, IsSetType, EncodingIsRefused, IsToBeAdmitted}
pub use Rattle.trace_report.specs.table.Table.{IsDecidedBy, table}
pub use Rattle.trace_report.specs.declared.table.check.Check.{Check}
pub use Rattle.trace_report.specs.declared.table.check.Check.TheVariants.{UnknownFlow, NotOwner, FlowWaits, FlowsFull, NoSfidFree, NoSidFree, ElementsOver, MinislotsOver, Accepted, UnknownClass, NoEncoding, IdentifiersDiffer, NotTogether, NoIdentifier, WrongSetType, NoParameterSet, ActiveNotWithin, AdmittedNotWithin}
pub use Rattle.trace_report.specs.declared.table.check.MessageCheck.{MessageCheck}
pub use Rattle.trace_report.specs.declared.table.check.MessageCheck.TheVariants.{Unread, OfCmts, Repeated, KeptFull, Faulty, Judged}
pub use Rattle.dsx_messages.specs.Reading.{message_of}
pub use Rattle.dsx_messages.specs.declared.code.Code.{Code}
pub use Rattle.dsx_messages.specs.declared.code.Code.TheVariants.{RejectRequiredParameterNotPresent, Okay, RejectPermanent, RejectTemporary, RejectInvalidForContext, RejectAuthorizationFailure, RejectNotOwner, RejectFlowNotFound, RejectDuplicateReference, RejectMultipleUpstreamFlows, RejectOther, RejectUnrecognizedSetting}
pub use Rattle.dsx_messages.specs.declared.fault.MessageFault.{MessageFault}
pub use Rattle.dsx_messages.specs.declared.kind.Kind.{Kind}
pub use Rattle.dsx_messages.specs.declared.kind.Kind.TheVariants.{Dsa, Dsd, Dsc}
pub use Rattle.dsx_messages.specs.declared.message.Message.{Message}
pub use Rattle.dsx_messages.specs.declared.message.Request.{Request}
pub use Rattle.dsx_messages.specs.declared.modem.Modem.{Modem}
pub use Rattle.dsx_messages.specs.declared.reply.Detail.{Detail}
pub use Rattle.dsx_messages.specs.declared.reply.Detail.TheVariants.{Given, Errored, Nothing}
pub use Rattle.dsx_messages.specs.declared.reply.FlowId.{FlowId}
pub use Rattle.dsx_messages.specs.declared.reply.ReplyFields.{ReplyFields}
pub use Rattle.flow_table.specs.Flow.{with_pending, flow_after_ack, without_pending, taken_back, flow_after_grant, committed_of, asks_for_grants, flow_after_request}
pub use Rattle.flow_table.specs.Table.{sfids_of, sids_of, flow_at, with_flow, sid_if, committed_minislots, committed_elements, flow_with, is_sid, flowing_in}
pub use Rattle.flow_table.specs.declared.flow.Flow.{Flow}
pub use Rattle.flow_table.specs.declared.flow.Pending.{Pending}
pub use Rattle.lists.specs.First.{IsFirst}
pub use Rattle.operator_model.proofs.ChangeLemmas.{MayStep, undone-MayStep, at-change_other, at-undone_other}
pub use Rattle.operator_model.proofs.EntryLemmas.{sum-insert, sum-remove, at-find}
pub use Rattle.operator_model.proofs.FreshLemmas.{none-there, used_sfid}
pub use Rattle.operator_model.proofs.KeptLemmas.{HaveFlows, All-find, passes-find, given_up-HaveFlows, pairs-head, pairs-tail, pairs-map}
pub use Rattle.operator_model.proofs.MapLemmas.{nat_cmp_equal, is_at_other, Ascends, at, at-above, found_as, at-insert_same, at-remove_same, at-insert_other, at-remove_other}
pub use Rattle.operator_model.specs.Asked.{transaction, free_flow, is_same, stand_together, refusal}
pub use Rattle.operator_model.specs.Frame.{all_undone, all_granted, at_frame, flows_left, tick_result}
pub use Rattle.operator_model.specs.Handle.{StepResult, silent, repeat_result, new_unless, transaction_result, carried_out, is_of_cmts, message_handled, handle, without_flow, undone, flows_acked, reply_of, sfid_of, does_wait, acked_if, ack_result, kind_of, tid_of, asked_of_flow}
pub use Rattle.operator_model.specs.Sound.{IsSound, IsWaitingOf, HasItsFlow}
pub use Rattle.operator_model.specs.State.{Operator, OperatorState, operator, opened_flow, opened_state}
pub use Rattle.operator_model.specs.Verdict.{new_flow, verdict, encoding_refusal, limit_of, minislots_allowed, within_limit, changed_flow}
pub use Rattle.operator_model.specs.Worked.{first_modem, second_modem, worked_row, message_actions, addition}
pub use Rattle.operator_model.specs.declared.verdict.Addition.{Addition}
pub use Rattle.operator_model.specs.declared.verdict.AskedSets.{AskedSets}
pub use Rattle.operator_model.specs.declared.verdict.Change.{Change}
pub use Rattle.operator_model.specs.declared.verdict.Verdict.{Verdict}
pub use Rattle.operator_model.specs.declared.verdict.Verdict.TheVariants.{Refused, Put, Deleted}
pub use Rattle.param_sets.proofs.WithinLemmas.{within_self, nothing_fails, is_within}
pub use Rattle.param_sets.specs.declared.param_set.ParamFields.{ParamFields}
pub use Rattle.param_sets.specs.declared.refusal.Refusal.{Refusal}
pub use Rattle.param_sets.specs.declared.sets.SetsFields.{SetsFields}
pub use Rattle.plant.specs.Classes.{is_class_named, asked_over, asked_of}
pub use Rattle.plant.specs.Row.{same_modem, IsRowOf}
pub use Rattle.plant.specs.declared.operator_row.RowFields.{RowFields}
pub use Rattle.std.proofs.lemmas.Bool.{cond_both, leb-true, leb-false, true≢false, false≢true, and_parts, and_from, or_cases, or_left, or_right, eqb-true, eq-eqb, cases_eq, and_cases, ltb-true, ltb-false, cond-true, cond-false}
pub use Rattle.std.proofs.lemmas.List.Elements.{All-from_recursion, All-contains, All-head, All-nil, All-cons, recursion_from_All, Contains-append_right, All-tail}
pub use Rattle.std.proofs.lemmas.Option.{none-some, same_Some}
pub use Rattle.std.proofs.lemmas.Slice.Eq.{bytes_eq-Decides}
pub use Rattle.std.specs.List.{AllByRecursion, list_all, slice_index_or}
pub use Rattle.std.specs.Map.{keys_of, remove_entry}
pub use Rattle.std.specs.Ordering.{nat_cmp, is_eq}
pub use Rattle.std.specs.Prelude.{Any, MatchResult, if◌then◌else◌, Contains, find, MatchOption}
pub use Rattle.tlv24.specs.SetType.{set_type_number, known_set_types, set_type_of}
pub use Rattle.tlv24.specs.Subtype.{reference_subtype, sfid_subtype, set_type_subtype}
pub use Rattle.tlv24.specs.declared.fields.FlowFields.{FlowFields}
pub use Rattle.tlv24.specs.declared.set_type.SetType.TheVariants.{Admitted, Active, AdmittedAndActive, Null, Provisioned, ProvisionedAndAdmitted, AllSets}
pub use Rattle.transactions.specs.Entry.{same_kind, is_of, is_waiting, waits_for}
pub use Rattle.transactions.specs.Keeping.{begun_entry, held_entry, entry_after_ack}
pub use Rattle.transactions.specs.Timers.{given_up_in, is_response_due, is_resent, is_given_up, is_forgotten, given_up_of, kept_after}
pub use Rattle.transactions.specs.declared.entry.KeptEntry.{KeptEntry}
pub use Rattle.transactions.specs.declared.tick.GivenUp.{GivenUp}
