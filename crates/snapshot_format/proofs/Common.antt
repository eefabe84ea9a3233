-- The names that several proofs of this crate cite, passed on from one place. Declares nothing.
pub use Rattle.dsx_messages.specs.declared.modem.Modem.{Modem}
pub use Rattle.flow_table.specs.declared.flow.Pending.{Pending}
pub use Rattle.lists.specs.Results.{◌>>=◌, Gives, Fails}
pub use Rattle.operator_model.specs.declared.share.NextShare.{NextShare}
pub use Rattle.operator_model.specs.declared.share.Share.{Share}
pub use Rattle.param_sets.proofs.WithinLemmas.{is_within, nothing_fails}
pub use Rattle.param_sets.specs.ParamSet.{IsParameterSet, IsOfKind, HasNoPolls, HasNoGrants, HasGrants}
pub use Rattle.param_sets.specs.Sets.{IsWithinProvisioned, failing_in_provisioned, failing_in_admitted, sets_unless}
pub use Rattle.param_sets.specs.Within.{first_failing, IsWithinOrNull}
pub use Rattle.param_sets.specs.declared.param_set.ParamFields.{ParamFields}
pub use Rattle.param_sets.specs.declared.sets.SetsFields.{SetsFields}
pub use Rattle.snapshot_format.specs.Reading.{Taken, place_result, stop_at, take_items, AllFollow, read_cause}
pub use Rattle.snapshot_format.specs.Records.{take_flow, flow_follows, take_operator, operator_follows, take_arrival, arrival_follows, take_entry, entry_follows}
pub use Rattle.snapshot_format.specs.Saved.{IsModem, IsPending, IsSavedFlow, IsSavedEntry, IsHeard, IsSavedArrival, IsSavedShare, IsSavedNext, IsSavedOperator, IsSet, AreSets, IsSnapshot}
pub use Rattle.snapshot_format.specs.Text.{address_field, bytes_text, flow_text, operator_text, arrival_text, entry_text}
pub use Rattle.snapshot_format.specs.declared.fault.SnapshotFault.{SnapshotFault}
pub use Rattle.snapshot_format.specs.declared.fault.Wrong.TheVariants.{Repeated, NotWithin, Cut}
pub use Rattle.snapshot_format.specs.declared.saved.SavedFlow.{SavedFlow}
pub use Rattle.snapshot_format.specs.declared.saved.SavedOperator.{SavedOperator}
pub use Rattle.snapshot_format.specs.declared.saved.Snapshot.{Snapshot}
pub use Rattle.std.proofs.lemmas.Bool.{eq-eqb, ne_eqb, lt-ltb, le-leb, and_parts, leb-true, eqb-true, le-ltb}
pub use Rattle.std.proofs.lemmas.List.{take_at, drop_at, take_rest}
pub use Rattle.std.proofs.lemmas.Result.{err_from_is_err_and}
pub use Rattle.std.specs.Char.{digit_value, is_ascii_digit, is_ascii_alphanumeric}
pub use Rattle.std.specs.Fmt.{decimal}
pub use Rattle.std.specs.List.{AllByRecursion, prefix_len, list_all, flat_map, position, list_any}
pub use Rattle.std.specs.Prelude.{IfSome, IfOk}
pub use Rattle.std.specs.Str.{bytes_eq}
pub use Rattle.std.specs.String.{string_bytes}
pub use Rattle.transactions.specs.Entry.{is_waiting, is_of}
pub use Rattle.transactions.specs.declared.entry.KeptEntry.{KeptEntry}
