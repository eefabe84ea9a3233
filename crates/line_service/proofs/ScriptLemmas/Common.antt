-- The names that several proofs of this crate cite, passed on from one place. Declares nothing.
pub use Rattle.hex.proofs.HexLemmas.{decode_sized-ok, decode_of-ok, decode_sized-twice}
pub use Rattle.hex.proofs.Pairs.{prepend, decode_done, decode_err, decode_sized-pairs, decode_step}
pub use Rattle.hex.specs.Hex.{decode_sized, decode_of, is_hex_digit, decode_pairs, digit_or_error, hex_digit_value, pair_value, value_at, upper_digits, encode_upper}
pub use Rattle.hex.specs.declared.error.FromHexError.{FromHexError}
pub use Rattle.lists.specs.Results.{◌>>=◌, Fails}
pub use Rattle.memchr.specs.Find.{Nowhere, NoneBefore, Passes, is_byte}
pub use Rattle.operator_model.specs.declared.action.SliceRow.{SliceRow}
pub use Rattle.plant.specs.declared.plant.PlantFields.{PlantFields}
pub use Rattle.line_service.specs.script.Fields.{FieldResult, required_field, short_in, message_bytes, bytes_in, field_cause, behind, number_after, decimal_in, of_digits}
pub use Rattle.line_service.specs.script.Lines.{parts_of, line_fields}
pub use Rattle.line_service.specs.script.Messages.{message_in, messages_after}
pub use Rattle.line_service.specs.script.Script.{steps_after, tick_steps, all_ticks, shares_after, line_steps}
pub use Rattle.line_service.specs.script.Senders.{sender_first, address_error, one_error, two_error, three_error, alone_error}
pub use Rattle.line_service.specs.script.Text.{after_space, span_text, pending_text, actions_text, address, outs_text}
pub use Rattle.line_service.specs.declared.script.fields.FieldError.{FieldError}
pub use Rattle.line_service.specs.declared.script.fields.FieldError.TheVariants.{FieldCount, Address, Hexadecimal, UnknownCommand, Number}
pub use Rattle.line_service.specs.declared.script.fields.FieldFault.{FieldFault}
pub use Rattle.line_service.specs.declared.script.fields.FieldFault.TheVariants.{Invalid, NoMemory}
pub use Rattle.line_service.specs.declared.script.script.LineStep.{LineStep}
pub use Rattle.slice_scheduler.specs.declared.span.Span.{Span}
pub use Rattle.std.proofs.KnownBytes.{Appends-trans, Appends-nil}
pub use Rattle.std.proofs.lemmas.Bool.{false_from_ne_true, cases_lt, and_parts, eqb-true}
pub use Rattle.std.proofs.lemmas.List.{take_all, drop-drop, take-take, drop-take, drop_all, get_or-take, length-take, drop-set, drop_more}
pub use Rattle.std.proofs.lemmas.Slice.Eq.{bytes_eq-Decides}
pub use Rattle.std.specs.Borrow.{Bor}
pub use Rattle.std.specs.Char.{is_ascii_digit}
pub use Rattle.std.specs.Io.KnownBytes.{Appends}
pub use Rattle.std.specs.List.{flat_map, AllPass, drop-map}
pub use Rattle.std.specs.Prelude.{slice_range, slice_index}
pub use Rattle.std.specs.Str.{IsUtf8, is_utf8, IsCharBoundary, bytes_eq}
