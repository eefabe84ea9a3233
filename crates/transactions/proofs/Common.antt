-- The names that several proofs of this crate cite, passed on from one place. Declares nothing.
pub use Rattle.dsx_messages.specs.declared.kind.Kind.{Kind}
pub use Rattle.dsx_messages.specs.declared.modem.Modem.{Modem}
pub use Rattle.std.proofs.lemmas.Bool.{cases_Bool, and_parts, eqb-true, true≢false, cond-true, cond-false, and_left, and_from, ne_eqb, eq-eqb, lt-ltb, ltb-false, cases_eq, cases_lt, cond_both, not-true, not_from_false, or_parts, both_ways}
pub use Rattle.std.proofs.lemmas.List.{length-set, length_push, append-nil, map-append, length-map}
pub use Rattle.std.proofs.lemmas.List.Elements.{All-push, All-set, All-filter, filter_passes, filter_more, All-map}
pub use Rattle.std.proofs.lemmas.List.Quantifiers.{position-Some}
pub use Rattle.std.proofs.lemmas.List.Sums.{sum_by_push, sum_by-set, sum_by-cons, sum_by_more_le, position_or_len_is, length-filter, count_by-le-length}
pub use Rattle.std.specs.List.{find, position, position_or_len}
pub use Rattle.transactions.specs.Entry.{is_of, waits_for, is_waiting}
pub use Rattle.transactions.specs.Keeping.{begun_entry, held_entry, entry_after_ack, OneEach, HasTicks, IsHeldUnsent, IsKept, Keeping}
pub use Rattle.transactions.specs.Timers.{is_response_due, is_resent, is_given_up, is_forgotten, entry_after_tick, kept_after, resend_of}
pub use Rattle.transactions.specs.Waits.{Waits, IsLasting}
pub use Rattle.transactions.specs.declared.entry.KeptEntry.{KeptEntry}
