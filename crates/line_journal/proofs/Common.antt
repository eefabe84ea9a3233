-- The names that several proofs of this crate cite, passed on from one place. Declares nothing.
pub use Rattle.line_journal.specs.Device.{IsOverwritten, Torn, Follows, Only, Cut, Elapses, LeavesOnly}
pub use Rattle.line_journal.specs.Found.{texts, found_of}
pub use Rattle.line_journal.specs.Journal.{JournalContent, shut_text, journal_text, journal_content, IsBeforeOrAfter, snapshot_lines, IsJournalSettled, with_lines, fresh, stored_behind}
pub use Rattle.line_journal.specs.Lines.{marked_lines, records, IsLine, with_head, whole_lines, marked_first}
pub use Rattle.line_journal.specs.Run.{content_after, after_all, IsAfterSome}
pub use Rattle.line_journal.specs.declared.run.JournalChange.{JournalChange}
pub use Rattle.std.proofs.lemmas.Bool.{eqb-true, cases_eq, ne_eqb, cond-true, cond-false, eq-eqb}
pub use Rattle.std.proofs.lemmas.List.{take_at, drop_at, drop_more, take_all, drop_all, append-nil, take_more}
pub use Rattle.std.specs.List.{AllByRecursion}
pub use Rattle.std.specs.Prelude.{Some, slice_index, Option, None, IfSome, IfNone, slice_index_or}
pub use Rattle.std.specs.declared.alloc.Global.{Global}
