use Rattle.std.proofs.Common.{◌≡◌, ◌≤◌, take}
use Rattle.line_journal.proofs.Common.{LeavesOnly, journal_content, IsJournalSettled, after_all, IsAfterSome}
use Rattle.line_journal.proofs.journal.Journal.apply_all.Given as goal

-- so many changes are made, and a crash since the start leaves what the first of them made
abbrev pub invariant-loop-change : goal.invariant-loop-change
invariant-loop-change g l = let D = g.D.Device in record {
  settled : IsJournalSettled D.seen D.may_leave l.self.device l.self.gate;
  made : journal_content (D.seen l.self.device) ≡ after_all (take l.change-index l.changes) (journal_content (D.seen l.fn.self.device));
  counted : D.faults l.fn.self.device ≤ D.faults l.self.device;
  since : LeavesOnly D.moment D.left_since l.fn.self.device l.self.device (IsAfterSome l.changes (journal_content (D.seen l.fn.self.device)));
}
