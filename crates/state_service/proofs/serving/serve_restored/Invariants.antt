use Rattle.std.proofs.Common.{◌≤◌}
use Rattle.state_service.proofs.Common.{LeavesOnly, journal_content, IsJournalSettled, IsServedUpTo, IsLeftUnder}
use Rattle.state_service.proofs.serving.serve_restored.Given as goal

abbrev pub invariant-loop : goal.invariant-loop
invariant-loop g l = record {
  settled : IsJournalSettled g.D.Device.seen g.D.Device.may_leave l.journal.device l.journal.gate;
  on : IsServedUpTo (journal_content (g.D.Device.seen l.fn.journal.device)) (journal_content (g.D.Device.seen l.journal.device)) l.fn.given.file.items l.served.file l.served.count l.served.end l.part.items
      (g.B.Read.remaining l.fn.reader) (g.B.Read.remaining l.reader) (g.W.Write.contents l.fn.writer) (g.W.Write.contents l.writer);
  any_moment : LeavesOnly g.D.Device.moment g.D.Device.left_since l.fn.journal.device l.journal.device
      (λ c. IsLeftUnder (journal_content (g.D.Device.seen l.fn.journal.device)) l.fn.given.file.items (g.B.Read.remaining l.fn.reader) (journal_content c));
  counted : g.D.Device.faults l.fn.journal.device ≤ g.D.Device.faults l.journal.device;
}
