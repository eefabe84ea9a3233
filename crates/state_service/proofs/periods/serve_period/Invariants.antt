use Rattle.std.proofs.Common.{◌≡◌, ℕ, ◌≤◌, Option, List}
use Rattle.plant_core.specs.live.After.{IsReachableFromStart}
use Rattle.state_service.proofs.Common.{live_view, CoreView, WhereKnown, LeavesOnly, journal_content, IsJournalSettled, Open, IsServing, LeadsHere, ServiceOrigin, IsJournalOf, IsLeftFrom}
use Rattle.state_service.proofs.periods.serve_period.Given as goal

abbrev pub invariant-loop : goal.invariant-loop
invariant-loop g l = record {
  settled : IsJournalSettled g.D.Device.seen g.D.Device.may_leave l.journal.device l.journal.gate;
  reached : IsReachableFromStart (live_view l.service.core);
  count : l.fn.service.count ≤ l.service.count;
  same_file : l.service.file ≡ l.fn.service.file;
  leads : LeadsHere (journal_content (g.D.Device.seen l.fn.journal.device)) (live_view l.fn.service.core) l.fn.service.count
      → LeadsHere (journal_content (g.D.Device.seen l.journal.device)) (live_view l.service.core) l.service.count;
  on : (file : List ℕ) (first : CoreView) (count : ℕ) (known written : Option (List ℕ))
      → l.fn.service.file ≡ file → WhereKnown known (g.B.Read.remaining l.fn.reader) (λ input rest. IsServing file first count input rest l.fn.part.items (live_view l.fn.service.core) l.fn.service.count written (g.W.Write.contents l.fn.writer))
      → WhereKnown known (g.B.Read.remaining l.reader) (λ input rest. IsServing file first count input rest l.part.items (live_view l.service.core) l.service.count written (g.W.Write.contents l.writer));
  holds : (origin : ServiceOrigin) → IsJournalOf origin Open (journal_content (g.D.Device.seen l.fn.journal.device)) (g.B.Read.remaining l.fn.reader) l.fn.part.items
      → IsJournalOf origin Open (journal_content (g.D.Device.seen l.journal.device)) (g.B.Read.remaining l.reader) l.part.items;
  any_moment : (origin : ServiceOrigin) → IsJournalOf origin Open (journal_content (g.D.Device.seen l.fn.journal.device)) (g.B.Read.remaining l.fn.reader) l.fn.part.items
      → LeavesOnly g.D.Device.moment g.D.Device.left_since l.fn.journal.device l.journal.device (λ c. IsLeftFrom origin (journal_content c));
  counted : g.D.Device.faults l.fn.journal.device ≤ g.D.Device.faults l.journal.device;
}
