use Rattle.std.proofs.Common.{Bool, not, ap}
use Rattle.journal_file.proofs.CallLemmas.{synced, sync_adds_none, same_synced, no_cause, has_cause}
use Rattle.journal_file.proofs.file.JournalFileDevice.sync.Goals as goal

pub invariant_of-self : goal.invariant_of-self
invariant_of-self c = record { same = same_synced c.args.self.now.log.items c.and-self.result.items c.new.result c.args.self.now.bytes.items c.args.self.now.same _ c.and-self.ensures }

pub returns-then-done-clause-durable : goal.returns-then-done-clause-durable
returns-then-done-clause-durable c = synced c.args.self.now.log.items c.and-self.result.items c.new.result _ c.args.self.now.bytes.items c.if-done.true c.args.self.now.same c.and-self.ensures

pub returns-then-done-clause-crash : goal.returns-then-done-clause-crash
returns-then-done-clause-crash c = sync_adds_none c.args.self.now.log.items c.and-self.result.items c.new.result _ c.and-self.ensures

pub returns-then-done-clause-cause : goal.returns-then-done-clause-cause
returns-then-done-clause-cause c = no_cause c.args.self.now.log.items c.and-self.result.items _ c.and-self.ensures tt

pub returns-else-done-clause-crash : goal.returns-else-done-clause-crash
returns-else-done-clause-crash c = sync_adds_none c.args.self.now.log.items c.and-self.result.items c.new.result _ c.and-self.ensures

pub returns-else-done-clause-cause : goal.returns-else-done-clause-cause
returns-else-done-clause-cause c = has_cause c.args.self.now.log.items c.and-self.result.items _ c.and-self.ensures (ap (λ (b : Bool). not b) c.if-done.false)
