use Rattle.std.proofs.Common.{refl}
use Rattle.journal_file.proofs.CallLemmas.{refused_read, same_refused, has_cause}
use Rattle.journal_file.proofs.file.JournalFileDevice.read.Goals as goal

pub invariant_of-self : goal.invariant_of-self
invariant_of-self c = record { same = same_refused c.args.self.now.log.items c.and-self.result.items c.new.result c.args.self.now.bytes.items c.args.self.now.same c.and-self.ensures }

pub returns-then-not-self-clause-crash : goal.returns-then-not-self-clause-crash
returns-then-not-self-clause-crash c = refused_read c.args.self.now.log.items c.and-self.result.items c.new.result c.and-self.ensures

pub returns-then-not-self-clause-cause : goal.returns-then-not-self-clause-cause
returns-then-not-self-clause-cause c = has_cause c.args.self.now.log.items c.and-self.result.items _ c.and-self.ensures refl
