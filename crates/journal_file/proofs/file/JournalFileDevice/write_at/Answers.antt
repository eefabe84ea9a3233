use Rattle.std.proofs.Common.{◌≡◌, Bool, not, ap, rules}
use Rattle.journal_file.proofs.Noted.{time}
use Rattle.journal_file.proofs.CallLemmas.{torn, same_written, no_cause, has_cause}
use Rattle.journal_file.proofs.file.JournalFileDevice.write_at.Goals as goal

pub invariant_of-self-2 : goal.invariant_of-self-2
invariant_of-self-2 c =
    let given : c.in_ok-given.given.items ≡ c.args.bytes.now = search rules in
    record { same = same_written c.args.self.now.log.items c.and-self.result.items c.in_ok-given.given c.args.self.now.bytes.items c.args.self.now.same c.args.at _ c.args.bytes.now c.overwrite.new.mirror.items given c.in_ok-overwrite.ensures.ok c.and-self.ensures }

pub returns-then-done-clause-crash : goal.returns-then-done-clause-crash
returns-then-done-clause-crash c =
    let given : c.in_ok-given.given.items ≡ c.args.bytes.now = search rules in
    torn c.args.self.now.log.items c.and-self.result.items c.in_ok-given.given c.args.at _ c.args.bytes.now c.and-self.ensures given

pub returns-then-done-clause-time : goal.returns-then-done-clause-time
returns-then-done-clause-time c = time c.args.self.now.log.items c.and-self.result.items _ c.and-self.ensures

pub returns-then-done-clause-cause : goal.returns-then-done-clause-cause
returns-then-done-clause-cause c = no_cause c.args.self.now.log.items c.and-self.result.items _ c.and-self.ensures tt

pub returns-clause-crash : goal.returns-clause-crash
returns-clause-crash c =
    let given : c.in_ok-given.given.items ≡ c.args.bytes.now = search rules in
    torn c.args.self.now.log.items c.and-self.result.items c.in_ok-given.given c.args.at _ c.args.bytes.now c.and-self.ensures given

pub returns-clause-time : goal.returns-clause-time
returns-clause-time c = time c.args.self.now.log.items c.and-self.result.items _ c.and-self.ensures

pub returns-clause-cause : goal.returns-clause-cause
returns-clause-cause c = has_cause c.args.self.now.log.items c.and-self.result.items _ c.and-self.ensures (ap (λ (b : Bool). not b) c.if-done.false)
