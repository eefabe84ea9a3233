use Rattle.std.proofs.Common.{◌≡◌, refl, rules, inr}
use Rattle.journal_file.proofs.Noted.{time}
use Rattle.journal_file.proofs.CallLemmas.{replaced, not_replaced, same_kept, same_new, no_cause, has_cause}
use Rattle.journal_file.proofs.file.JournalFileDevice.replace.Goals as goal

-- the file was not replaced
pub invariant_of-self : goal.invariant_of-self
invariant_of-self c = record { same = same_kept c.args.self.now.log.items c.and-self.result.items c.in_ok-next.next c.args.self.now.bytes.items c.args.self.now.same c.and-self.ensures }

pub returns-in_default-clause-crash : goal.returns-in_default-clause-crash
returns-in_default-clause-crash c =
    let given : c.in_ok-next.next.items ≡ c.args.bytes.now = search rules in
    not_replaced c.args.self.now.log.items c.and-self.result.items c.in_ok-next.next c.and-self.ensures c.args.bytes.now given

pub returns-in_default-clause-time : goal.returns-in_default-clause-time
returns-in_default-clause-time c = time c.args.self.now.log.items c.and-self.result.items _ c.and-self.ensures

pub returns-in_default-clause-cause : goal.returns-in_default-clause-cause
returns-in_default-clause-cause c = has_cause c.args.self.now.log.items c.and-self.result.items _ c.and-self.ensures refl

-- and then it was
pub invariant_of-self-2 : goal.invariant_of-self-2
invariant_of-self-2 c = record { same = same_new c.args.self.now.log.items c.and-self-2.result.items c.in_ok-next.next c.and-self-2.ensures }

pub returns-clause-durable : goal.returns-clause-durable
returns-clause-durable c =
    let given : c.in_ok-next.next.items ≡ c.args.bytes.now = search rules in
    replaced c.args.self.now.log.items c.and-self-2.result.items c.in_ok-next.next c.and-self-2.ensures c.args.bytes.now given

pub returns-clause-crash : goal.returns-clause-crash
returns-clause-crash c c' left =
    let given : c.in_ok-next.next.items ≡ c.args.bytes.now = search rules in
    inr (replaced c.args.self.now.log.items c.and-self-2.result.items c.in_ok-next.next c.and-self-2.ensures c.args.bytes.now given c' left)

pub returns-clause-cause : goal.returns-clause-cause
returns-clause-cause c = no_cause c.args.self.now.log.items c.and-self-2.result.items _ c.and-self-2.ensures tt
