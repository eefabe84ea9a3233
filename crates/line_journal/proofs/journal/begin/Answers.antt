use Rattle.std.proofs.Common.{rules, ◌≡◌, ◌∙◌, sym, subst, List, ℕ, length}
use Rattle.line_journal.specs.Device.{Only}
use Rattle.line_journal.proofs.Stages.{settled_fresh}
use Rattle.line_journal.proofs.journal.begin.Goals as goal

pub returns-clause-begun : goal.returns-clause-begun
returns-clause-begun g c =
    let D = g.D.Device in
    let replaced = c.in_ok-replace.ensures.replaced in
    let durable = subst (λ (f : List ℕ). Only f (D.may_leave c.replace.new.self)) (sym replaced) c.in_ok-replace.ensures.durable in
    let long : c.len.result ≡ length c.in_ok-text.text.items = search rules in
    settled_fresh D.seen D.may_leave c.replace.new.self c.len.result c.in_ok-text.text.items c.args.snapshot.now c.in_ok-text.ensures.text c.in_ok-text.ensures.lines (replaced ∙ c.deref.ensures.value) long durable
