use Rattle.std.proofs.Common.{rules, ◌∙◌, ap, ◌++◌, List, [], ◌∷◌, ℕ}
use Rattle.line_journal.specs.Lines.{IsLine}
use Rattle.line_journal.proofs.PushLaws.{pushed, pushed_text}
use Rattle.line_journal.proofs.StoredLaws.{plus}
use Rattle.line_journal.proofs.batch.Batch.push.Goals as goal

pub invariant_of-self-2 : goal.invariant_of-self-2
invariant_of-self-2 c =
    let ok : IsLine c.args.line.now = search rules in
    let is = c.in_ok-extend_from_slice.ensures.items ∙ ap (λ (t : List ℕ). c.self.inside.text.items ++ t) (c.deref.ensures.value ∙ c.in_ok-record.ensures) in
    pushed_text 43 plus c.self.inside.text.items c.args.line.now _ c.self.invariant ok is

pub returns-clause-ok : goal.returns-clause-ok
returns-clause-ok c =
    let ok : IsLine c.args.line.now = search rules in
    let is = c.in_ok-extend_from_slice.ensures.items ∙ ap (λ (t : List ℕ). c.self.inside.text.items ++ t) (c.deref.ensures.value ∙ c.in_ok-record.ensures) in
    pushed 43 plus c.self.inside.text.items c.args.line.now _ c.self.invariant ok is ∙ ap (λ (ls : List (List ℕ)). ls ++ c.args.line.now ∷ []) c.self.view_is
