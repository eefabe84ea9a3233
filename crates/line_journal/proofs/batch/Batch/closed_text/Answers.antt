use Rattle.std.proofs.Common.{rules, arith, ◌≡◌, ◌∙◌, ◌++◌, [], ◌∷◌}
use Rattle.line_journal.proofs.StoredLaws.{plus, shut_marked}
use Rattle.line_journal.proofs.batch.Batch.closed_text.Goals as goal

pub returns-clause-lines : goal.returns-clause-lines
returns-clause-lines c =
    let is : c.push.new.self.items ≡ c.self.inside.text.items ++ 45 ∷ [] = search rules in
    shut_marked 43 plus 45 (omega arith) c.self.inside.text.items c.push.new.self.items [] c.self.invariant is ∙ c.self.view_is
