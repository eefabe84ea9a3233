use Rattle.std.proofs.Common.{rules, arith, ◌≡◌, ◌∙◌, ◌++◌, [], ◌∷◌}
use Rattle.line_journal.proofs.StoredLaws.{equals, shut_marked}
use Rattle.line_journal.proofs.snapshot.SnapshotLines.file.Goals as goal

pub returns-clause-lines : goal.returns-clause-lines
returns-clause-lines c =
    let is : c.extend_from_slice.new.self.items ≡ c.self.inside.text.items ++ 10 ∷ 45 ∷ [] = search rules in
    shut_marked 61 equals 10 (omega arith) c.self.inside.text.items c.extend_from_slice.new.self.items (45 ∷ []) c.self.invariant is ∙ c.self.view_is
