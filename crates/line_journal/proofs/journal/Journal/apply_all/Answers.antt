use Rattle.std.proofs.Common.{rules, arith, ◌≡◌, ◌<◌, ◌∙◌, ap, sym, length}
use Rattle.line_journal.proofs.Common.{slice_index_or, Option, JournalContent, IsBeforeOrAfter, content_after, IsAfterSome, JournalChange}
use Rattle.line_journal.proofs.RunLaws.{one_more, some_made, joined}
use Rattle.line_journal.proofs.journal.Journal.apply_all.Goals as goal

pub returns-in_err-apply-clause-any_moment : goal.returns-in_err-apply-clause-any_moment
returns-in_err-apply-clause-any_moment g c =
    let D = g.D.Device in
    let change : JournalChange = c.change-item.result in
    let inside : c.loop-change.change-index < length c.args.changes.now = search rules in
    let is : slice_index_or c.args.changes.now c.loop-change.change-index change ≡ change = search rules in
    joined D.moment D.left_since _ c.loop-change.self.device c.apply.new.self.device (IsAfterSome c.args.changes.now _) (IsBeforeOrAfter _ (content_after change _))
    c.loop-change.invariant.since c.apply.ensures.any_moment (some_made c.args.changes.now c.loop-change.change-index change _ _ inside is c.loop-change.invariant.made)

pub loop-change-preserved : goal.loop-change-preserved
loop-change-preserved g c =
    let D = g.D.Device in
    let change : JournalChange = c.change-item.result in
    let inside : c.loop-change.change-index < length c.args.changes.now = search rules in
    let is : slice_index_or c.args.changes.now c.loop-change.change-index change ≡ change = search rules in
    record {
      settled = c.in_ok-apply.ensures.acknowledged.0;
      made = c.in_ok-apply.ensures.acknowledged.1 ∙ ap (λ (o : Option JournalContent). content_after change o) c.loop-change.invariant.made
          ∙ sym (one_more c.args.changes.now c.loop-change.change-index change _ inside is);
      counted = omega (arith, c.loop-change.invariant.counted, c.apply.ensures.counted);
      since = joined D.moment D.left_since _ c.loop-change.self.device c.apply.new.self.device (IsAfterSome c.args.changes.now _) (IsBeforeOrAfter _ (content_after change _))
          c.loop-change.invariant.since c.apply.ensures.any_moment (some_made c.args.changes.now c.loop-change.change-index change _ _ inside is c.loop-change.invariant.made);
    }
