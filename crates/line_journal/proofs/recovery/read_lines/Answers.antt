use Rattle.std.proofs.Common.{rules, ◌≡◌, ◌∙◌, ap, sym, arith, ◌++◌, List, [], ◌∷◌, ℕ, length, append_assoc}
use Rattle.line_journal.proofs.Common.{texts, marked_lines, records}
use Rattle.line_journal.proofs.ReadLaws.{texts_push, records_push}
use Rattle.line_journal.proofs.recovery.read_lines.Goals as goal

pub loop-line-preserved : goal.loop-line-preserved
loop-line-preserved c =
    let line : c.in_ok-to_vec.field-0.items ≡ c.in-Some.line.now = search rules in
    let is = texts_push c.loop-line.lines.items c.in_ok-to_vec.field-0 c.push.new.self.items c.in_ok-push.ensures.items ∙ ap (λ (l : List ℕ). texts c.loop-line.lines.items ++ l ∷ []) line in
    record {
      read =
          ap (λ (ls : List (List ℕ)). ls ++ marked_lines c.args.mark c.in-Some.after.now) is
          ∙ append_assoc (texts c.loop-line.lines.items) (c.in-Some.line.now ∷ []) (marked_lines c.args.mark c.in-Some.after.now)
          ∙ ap (λ (ls : List (List ℕ)). texts c.loop-line.lines.items ++ ls) (sym c.in-Some.ensures.line)
          ∙ c.loop-line.invariant.read;
      size =
          let more = records_push c.args.mark (texts c.loop-line.lines.items) c.in-Some.line.now in
          omega (arith, ap (λ (ls : List (List ℕ)). length (records c.args.mark ls)) is, more, c.in-Some.ensures.size, c.loop-line.invariant.size);
    }
