use Rattle.std.proofs.Common.{arith, ◌≡◌}
use Rattle.std.specs.Prelude.{slice_index}
use Rattle.std.proofs.lemmas.Bool.Decides.{nat_tests}
use Rattle.line_journal.proofs.FirstLine.{some_first, none_first}
use Rattle.line_journal.proofs.recovery.first_line.Goals as goal

pub returns-clause-line : goal.returns-clause-line
returns-clause-line c =
    let first : slice_index c.args.text.now 0 ≡ c.args.mark = grind (arith, nat_tests) in
    some_first c.args.mark c.args.text.now c.requires c.in-len1-up.len_at_least first (λ f. f.0.now) (λ f. f.1.now) c.split_line.result c.split_line.ensures.split c.split_line.ensures.line

pub returns-clause-none : goal.returns-clause-none
returns-clause-none c =
    let first : slice_index c.args.text.now 0 ≡ c.args.mark = grind (arith, nat_tests) in
    none_first c.args.mark c.args.text.now c.requires c.in-len1-up.len_at_least first c.split_line.result c.split_line.ensures.none
