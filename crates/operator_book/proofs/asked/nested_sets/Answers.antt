use Rattle.std.proofs.Common.{rules, sym, ap, ◌∙◌}
use Rattle.operator_book.proofs.Nested.{nested_ok, nested_err}
use Rattle.std.specs.Prelude.{Err}
use Rattle.operator_book.proofs.asked.nested_sets.Goals as goal

pub returns-in-Ok : goal.returns-in-Ok
returns-in-Ok c = sym (nested_ok c.args.t c.args.first.now c.args.sets c.args.asked.now c.in-Ok.sets (search rules) (search rules))

pub returns-in-Err : goal.returns-in-Err
returns-in-Err c = ap Err c.refusal_naming-in-Err.ensures ∙ sym (nested_err c.args.t c.args.first.now c.args.sets c.args.asked.now c.in-Err.refused (search rules) (search rules))
