-- What the operand's rule is, step by step.
use Rattle.std.proofs.Common.{◌≡◌, ◌∙◌, true, ap}
use Rattle.command_line.proofs.Common.{Rule, rule_of}
use Rattle.command_line.proofs.command.operand.Goals as goal

pub returns-clause-rule : goal.returns-clause-rule
returns-clause-rule c =
    let named : rule_of c.value_name.result ≡ record (rule_of c.new.result) { value_names = 1 } = ap rule_of c.value_name.ensures in
    let required : rule_of c.required.result ≡ record (rule_of c.value_name.result) { required = true } = ap rule_of c.required.ensures in
    let told : rule_of c.help.result ≡ rule_of c.required.result = ap rule_of c.help.ensures in
    told ∙ (required ∙ ap (λ (r : Rule). record r { required = true }) (named ∙ ap (λ (r : Rule). record r { value_names = 1 }) c.new.ensures.rule))
