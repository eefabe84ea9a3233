use Rattle.std.proofs.Common.{Some, ap, ◌∙◌, sym}
use Rattle.command_line.specs.ClapLine.{with_options}
use Rattle.command_line.proofs.CommandLemmas.{no_operand}
use Rattle.command_line.proofs.command.named_command.Goals as goal

pub returns-in_default : goal.returns-in_default
returns-in_default c = c.in_ok-optioned.ensures ∙ (ap (with_options (Some c.args.name)) c.bare_command-bare.ensures ∙ sym (no_operand c.args.name _ c.in_default.not-History))
