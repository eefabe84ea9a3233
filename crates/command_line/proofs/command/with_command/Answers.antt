-- The subcommand is added to what stood before it.
use Rattle.std.proofs.Common.{refl}
use Rattle.command_line.proofs.Common.{IfOk-weaker}
use Rattle.command_line.proofs.CommandLemmas.{added_subcommand, command_is_plain}
use Rattle.command_line.proofs.command.with_command.Goals as goal

pub returns : goal.returns
returns c =
    IfOk-weaker c.subcommand.result _ _
    (λ command added. added_subcommand _ _ command _ _ refl c.in_ok-named_command.ensures (command_is_plain c.args.name) added)
    c.subcommand.ensures
