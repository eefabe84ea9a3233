use Rattle.std.proofs.Common.{◌∙◌, ap}
use Rattle.clap.specs.Words.{first_value, found_of}
use Rattle.command_line.specs.Names.{option_text}
use Rattle.command_line.proofs.CommandLemmas.{value_in_rows}
use Rattle.command_line.proofs.options.value_in.Goals as goal

pub returns : goal.returns
returns c = c.get_str.ensures ∙ (ap (first_value (found_of c.args.matches.now)) c.text.ensures ∙ value_in_rows (found_of c.args.matches.now) (option_text c.args.option))
