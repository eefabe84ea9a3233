use Rattle.std.proofs.Common.{[]}
use Rattle.clap.specs.declared.error.kind.ErrorKind.TheVariants as kind
use Rattle.command_line.proofs.ReadLemmas.{read_by_kinds}
use Rattle.command_line.proofs.StrayLemmas.{second_word}
use Rattle.command_line.proofs.laws_of_words.commands_have_no_operand.Goals as goal

pub returns : goal.returns
returns c = λ name word rest other plain. read_by_kinds _ kind.UnknownArgument [] (second_word name word rest other plain)
