use Rattle.std.proofs.Common.{[], ◌∷◌}
use Rattle.clap.specs.declared.error.kind.ErrorKind.TheVariants as kind
use Rattle.command_line.proofs.ReadLemmas.{read_by_kinds}
use Rattle.command_line.proofs.StrayLemmas.{first_word}
use Rattle.command_line.proofs.laws_of_words.other_names_are_wrong.Goals as goal

pub returns : goal.returns
returns c = λ word rest strange no_help plain. read_by_kinds _ kind.UnknownArgument (kind.InvalidSubcommand ∷ []) (first_word word rest strange no_help plain)
