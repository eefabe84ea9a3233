use Rattle.command_line.proofs.ReadLemmas.{refused_wrong}
use Rattle.command_line.proofs.laws_of_words.refused_are_wrong.Goals as goal

pub returns : goal.returns
returns c = refused_wrong
