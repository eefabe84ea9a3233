use Rattle.command_line.proofs.ReadLemmas.{asked_not_help, comes_to_one, named_not_asked, named_not_help, named_once}
use Rattle.command_line.proofs.laws_of_words.words_come_to_one.Goals as goal

pub returns : goal.returns
returns c = record {
  some = comes_to_one;
  once = named_once;
  named_not_asked = named_not_asked;
  named_not_help = named_not_help;
  asked_not_help = asked_not_help;
}
