use Rattle.command_line.proofs.WordLemmas.{help_is_asked_long, help_is_asked_operand, help_is_asked_option, help_is_asked_service, help_is_asked_short, help_is_asked_word}
use Rattle.command_line.proofs.laws_of_words.help_is_asked.Goals as goal

pub returns : goal.returns
returns c = record {
  long = help_is_asked_long;
  short = help_is_asked_short;
  word = help_is_asked_word;
  service = help_is_asked_service;
  operand = help_is_asked_operand;
  option = help_is_asked_option;
}
