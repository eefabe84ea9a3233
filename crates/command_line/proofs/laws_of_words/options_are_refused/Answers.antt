use Rattle.command_line.proofs.WordLemmas.{options_are_refused_both, options_are_refused_no_command, options_are_refused_no_value, options_are_refused_not_after, options_are_refused_not_before, options_are_refused_together, options_are_refused_twice, options_are_refused_without}
use Rattle.command_line.proofs.laws_of_words.options_are_refused.Goals as goal

pub returns : goal.returns
returns c = record {
  twice = options_are_refused_twice;
  both = options_are_refused_both;
  no_value = options_are_refused_no_value;
  not_after = options_are_refused_not_after;
  not_before = options_are_refused_not_before;
  without = options_are_refused_without;
  together = options_are_refused_together;
  no_command = options_are_refused_no_command;
}
