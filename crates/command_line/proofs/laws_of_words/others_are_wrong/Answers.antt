use Rattle.command_line.proofs.WordLemmas.{others_are_wrong_help_after, others_are_wrong_no_operand, others_are_wrong_none, others_are_wrong_second, others_are_wrong_second_operand, others_are_wrong_unknown}
use Rattle.command_line.proofs.laws_of_words.others_are_wrong.Goals as goal

pub returns : goal.returns
returns c = record {
  none = others_are_wrong_none;
  unknown = others_are_wrong_unknown;
  second = others_are_wrong_second;
  no_operand = others_are_wrong_no_operand;
  second_operand = others_are_wrong_second_operand;
  help_after = others_are_wrong_help_after;
}
