use Rattle.command_line.proofs.WordLemmas.{options_are_read_after, options_are_read_before, options_are_read_equals, options_are_read_file, options_are_read_state}
use Rattle.command_line.proofs.laws_of_words.options_are_read.Goals as goal

pub returns : goal.returns
returns c = record {
  after = options_are_read_after;
  before = options_are_read_before;
  file = options_are_read_file;
  equals = options_are_read_equals;
  state = options_are_read_state;
}
