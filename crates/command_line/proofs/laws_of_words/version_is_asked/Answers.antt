use Rattle.command_line.proofs.WordLemmas.{version_is_asked_after, version_is_asked_before, version_is_asked_long, version_is_asked_short}
use Rattle.command_line.proofs.laws_of_words.version_is_asked.Goals as goal

pub returns : goal.returns
returns c = record {
  long = version_is_asked_long;
  short = version_is_asked_short;
  before = version_is_asked_before;
  after = version_is_asked_after;
}
