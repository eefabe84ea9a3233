use Rattle.command_line.proofs.WordLemmas.{services_are_named_restore, services_are_named_resume, services_are_named_snapshot}
use Rattle.command_line.proofs.laws_of_words.services_are_named.Goals as goal

pub returns : goal.returns
returns c = record {
  resume = services_are_named_resume;
  restore = services_are_named_restore;
  snapshot = services_are_named_snapshot;
}
