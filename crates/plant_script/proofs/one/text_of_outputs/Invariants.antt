use Rattle.plant_script.proofs.RunSoFar.{IsRunSoFar}
use Rattle.operator_book.specs.ViewOf.{view_of}
use Rattle.plant_script.proofs.one.text_of_outputs.Given as goal

abbrev pub invariant-loop-message : goal.invariant-loop-message
invariant-loop-message l = IsRunSoFar l.messages (view_of l.book) l.text.items l.message-index
