use Rattle.serde_json.specs.View.{items_view}
use Rattle.json_lines.specs.Writable.{AreTexts}
use Rattle.json_lines.proofs.object.words_of.Given as goal

abbrev pub invariant-loop-word : goal.invariant-loop-word
invariant-loop-word l = AreTexts (items_view l.words.items)
