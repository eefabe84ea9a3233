use Rattle.plant_script.proofs.Common.{texts, if_ok}
use Rattle.plant_script.proofs.Reached.{word_reaches}
use Rattle.plant_script.proofs.program.answer_words.Goals as goal

pub returns-in-Ok-clause-answered : goal.returns-in-Ok-clause-answered
returns-in-Ok-clause-answered g c =
    let read = c.read_words.ensures in
    if_ok c.answer_word.result _ _
    (λ progress reached. word_reaches (texts c.args.words.now) (g.R.Read.remaining c.args.reader.now) c.in-Ok.word c.read_words.result c.in-Ok.is c.in-Ok.ensures.ok read.named read.help read.wrong
    progress (g.W.Write.contents c.args.writer.now) (g.W.Write.contents c.answer_word.new.writer) reached)
    c.answer_word.ensures
