use Rattle.trace_report.proofs.Common.{Appends-trans, no_words_line}
use Rattle.trace_report.proofs.trace.write_done.Goals as goal

-- the words stand after the decision's text
pub returns-in_ok-write_words-in-Ok : goal.returns-in_ok-write_words-in-Ok
returns-in_ok-write_words-in-Ok g c =
    let told = c.in_ok-write_decision.ensures in
    let words = c.in_ok-write_words-in-Ok.ensures in
    (told.0, words.0, told.1, words.1, Appends-trans (g.W.Write.contents c.args.writer.now) (g.W.Write.contents c.write_decision.new.writer) (g.W.Write.contents c.write_words.new.writer) told.0 words.0 told.2 words.2)

-- or the line that says that there are none
pub returns-in_ok-write_no_words-in-Err : goal.returns-in_ok-write_no_words-in-Err
returns-in_ok-write_no_words-in-Err g c =
    let told = c.in_ok-write_decision.ensures in
    (told.0, told.1, Appends-trans (g.W.Write.contents c.args.writer.now) (g.W.Write.contents c.write_decision.new.writer) (g.W.Write.contents c.write_no_words.new.writer) told.0 no_words_line told.2 c.in_ok-write_no_words-in-Err.ensures)
