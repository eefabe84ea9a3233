use Rattle.trace_report.proofs.RemarkLemmas.{line_worded}
use Rattle.trace_report.proofs.remarks.write_words.Goals as goal

pub loop-rest-preserved : goal.loop-rest-preserved
loop-rest-preserved g c =
    line_worded (g.W.Write.contents c.args.writer.now) (g.W.Write.contents c.loop-rest.writer) (g.W.Write.contents c.write_remark.new.writer) c.split_line.result.0.now c.loop-rest.invariant c.split_line.ensures.line c.in_ok-write_remark.ensures
