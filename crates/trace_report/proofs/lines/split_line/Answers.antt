use Rattle.trace_report.proofs.LineLemmas.{first_line}
use Rattle.trace_report.proofs.lines.split_line.Goals as goal

pub returns-in-Some-clause-first : goal.returns-in-Some-clause-first
returns-in-Some-clause-first c = first_line c.args.text.now c.split_at.result.0.now c.in-Some.place c.in-Some.ensures c.split_at.ensures.front
