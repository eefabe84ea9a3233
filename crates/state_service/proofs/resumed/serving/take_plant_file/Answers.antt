use Rattle.std.proofs.Common.{sym, subst}
use Rattle.state_service.proofs.ResumedLemmas.Common.{live_view, WhereKnown, LineBreak, lines_left, AreServedSoFar, AwaitsPlant}
use Rattle.state_service.proofs.ResumedLemmas.ServedLemmas.{file_awaits, file_not_taken}
use Rattle.state_service.proofs.resumed.serving.take_plant_file.Goals as goal

pub returns-in-Ok-clause-on : goal.returns-in-Ok-clause-on
returns-in-Ok-clause-on g c = λ first known written so_far.
    let service = c.args.service.now in
    let live = live_view service.core in
    let text = c.read_plant_file.new.text in
    let next = c.read_plant_file.new.number in
    let plant = c.in-Ok.plant in
    let b = g.R.Read.remaining c.args.reader.now in
    let d = g.R.Read.remaining c.read_plant_file.new.reader in
    let wrote = g.W.Write.contents c.args.writer.now in
    subst (λ (after : LineBreak). WhereKnown known d (λ input rest. AwaitsPlant first input rest after service.number next live service.file text.bytes.items plant written wrote)) (sym c.break_after-service.ensures)
    (file_awaits first service.number next live service.file written wrote text.keeping text.bytes.items c.args.after c.in_ok-end.end known b d so_far c.in_ok-end.ensures plant c.in-Ok.ensures.ok)

pub returns-in_ok-answer_refusal-in-Err-clause-on : goal.returns-in_ok-answer_refusal-in-Err-clause-on
returns-in_ok-answer_refusal-in-Err-clause-on g c = λ first known written so_far.
    let service = c.args.service.now in
    let live = live_view service.core in
    let text = c.read_plant_file.new.text in
    let next = c.read_plant_file.new.number in
    let b = g.R.Read.remaining c.args.reader.now in
    let d = g.R.Read.remaining c.read_plant_file.new.reader in
    let before = g.W.Write.contents c.args.writer.now in
    let wrote = g.W.Write.contents c.answer_refusal.new.writer in
    subst (λ (after : LineBreak). WhereKnown known d (λ input rest. AreServedSoFar first input (lines_left after rest) next live service.file written wrote)) (sym c.break_after-service.ensures)
    (file_not_taken first service.number next live service.file written before text.keeping text.bytes.items c.args.after c.in_ok-end.end known b d so_far c.in_ok-end.ensures c.in-Err.fault wrote c.in-Err.ensures.fault
    c.in_ok-answer_refusal-in-Err.ensures)
