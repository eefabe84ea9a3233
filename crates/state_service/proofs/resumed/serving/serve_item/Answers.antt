use Rattle.std.proofs.Common.{sym, ◌∙◌}
use Rattle.state_service.proofs.ResumedLemmas.Common.{live_view, if_ok}
use Rattle.state_service.proofs.ResumedLemmas.ServedLemmas.{item_served, plant_begun, line_held}
use Rattle.state_service.proofs.resumed.serving.serve_item.Goals as goal

pub returns-then-is_held-clause-on : goal.returns-then-is_held-clause-on
returns-then-is_held-clause-on g c =
    let service = c.args.service.now in
    let held = c.read_line.new.held in
    if_ok c.take_plant_file.result _ _
    (λ outcome on first known written so_far.
    on first known written (plant_begun first service.number (live_view service.core) service.file held.bytes.items held.is_long c.in_ok-after.after written (g.W.Write.contents c.args.writer.now)
    known (g.R.Read.remaining c.args.reader.now) (g.R.Read.remaining c.read_line.new.reader) so_far c.in_ok-after.ensures
    (λ line is. sym (c.is_held.ensures line is) ∙ c.if-is_held.true))) c.take_plant_file.ensures.on

pub returns-clause-on : goal.returns-clause-on
returns-clause-on g c = λ first known written so_far.
    let service = c.args.service.now in
    let held = c.read_line.new.held in
    item_served first service.number (live_view service.core) service.file held.bytes.items held.is_long c.in_ok-after.after written (g.W.Write.contents c.args.writer.now)
    known (g.R.Read.remaining c.args.reader.now) (g.R.Read.remaining c.read_line.new.reader) c.in_ok-service.field-0 (live_view c.answer_item.new.core) (g.W.Write.contents c.answer_item.new.writer)
    so_far c.in_ok-after.ensures c.in_ok-service.ensures c.in_ok-answer_item.ensures.answered

pub returns-then-asks_frame-clause-on : goal.returns-then-asks_frame-clause-on
returns-then-asks_frame-clause-on g c =
    let service = c.args.service.now in
    let held = c.read_line.new.held in
    if_ok c.take_frame.result _ _
    (λ outcome on first known written so_far.
    on first known (g.R.Read.remaining c.read_line.new.reader) written
    (line_held first service.number (live_view service.core) service.file held.bytes.items held.is_long c.in_ok-after.after written (g.W.Write.contents c.args.writer.now)
    known (g.R.Read.remaining c.args.reader.now) (g.R.Read.remaining c.read_line.new.reader) so_far c.in_ok-after.ensures)) c.take_frame.ensures.on
