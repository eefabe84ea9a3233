use Rattle.std.proofs.Common.{rules, ◌≡◌, ◌≢◌, ◌∙◌, ℕ, ◌+◌, List, length, sym, subst, arith}
use Rattle.state_service.proofs.Common.{live_view, if_ok, journal_content, HasNoFewer, IsServiceSoFar, IsLeftUnder}
use Rattle.line_service.proofs.ServiceLemmas.{known_same}
use Rattle.state_service.proofs.BeginLemmas.{none_read_where, first_served, restored_leads, restored_saved, saved_first, begun_left, begun_leaves, on_ok}
use Rattle.state_service.proofs.KeepLemmas.{unchanged, stands_has}
use Rattle.state_service.proofs.CrashLemmas.{found_left}
use Rattle.state_service.proofs.ServiceFaultLemmas.{if_err, change_start}
use Rattle.state_service.proofs.starting.start_service.Goals as goal

pub returns-in_err-redo_lines-clause-any_moment : goal.returns-in_err-redo_lines-clause-any_moment
returns-in_err-redo_lines-clause-any_moment g c =
    let content = journal_content (g.D.Device.seen c.args.journal.now.device) in
    let known = g.B.Read.remaining c.args.reader.now in
    unchanged g.D.Device.moment g.D.Device.left_since _ g.D.Device.seen g.D.Device.may_leave (λ o. IsLeftUnder content c.args.given.file.items known o) (g.met.D.Device.only_now _) c.requires.settled.durable
    (found_left content _ known _ (stands_has content _ _ _ c.args.lines.now c.requires.restored.stands))

pub returns-then-ne-clause-count : goal.returns-then-ne-clause-count
returns-then-ne-clause-count g c = if_ok c.change_service.result _ _ (λ started is. omega (arith, is, c.in_ok-redo_lines.ensures.count)) c.change_service.ensures.count

pub returns-then-ne-clause-leads : goal.returns-then-ne-clause-leads
returns-then-ne-clause-leads g c = if_ok c.change_service.result _ _ (λ started all. all (journal_content (g.D.Device.seen c.args.journal.now.device))) c.change_service.ensures.leads

pub returns-then-ne-clause-fault : goal.returns-then-ne-clause-fault
returns-then-ne-clause-fault g c =
    let content = journal_content (g.D.Device.seen c.args.journal.now.device) in
    let service = c.redo_lines.new.service in
    let given = c.args.given.file.items in
    let leads = restored_leads content _ _ _ (live_view c.args.service.core) _ _ c.requires.restored c.in_ok-redo_lines.ensures.leads in
    let is_saved = restored_saved content _ service.file _ _ (live_view c.args.service.core) c.requires.restored c.redo_lines.ensures.same in
    let other : given ≢ service.file = search rules in
    if_err c.change_service.result _ _
    (λ e is. change_start content given (g.D.Device.faults c.args.journal.now.device) (live_view service.core) service.count service.file c.args.given.plant e leads is_saved other c.requires.given is)
    c.change_service.ensures.fault

pub returns-then-ne-clause-on : goal.returns-then-ne-clause-on
returns-then-ne-clause-on g c =
    let content = journal_content (g.D.Device.seen c.args.journal.now.device) in
    let service = c.redo_lines.new.service in
    let leads = restored_leads content _ _ _ (live_view c.args.service.core) _ _ c.requires.restored c.in_ok-redo_lines.ensures.leads in
    let is_saved = restored_saved content _ service.file _ _ (live_view c.args.service.core) c.requires.restored c.redo_lines.ensures.same in
    if_ok c.change_service.result _ _
    (λ started on.
    known_same (g.B.Read.remaining c.args.reader.now)
    (λ input rest. IsServiceSoFar content c.args.given.file.items started.end content input rest c.args.part.now.items (live_view started.service.core) started.service.count (g.W.Write.contents c.args.writer.now) (g.W.Write.contents c.change_service.new.writer))
    (λ input.
    subst (λ (p : List ℕ). IsServiceSoFar content c.args.given.file.items started.end content input input p (live_view started.service.core) started.service.count (g.W.Write.contents c.args.writer.now) (g.W.Write.contents c.change_service.new.writer)) (sym c.requires.part)
    (on content input leads is_saved))) c.change_service.ensures.on

pub returns-then-ne-clause-any_moment : goal.returns-then-ne-clause-any_moment
returns-then-ne-clause-any_moment g c =
    let content = journal_content (g.D.Device.seen c.args.journal.now.device) in
    let known = g.B.Read.remaining c.args.reader.now in
    unchanged g.D.Device.moment g.D.Device.left_since _ g.D.Device.seen g.D.Device.may_leave (λ o. IsLeftUnder content c.args.given.file.items known o) (g.met.D.Device.only_now _) c.requires.settled.durable
    (found_left content _ known _ (stands_has content _ _ _ c.args.lines.now c.requires.restored.stands))

pub returns-in_err-write_greeting-clause-any_moment : goal.returns-in_err-write_greeting-clause-any_moment
returns-in_err-write_greeting-clause-any_moment g c =
    let content = journal_content (g.D.Device.seen c.args.journal.now.device) in
    let known = g.B.Read.remaining c.args.reader.now in
    unchanged g.D.Device.moment g.D.Device.left_since _ g.D.Device.seen g.D.Device.may_leave (λ o. IsLeftUnder content c.args.given.file.items known o) (g.met.D.Device.only_now _) c.requires.settled.durable
    (found_left content _ known _ (stands_has content _ _ _ c.args.lines.now c.requires.restored.stands))

pub returns-then-ne-clause-no_fewer : goal.returns-then-ne-clause-no_fewer
returns-then-ne-clause-no_fewer g c =
    let content = journal_content (g.D.Device.seen c.args.journal.now.device) in
    on_ok c.change_service.result (HasNoFewer (c.args.service.count + length c.args.lines.now) content)
    (record { count = _; has = stands_has content _ _ _ c.args.lines.now c.requires.restored.stands; enough = omega arith })

pub returns-clause-count : goal.returns-clause-count
returns-clause-count g c = omega (arith, c.in_ok-redo_lines.ensures.count, c.in_ok-end.ensures.count)

pub returns-clause-same_file : goal.returns-clause-same_file
returns-clause-same_file g c =
    let same : c.args.given.file.items ≡ c.redo_lines.new.service.file = search rules in
    c.in_ok-end.ensures.same_file ∙ sym same

pub returns-clause-leads : goal.returns-clause-leads
returns-clause-leads g c =
    let content = journal_content (g.D.Device.seen c.args.journal.now.device) in
    let service = c.redo_lines.new.service in
    let leads = restored_leads content _ _ _ (live_view c.args.service.core) _ _ c.requires.restored c.in_ok-redo_lines.ensures.leads in
    c.in_ok-end.ensures.leads leads

pub returns-clause-no_fewer : goal.returns-clause-no_fewer
returns-clause-no_fewer g c =
    let content = journal_content (g.D.Device.seen c.args.journal.now.device) in
    let has = stands_has content _ _ _ c.args.lines.now c.requires.restored.stands in
    let given = c.args.given.file.items in
    let service = c.redo_lines.new.service in
    let leads = restored_leads content _ _ _ (live_view c.args.service.core) (live_view service.core) _ c.requires.restored c.in_ok-redo_lines.ensures.leads in
    let is_saved = restored_saved content _ service.file _ _ (live_view c.args.service.core) c.requires.restored c.redo_lines.ensures.same in
    let same : given ≡ service.file = search rules in
    let left = begun_left content service.file given (live_view service.core) service.count _ (g.B.Read.remaining c.args.reader.now) c.args.part.now.items leads is_saved same c.requires.part has _ c.in_ok-end.ensures.left in
    left.no_fewer

pub returns-in_err-end-clause-any_moment : goal.returns-in_err-end-clause-any_moment
returns-in_err-end-clause-any_moment g c =
    let content = journal_content (g.D.Device.seen c.args.journal.now.device) in
    let has = stands_has content _ _ _ c.args.lines.now c.requires.restored.stands in
    let given = c.args.given.file.items in
    let service = c.redo_lines.new.service in
    let leads = restored_leads content _ _ _ (live_view c.args.service.core) (live_view service.core) _ c.requires.restored c.in_ok-redo_lines.ensures.leads in
    let is_saved = restored_saved content _ service.file _ _ (live_view c.args.service.core) c.requires.restored c.redo_lines.ensures.same in
    let same : given ≡ service.file = search rules in
    begun_leaves content service.file given (live_view service.core) service.count _ (g.B.Read.remaining c.args.reader.now) c.args.part.now.items leads is_saved same c.requires.part has g.D.Device.moment g.D.Device.left_since _ _
    c.serve_period.ensures.any_moment

pub returns-clause-any_moment : goal.returns-clause-any_moment
returns-clause-any_moment g c =
    let content = journal_content (g.D.Device.seen c.args.journal.now.device) in
    let has = stands_has content _ _ _ c.args.lines.now c.requires.restored.stands in
    let given = c.args.given.file.items in
    let service = c.redo_lines.new.service in
    let leads = restored_leads content _ _ _ (live_view c.args.service.core) (live_view service.core) _ c.requires.restored c.in_ok-redo_lines.ensures.leads in
    let is_saved = restored_saved content _ service.file _ _ (live_view c.args.service.core) c.requires.restored c.redo_lines.ensures.same in
    let same : given ≡ service.file = search rules in
    begun_leaves content service.file given (live_view service.core) service.count _ (g.B.Read.remaining c.args.reader.now) c.args.part.now.items leads is_saved same c.requires.part has g.D.Device.moment g.D.Device.left_since _ _
    c.serve_period.ensures.any_moment

pub returns-clause-on : goal.returns-clause-on
returns-clause-on g c =
    let content = journal_content (g.D.Device.seen c.args.journal.now.device) in
    let has = stands_has content _ _ _ c.args.lines.now c.requires.restored.stands in
    let given = c.args.given.file.items in
    let service = c.redo_lines.new.service in
    let leads = restored_leads content _ _ _ (live_view c.args.service.core) (live_view service.core) _ c.requires.restored c.in_ok-redo_lines.ensures.leads in
    let is_saved = restored_saved content _ service.file _ _ (live_view c.args.service.core) c.requires.restored c.redo_lines.ensures.same in
    let same : given ≡ service.file = search rules in
    let known = g.B.Read.remaining c.args.reader.now in
    let part = c.args.part.now.items in
    let later = journal_content (g.D.Device.seen c.serve_period.new.journal.device) in
    let mid = g.W.Write.contents c.write_greeting.new.writer in
    let left = begun_left content service.file given (live_view service.core) service.count _ known part leads is_saved same c.requires.part has later c.in_ok-end.ensures.left in
    first_served content later given c.serve_period.new.part.items c.in_ok-end.end (live_view service.core) (live_view c.serve_period.new.service.core) service.count c.serve_period.new.service.count c.resting_frame.result
    known (g.B.Read.remaining c.serve_period.new.reader) (g.W.Write.contents c.args.writer.now) mid (g.W.Write.contents c.serve_period.new.writer)
    (saved_first content service.file given (live_view service.core) service.count _ known part leads is_saved same c.requires.part has) c.resting_frame.ensures c.in_ok-write_greeting.ensures left.named
    (c.in_ok-end.ensures.on given (live_view service.core) service.count known mid (sym same) (none_read_where given (live_view service.core) service.count part known mid c.requires.part))
