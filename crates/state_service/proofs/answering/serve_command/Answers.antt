use Rattle.std.proofs.Common.{◌≡◌, ◌∷◌, [], List, ℕ, Vec, refl, subst, ap, ◌∙◌}
use Rattle.state_service.proofs.Common.{Global, live_view, texts, IsOutcomeOf, IsCommandDue, IsCommandRefusedFor, journal_content, with_lines, Open, Command, IsLeftFrom}
use Rattle.state_service.specs.declared.performing.CommandOutcome.{CommandOutcome}
use Rattle.state_service.proofs.KeepLemmas.{unchanged, put_moments}
use Rattle.state_service.proofs.CrashLemmas.{journal_left, command_more}
use Rattle.state_service.proofs.ServeLemmas.{command_due_where, command_refused_where}
use Rattle.state_service.proofs.answering.serve_command.Goals as goal

pub returns-in-Due-clause-on : goal.returns-in-Due-clause-on
returns-in-Due-clause-on g c file first count known rest written part same so_far =
    let service = c.args.service.now in
    let live = live_view service.core in
    let number = c.in_ok-number.number in
    let line = c.args.line.items in
    let is : IsCommandDue service.file live c.as_slice.result.now number c.in-Due.due = subst (λ (o : CommandOutcome). IsOutcomeOf service.file live c.as_slice.result.now number o) c.in-Due.is c.in_ok-due.ensures.outcome in
    command_due_where file first count part known rest written live service.count (g.W.Write.contents c.args.writer.now) c.in-Due.due service.file line number same c.in_ok-number.ensures
    (subst (λ (l : List ℕ). IsCommandDue service.file live l number c.in-Due.due) c.as_slice.ensures.value is) so_far

pub returns-in-Due-clause-holds : goal.returns-in-Due-clause-holds
returns-in-Due-clause-holds g c origin rest part has = journal_left origin (Command c.args.line) (journal_content (g.D.Device.seen c.args.journal.now.device)) rest part has

pub returns-in-Due-clause-any_moment : goal.returns-in-Due-clause-any_moment
returns-in-Due-clause-any_moment g c origin rest part has =
    unchanged g.D.Device.moment g.D.Device.left_since c.args.journal.now.device g.D.Device.seen g.D.Device.may_leave (λ o. IsLeftFrom origin o) (g.met.D.Device.only_now c.args.journal.now.device)
    c.requires.settled.durable (journal_left origin (Command c.args.line) _ rest part has)

pub returns-clause-on : goal.returns-clause-on
returns-clause-on g c file first count known rest written part same so_far =
    let service = c.args.service.now in
    let live = live_view service.core in
    let number = c.in_ok-number.number in
    let line = c.args.line.items in
    let refusal = c.in-Refused.refusal in
    let new = c.answer_lines.new.service in
    let done = c.in_ok-answer_lines.ensures.answered in
    let alone : texts c.as_slice-2.result.now ≡ line ∷ [] = ap (λ (ls : List (Vec ℕ Global)). texts ls) (c.as_slice-2.ensures.value ∙ c.in_ok-lines.ensures.items) in
    let is : IsCommandRefusedFor service.file live c.as_slice.result.now refusal = subst (λ (o : CommandOutcome). IsOutcomeOf service.file live c.as_slice.result.now number o) c.in-Refused.is c.in_ok-due.ensures.outcome in
    command_refused_where file first count part known rest written live service.count (g.W.Write.contents c.args.writer.now) service.file line done.0 (texts c.as_slice-2.result.now) refusal (live_view new.core) new.count
    (g.W.Write.contents c.answer_lines.new.writer) same alone c.in_ok-answer_lines.ensures.count
    (subst (λ (l : List ℕ). IsCommandRefusedFor service.file live l refusal) c.as_slice.ensures.value is) done.1 done.2 so_far

pub returns-clause-holds : goal.returns-clause-holds
returns-clause-holds g c origin rest part has =
    let alone : texts c.as_slice-2.result.now ≡ c.args.line.items ∷ [] = ap (λ (ls : List (Vec ℕ Global)). texts ls) (c.as_slice-2.ensures.value ∙ c.in_ok-lines.ensures.items) in
    command_more origin c.args.line (journal_content (g.D.Device.seen c.args.journal.now.device)) (journal_content (g.D.Device.seen c.answer_lines.new.journal.device)) (texts c.as_slice-2.result.now) rest part alone
    c.in_ok-answer_lines.ensures.added has

pub returns-in_err-answer_lines-clause-any_moment : goal.returns-in_err-answer_lines-clause-any_moment
returns-in_err-answer_lines-clause-any_moment g c origin rest part has =
    let old = c.args.journal.now.device in
    let content = journal_content (g.D.Device.seen old) in
    let lines = texts c.as_slice-2.result.now in
    let alone : lines ≡ c.args.line.items ∷ [] = ap (λ (ls : List (Vec ℕ Global)). texts ls) (c.as_slice-2.ensures.value ∙ c.in_ok-lines.ensures.items) in
    put_moments g.D.Device.moment g.D.Device.left_since old c.answer_lines.new.journal.device (λ o. IsLeftFrom origin o) content (with_lines lines content)
    (journal_left origin (Command c.args.line) content rest part has)
    (journal_left origin Open (with_lines lines content) rest part (command_more origin c.args.line content (with_lines lines content) lines rest part alone refl has)) c.answer_lines.ensures.any_moment

pub returns-clause-any_moment : goal.returns-clause-any_moment
returns-clause-any_moment g c origin rest part has =
    let old = c.args.journal.now.device in
    let content = journal_content (g.D.Device.seen old) in
    let lines = texts c.as_slice-2.result.now in
    let alone : lines ≡ c.args.line.items ∷ [] = ap (λ (ls : List (Vec ℕ Global)). texts ls) (c.as_slice-2.ensures.value ∙ c.in_ok-lines.ensures.items) in
    put_moments g.D.Device.moment g.D.Device.left_since old c.answer_lines.new.journal.device (λ o. IsLeftFrom origin o) content (with_lines lines content)
    (journal_left origin (Command c.args.line) content rest part has)
    (journal_left origin Open (with_lines lines content) rest part (command_more origin c.args.line content (with_lines lines content) lines rest part alone refl has)) c.answer_lines.ensures.any_moment

pub returns-in_err-number-clause-any_moment : goal.returns-in_err-number-clause-any_moment
returns-in_err-number-clause-any_moment g c origin rest part has =
    unchanged g.D.Device.moment g.D.Device.left_since c.args.journal.now.device g.D.Device.seen g.D.Device.may_leave (λ o. IsLeftFrom origin o) (g.met.D.Device.only_now c.args.journal.now.device)
    c.requires.settled.durable (journal_left origin (Command c.args.line) _ rest part has)

pub returns-in_err-due-clause-any_moment : goal.returns-in_err-due-clause-any_moment
returns-in_err-due-clause-any_moment g c origin rest part has =
    unchanged g.D.Device.moment g.D.Device.left_since c.args.journal.now.device g.D.Device.seen g.D.Device.may_leave (λ o. IsLeftFrom origin o) (g.met.D.Device.only_now c.args.journal.now.device)
    c.requires.settled.durable (journal_left origin (Command c.args.line) _ rest part has)

pub returns-in_err-lines-clause-any_moment : goal.returns-in_err-lines-clause-any_moment
returns-in_err-lines-clause-any_moment g c origin rest part has =
    unchanged g.D.Device.moment g.D.Device.left_since c.args.journal.now.device g.D.Device.seen g.D.Device.may_leave (λ o. IsLeftFrom origin o) (g.met.D.Device.only_now c.args.journal.now.device)
    c.requires.settled.durable (journal_left origin (Command c.args.line) _ rest part has)
