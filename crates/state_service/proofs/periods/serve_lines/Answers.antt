use Rattle.std.proofs.Common.{◌∙◌, subst, arith}
use Rattle.state_service.proofs.Common.{live_view, WhereKnown, journal_content, if_ok, BatchEnd, IsAfterLines, IsJournalOf, IsLeftFrom}
use Rattle.state_service.proofs.KeepLemmas.{joined}
use Rattle.state_service.proofs.CrashLemmas.{journal_left}
use Rattle.state_service.proofs.periods.serve_lines.Goals as goal

pub returns-in-Open-clause-on : goal.returns-in-Open-clause-on
returns-in-Open-clause-on g c file first count known written same so_far =
    let new = c.serve_batch.new.service in
    subst (λ (e : BatchEnd). WhereKnown known (g.B.Read.remaining c.serve_batch.new.reader)
    (λ input rest. IsAfterLines e file first count input rest c.serve_batch.new.part.items (live_view new.core) new.count written (g.W.Write.contents c.serve_batch.new.writer))) c.in-Open.is
    (c.in_ok-serve_batch.ensures.on file first count known written so_far)

pub returns-in-Ended-clause-on : goal.returns-in-Ended-clause-on
returns-in-Ended-clause-on g c file first count known written same so_far =
    let new = c.serve_batch.new.service in
    subst (λ (e : BatchEnd). WhereKnown known (g.B.Read.remaining c.serve_batch.new.reader)
    (λ input rest. IsAfterLines e file first count input rest c.serve_batch.new.part.items (live_view new.core) new.count written (g.W.Write.contents c.serve_batch.new.writer))) c.in-Ended.is
    (c.in_ok-serve_batch.ensures.on file first count known written so_far)

pub returns-in-Command-clause-count : goal.returns-in-Command-clause-count
returns-in-Command-clause-count g c = if_ok c.serve_command.result _ _ (λ end is. omega (arith, is, c.in_ok-serve_batch.ensures.count)) c.serve_command.ensures.count

pub returns-in-Command-clause-leads : goal.returns-in-Command-clause-leads
returns-in-Command-clause-leads g c = if_ok c.serve_command.result _ _ (λ end leads led. leads (c.in_ok-serve_batch.ensures.leads led)) c.serve_command.ensures.leads

pub returns-in-Command-clause-on : goal.returns-in-Command-clause-on
returns-in-Command-clause-on g c =
    let mid = c.serve_batch.new.service in
    let part = c.serve_batch.new.part.items in
    let left = g.B.Read.remaining c.serve_batch.new.reader in
    if_ok c.serve_command.result _ _
    (λ end on file first count known written same so_far.
    on file first count known left written part (c.serve_batch.ensures.same_file ∙ same)
    (subst (λ (e : BatchEnd). WhereKnown known left (λ input rest. IsAfterLines e file first count input rest part (live_view mid.core) mid.count written (g.W.Write.contents c.serve_batch.new.writer))) c.in-Command.is
    (c.in_ok-serve_batch.ensures.on file first count known written so_far))) c.serve_command.ensures.on

pub returns-in-Open-clause-holds : goal.returns-in-Open-clause-holds
returns-in-Open-clause-holds g c origin has =
    subst (λ (e : BatchEnd). IsJournalOf origin e (journal_content (g.D.Device.seen c.serve_batch.new.journal.device)) (g.B.Read.remaining c.serve_batch.new.reader) c.serve_batch.new.part.items) c.in-Open.is
    (c.in_ok-serve_batch.ensures.holds origin has)

pub returns-in-Ended-clause-holds : goal.returns-in-Ended-clause-holds
returns-in-Ended-clause-holds g c origin has =
    journal_left origin c.in_ok-serve_batch.field-0 (journal_content (g.D.Device.seen c.serve_batch.new.journal.device)) (g.B.Read.remaining c.serve_batch.new.reader) c.serve_batch.new.part.items
    (c.in_ok-serve_batch.ensures.holds origin has)

pub returns-in-Command-clause-holds : goal.returns-in-Command-clause-holds
returns-in-Command-clause-holds g c =
    let left = g.B.Read.remaining c.serve_batch.new.reader in
    let part = c.serve_batch.new.part.items in
    if_ok c.serve_command.result _ _
    (λ end holds origin has.
    holds origin left part
    (subst (λ (e : BatchEnd). IsJournalOf origin e (journal_content (g.D.Device.seen c.serve_batch.new.journal.device)) left part) c.in-Command.is (c.in_ok-serve_batch.ensures.holds origin has)))
    c.serve_command.ensures.holds

pub returns-in-Command-clause-any_moment : goal.returns-in-Command-clause-any_moment
returns-in-Command-clause-any_moment g c origin has =
    let left = g.B.Read.remaining c.serve_batch.new.reader in
    let part = c.serve_batch.new.part.items in
    joined g.D.Device.moment g.D.Device.left_since c.args.journal.now.device c.serve_batch.new.journal.device c.serve_command.new.journal.device
    (λ d. IsLeftFrom origin (journal_content d)) (c.serve_batch.ensures.any_moment origin has)
    (c.serve_command.ensures.any_moment origin left part
    (subst (λ (e : BatchEnd). IsJournalOf origin e (journal_content (g.D.Device.seen c.serve_batch.new.journal.device)) left part) c.in-Command.is (c.in_ok-serve_batch.ensures.holds origin has)))
