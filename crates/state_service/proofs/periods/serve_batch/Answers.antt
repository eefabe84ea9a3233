use Rattle.std.proofs.Common.{rules, ◌≡◌, ◌++◌, List, Vec, ℕ, length, refl, sym, ap, subst}
use Rattle.state_service.proofs.Common.{Global, nil_from_length, WhereKnown, live_view, texts, IsAfterBatch, AreNoCommands, journal_content, with_lines, Open, IsLeftFrom}
use Rattle.state_service.proofs.ServeLemmas.{none_served, batch_served}
use Rattle.state_service.proofs.KeepLemmas.{unchanged, put_moments}
use Rattle.state_service.proofs.CrashLemmas.{journal_left, batch_more, batch_none}
use Rattle.state_service.proofs.periods.serve_batch.Goals as goal

pub returns-then-is_empty-clause-on : goal.returns-then-is_empty-clause-on
returns-then-is_empty-clause-on g c file first count known written so_far =
    let service = c.args.service.now in
    let read = c.in_ok-lines.field-0 in
    let none : length read.lines.items ≡ 0 = search rules in
    let a = g.B.Read.remaining c.args.reader.now in
    let b = g.B.Read.remaining c.read_batch.new.reader in
    let w = g.W.Write.contents c.args.writer.now in
    none_served file first count read.end c.args.part.now.items c.read_batch.new.part.items a b known written w (live_view service.core) service.count (texts read.lines.items)
    (ap (λ (ls : List (Vec ℕ Global)). texts ls) (nil_from_length read.lines.items none)) (λ k before taken. c.in_ok-lines.ensures.taken k before taken) so_far

pub returns-clause-on : goal.returns-clause-on
returns-clause-on g c file first count known written so_far =
    let old = c.args.service.now in
    let new = c.answer_lines.new.service in
    let read = c.in_ok-lines.field-0 in
    let lines = texts c.as_slice.result.now in
    let a = g.B.Read.remaining c.args.reader.now in
    let b = g.B.Read.remaining c.read_batch.new.reader in
    let w = g.W.Write.contents c.args.writer.now in
    let done = c.in_ok-answer_lines.ensures.answered in
    let same : texts read.lines.items ≡ lines = sym (ap (λ (ls : List (Vec ℕ Global)). texts ls) c.as_slice.ensures.value) in
    batch_served file first count read.end c.args.part.now.items c.read_batch.new.part.items a b known written w (g.W.Write.contents c.answer_lines.new.writer) (live_view old.core) (live_view new.core) old.count new.count
    lines done.0
    (λ k before taken. subst (λ (ls : List (List ℕ)). WhereKnown k b (λ input rest. IsAfterBatch read.end input rest (before ++ ls) c.read_batch.new.part.items)) same (c.in_ok-lines.ensures.taken k before taken))
    (subst (λ (ls : List (List ℕ)). AreNoCommands ls) same c.in_ok-lines.ensures.plain) done.1 c.in_ok-answer_lines.ensures.count done.2 so_far

pub returns-then-is_empty-clause-holds : goal.returns-then-is_empty-clause-holds
returns-then-is_empty-clause-holds g c origin has =
    let read = c.in_ok-lines.field-0 in
    let none : length read.lines.items ≡ 0 = search rules in
    batch_none origin read.end (journal_content (g.D.Device.seen c.args.journal.now.device)) (texts read.lines.items) c.args.part.now.items c.read_batch.new.part.items
    (g.B.Read.remaining c.args.reader.now) (g.B.Read.remaining c.read_batch.new.reader) (λ k before taken. c.in_ok-lines.ensures.taken k before taken)
    (ap (λ (ls : List (Vec ℕ Global)). texts ls) (nil_from_length read.lines.items none)) has

pub returns-clause-holds : goal.returns-clause-holds
returns-clause-holds g c origin has =
    let read = c.in_ok-lines.field-0 in
    let lines = texts c.as_slice.result.now in
    let b = g.B.Read.remaining c.read_batch.new.reader in
    let same : texts read.lines.items ≡ lines = sym (ap (λ (ls : List (Vec ℕ Global)). texts ls) c.as_slice.ensures.value) in
    batch_more origin read.end (journal_content (g.D.Device.seen c.args.journal.now.device)) (journal_content (g.D.Device.seen c.answer_lines.new.journal.device)) lines c.args.part.now.items
    c.read_batch.new.part.items (g.B.Read.remaining c.args.reader.now) b
    (λ k before taken. subst (λ (ls : List (List ℕ)). WhereKnown k b (λ input rest. IsAfterBatch read.end input rest (before ++ ls) c.read_batch.new.part.items)) same (c.in_ok-lines.ensures.taken k before taken))
    c.in_ok-answer_lines.ensures.added has

pub returns-in_err-lines-clause-any_moment : goal.returns-in_err-lines-clause-any_moment
returns-in_err-lines-clause-any_moment g c origin has =
    unchanged g.D.Device.moment g.D.Device.left_since c.args.journal.now.device g.D.Device.seen g.D.Device.may_leave (λ o. IsLeftFrom origin o) (g.met.D.Device.only_now c.args.journal.now.device)
    c.requires.settled.durable (journal_left origin Open _ _ _ has)

pub returns-then-is_empty-clause-any_moment : goal.returns-then-is_empty-clause-any_moment
returns-then-is_empty-clause-any_moment g c origin has =
    unchanged g.D.Device.moment g.D.Device.left_since c.args.journal.now.device g.D.Device.seen g.D.Device.may_leave (λ o. IsLeftFrom origin o) (g.met.D.Device.only_now c.args.journal.now.device)
    c.requires.settled.durable (journal_left origin Open _ _ _ has)

pub returns-in_err-answer_lines-clause-any_moment : goal.returns-in_err-answer_lines-clause-any_moment
returns-in_err-answer_lines-clause-any_moment g c origin has =
    let read = c.in_ok-lines.field-0 in
    let lines = texts c.as_slice.result.now in
    let b = g.B.Read.remaining c.read_batch.new.reader in
    let same : texts read.lines.items ≡ lines = sym (ap (λ (ls : List (Vec ℕ Global)). texts ls) c.as_slice.ensures.value) in
    put_moments g.D.Device.moment g.D.Device.left_since _ _ (λ o. IsLeftFrom origin o) _ (with_lines lines _) (journal_left origin Open _ _ _ has)
    (journal_left origin read.end _ b c.read_batch.new.part.items (batch_more origin read.end _ _ lines _ _ _ b
    (λ k before taken. subst (λ (ls : List (List ℕ)). WhereKnown k b (λ input rest. IsAfterBatch read.end input rest (before ++ ls) c.read_batch.new.part.items)) same (c.in_ok-lines.ensures.taken k before taken)) refl has))
    c.answer_lines.ensures.any_moment

pub returns-clause-any_moment : goal.returns-clause-any_moment
returns-clause-any_moment g c origin has =
    let read = c.in_ok-lines.field-0 in
    let lines = texts c.as_slice.result.now in
    let b = g.B.Read.remaining c.read_batch.new.reader in
    let same : texts read.lines.items ≡ lines = sym (ap (λ (ls : List (Vec ℕ Global)). texts ls) c.as_slice.ensures.value) in
    put_moments g.D.Device.moment g.D.Device.left_since _ _ (λ o. IsLeftFrom origin o) _ (with_lines lines _) (journal_left origin Open _ _ _ has)
    (journal_left origin read.end _ b c.read_batch.new.part.items (batch_more origin read.end _ _ lines _ _ _ b
    (λ k before taken. subst (λ (ls : List (List ℕ)). WhereKnown k b (λ input rest. IsAfterBatch read.end input rest (before ++ ls) c.read_batch.new.part.items)) same (c.in_ok-lines.ensures.taken k before taken)) refl has))
    c.answer_lines.ensures.any_moment
