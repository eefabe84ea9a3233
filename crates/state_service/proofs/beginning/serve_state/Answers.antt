use Rattle.std.proofs.Common.{◌≡◌, ℕ, List, Option, IfSome, refl, ap, subst, ◌∙◌, le_refl}
use Rattle.state_service.proofs.Common.{reader_remaining, if_ok, LeavesOnly, journal_content, IsFoundIn, IsServiceOn, IsUnharmed, IsLeftUnder, IsLeftByOpening}
use Rattle.state_service.proofs.BeginLemmas.{given_serves, unharmed_from, unread_same, opening_unharmed, still_named, opening_named, service_named}
use Rattle.state_service.proofs.KeepLemmas.{weaker, joined, unchanged}
use Rattle.state_service.proofs.ServiceFaultLemmas.{if_err, start_fault}
use Rattle.state_service.proofs.beginning.serve_state.Goals as goal

pub returns-clause-served : goal.returns-clause-served
returns-clause-served g c =
    let bytes = g.D.Device.seen c.args.journal.now.device in
    let found = journal_content (g.D.Device.seen c.open_state.new.device) in
    let content = journal_content (g.D.Device.seen c.serve_restored.new.journal.device) in
    let file = c.in_ok-given.given.file.items in
    let rest = g.R.Read.remaining c.read_given.new.reader in
    let old = g.W.Write.contents c.args.writer.now in
    let new = g.W.Write.contents c.serve_restored.new.writer in
    let lines = c.in_ok-lines.lines in
    let same : reader_remaining (λ (r : _). g.R.Read.remaining r.now) lines ≡ rest =
    unread_same (λ (r : _). g.R.Read.remaining r.now) lines c.in_ok-lines.ensures.empty c.in_ok-lines.ensures.capacity ∙ ap (λ (r : _). g.R.Read.remaining r.now) c.in_ok-lines.ensures.inner in
    let is_found = subst (λ (f : List ℕ). IsFoundIn bytes f found) c.as_slice.ensures.value c.in_ok-state.ensures.is_found in
    if_ok c.serve_restored.result _ _
    (λ x served.
    given_serves (g.R.Read.remaining c.args.reader.now) rest file bytes found content old new c.in_ok-given.ensures.file c.in_ok-given.ensures.lines is_found
    (subst (λ (o : Option (List ℕ)). IfSome o (λ input. IsServiceOn found file input content old new)) same served))
    c.serve_restored.ensures.served

pub returns-in_err-state-clause-any_moment : goal.returns-in_err-state-clause-any_moment
returns-in_err-state-clause-any_moment g c =
    let seen = g.D.Device.seen c.args.journal.now.device in
    let opening = subst (λ (f : List ℕ). LeavesOnly g.D.Device.moment g.D.Device.left_since c.args.journal.now.device c.open_state.new.device (λ d. IsLeftByOpening seen f (journal_content d))) c.as_slice.ensures.value c.open_state.ensures.any_moment in
    weaker g.D.Device.moment g.D.Device.left_since _ _ _ (λ d. IsUnharmed seen (journal_content d)) opening (λ d here. opening_unharmed seen c.in_ok-given.given.file.items (journal_content d) here)

pub returns-in_err-state-clause-named : goal.returns-in_err-state-clause-named
returns-in_err-state-clause-named g c =
    let seen = g.D.Device.seen c.args.journal.now.device in
    let opening = subst (λ (f : List ℕ). LeavesOnly g.D.Device.moment g.D.Device.left_since c.args.journal.now.device c.open_state.new.device (λ d. IsLeftByOpening seen f (journal_content d))) c.as_slice.ensures.value c.open_state.ensures.any_moment in
    opening_named g.D.Device.moment g.D.Device.left_since seen (g.R.Read.remaining c.args.reader.now) _ _ _ c.in_ok-given.ensures.file opening

pub returns-in_err-given-clause-named : goal.returns-in_err-given-clause-named
returns-in_err-given-clause-named g c =
    let seen = g.D.Device.seen c.args.journal.now.device in
    still_named g.D.Device.moment g.D.Device.left_since seen (g.R.Read.remaining c.args.reader.now) _
    (unchanged g.D.Device.moment g.D.Device.left_since _ g.D.Device.seen g.D.Device.may_leave (λ o. o ≡ journal_content seen) (g.met.D.Device.only_now _) c.requires refl)

pub returns-in_err-lines-clause-named : goal.returns-in_err-lines-clause-named
returns-in_err-lines-clause-named g c =
    let seen = g.D.Device.seen c.args.journal.now.device in
    still_named g.D.Device.moment g.D.Device.left_since seen (g.R.Read.remaining c.args.reader.now) _
    (unchanged g.D.Device.moment g.D.Device.left_since _ g.D.Device.seen g.D.Device.may_leave (λ o. o ≡ journal_content seen) (g.met.D.Device.only_now _) c.requires refl)

pub returns-clause-any_moment : goal.returns-clause-any_moment
returns-clause-any_moment g c =
    let seen = g.D.Device.seen c.args.journal.now.device in
    let opening = subst (λ (f : List ℕ). LeavesOnly g.D.Device.moment g.D.Device.left_since c.args.journal.now.device c.open_state.new.device (λ d. IsLeftByOpening seen f (journal_content d))) c.as_slice.ensures.value c.open_state.ensures.any_moment in
    let found = journal_content (g.D.Device.seen c.open_state.new.device) in
    let is_found = subst (λ (f : List ℕ). IsFoundIn seen f found) c.as_slice.ensures.value c.in_ok-state.ensures.is_found in
    joined g.D.Device.moment g.D.Device.left_since _ c.open_state.new.device _ (λ d. IsUnharmed seen (journal_content d))
    (weaker g.D.Device.moment g.D.Device.left_since _ _ _ (λ d. IsUnharmed seen (journal_content d)) opening (λ d here. opening_unharmed seen c.in_ok-given.given.file.items (journal_content d) here))
    (weaker g.D.Device.moment g.D.Device.left_since _ _ _ (λ d. IsUnharmed seen (journal_content d)) c.serve_restored.ensures.any_moment
    (λ d under. unharmed_from seen c.in_ok-given.given.file.items found (journal_content d) is_found under.loses_none))

pub returns-clause-named : goal.returns-clause-named
returns-clause-named g c =
    let seen = g.D.Device.seen c.args.journal.now.device in
    let opening = subst (λ (f : List ℕ). LeavesOnly g.D.Device.moment g.D.Device.left_since c.args.journal.now.device c.open_state.new.device (λ d. IsLeftByOpening seen f (journal_content d))) c.as_slice.ensures.value c.open_state.ensures.any_moment in
    let found = journal_content (g.D.Device.seen c.open_state.new.device) in
    let is_found = subst (λ (f : List ℕ). IsFoundIn seen f found) c.as_slice.ensures.value c.in_ok-state.ensures.is_found in
    let rest = g.R.Read.remaining c.read_given.new.reader in
    let lines = c.in_ok-lines.lines in
    let same : reader_remaining (λ (r : _). g.R.Read.remaining r.now) lines ≡ rest =
    unread_same (λ (r : _). g.R.Read.remaining r.now) lines c.in_ok-lines.ensures.empty c.in_ok-lines.ensures.capacity ∙ ap (λ (r : _). g.R.Read.remaining r.now) c.in_ok-lines.ensures.inner in
    service_named g.D.Device.moment g.D.Device.left_since seen (g.R.Read.remaining c.args.reader.now) rest _ c.open_state.new.device c.serve_restored.new.journal.device c.in_ok-given.given.file.items found c.in_ok-given.ensures.file c.in_ok-given.ensures.lines is_found opening
    (subst (λ (o : Option (List ℕ)). LeavesOnly g.D.Device.moment g.D.Device.left_since c.open_state.new.device c.serve_restored.new.journal.device (λ d. IsLeftUnder found c.in_ok-given.given.file.items o (journal_content d))) same c.serve_restored.ensures.any_moment)

pub returns-clause-fault : goal.returns-clause-fault
returns-clause-fault g c =
    let seen = g.D.Device.seen c.args.journal.now.device in
    let found = journal_content (g.D.Device.seen c.open_state.new.device) in
    let is_found = subst (λ (f : List ℕ). IsFoundIn seen f found) c.as_slice.ensures.value c.in_ok-state.ensures.is_found in
    let new = g.D.Device.faults c.serve_restored.new.journal.device in
    if_err c.serve_restored.result _ _
    (λ e is. start_fault (g.R.Read.remaining c.args.reader.now) seen c.in_ok-given.given.file.items found _ new _ new e c.in_ok-given.ensures.file is_found c.open_state.ensures.counted (le_refl new) is)
    c.serve_restored.ensures.fault
