use Rattle.std.proofs.Common.{inl, ℕ, ◌+◌, ◌≤◌, List, Vec, length, subst}
use Rattle.state_service.proofs.Common.{Global, live_view, journal_content, HasNoFewer, IsLeftUnder}
use Rattle.state_service.proofs.KeepLemmas.{unchanged, stands_has}
use Rattle.state_service.proofs.CrashLemmas.{found_left}
use Rattle.state_service.proofs.serving.serve_first.Goals as goal

pub returns-in-Err-clause-any_moment : goal.returns-in-Err-clause-any_moment
returns-in-Err-clause-any_moment g c =
    let content = journal_content (g.D.Device.seen c.args.journal.now.device) in
    let known = g.B.Read.remaining c.args.reader.now in
    unchanged g.D.Device.moment g.D.Device.left_since _ g.D.Device.seen g.D.Device.may_leave (λ o. IsLeftUnder content c.args.given.file.items known o) (g.met.D.Device.only_now _) c.requires.settled.durable
    (found_left content _ known _ (stands_has content _ _ _ c.args.state.lines.items c.requires.found))

pub returns-clause-on : goal.returns-clause-on
returns-clause-on g c =
    let state = c.args.state in
    let started = c.in_ok-service.ensures in
    let service = c.in_ok-service.field-0.service in
    let same = c.as_slice.ensures.value in
    record {
      live = live_view service.core;
      same_file = started.same_file;
      due = started.says;
      leads = started.leads;
      serves = started.on;
      loses_none = record {
        least = state.start.count + length state.lines.items;
        had = inl (stands_has (journal_content (g.D.Device.seen c.args.journal.now.device)) _ _ _ state.lines.items c.requires.found);
        has = subst (λ (ls : List (Vec ℕ Global)). HasNoFewer (state.start.count + length ls) (journal_content (g.D.Device.seen c.start_service.new.journal.device))) same started.no_fewer;
      };
      enough = subst (λ (ls : List (Vec ℕ Global)). state.start.count + length ls ≤ service.count) same started.count;
    }
