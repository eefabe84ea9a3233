use Rattle.std.proofs.Common.{ℕ, List, refl, subst, None, ◌∙◌, arith}
use Rattle.state_service.proofs.Common.{Appends, Appends-kept, live_view, journal_content, fresh, restarted_reached, Due, IsLeftUnder}
use Rattle.state_service.proofs.BeginLemmas.{more_served}
use Rattle.state_service.proofs.ServeLemmas.{saved_where}
use Rattle.state_service.proofs.KeepLemmas.{unchanged, put_moments, joined}
use Rattle.state_service.proofs.CrashLemmas.{origin_of, served_left, put_left, put_no_fewer, put_holds, put_starts, period_leaves}
use Rattle.state_service.proofs.serving.serve_kept.Goals as goal

pub serve_period-requires-clause-reached : goal.serve_period-requires-clause-reached
serve_period-requires-clause-reached g c = restarted_reached c.args.due.kept.start.plant c.args.due.kept.start.saved (live_view c.in-Ok.core) c.in-Ok.ensures.ok

pub returns-in-Err-clause-any_moment : goal.returns-in-Err-clause-any_moment
returns-in-Err-clause-any_moment g c found given known written served =
    unchanged g.D.Device.moment g.D.Device.left_since _ g.D.Device.seen g.D.Device.may_leave (λ o. IsLeftUnder found given known o) (g.met.D.Device.only_now _) c.requires.settled.durable
    (served_left _ _ _ _ _ _ _ _ _ _ _ served)

pub returns-in_err-put_snapshot-clause-any_moment : goal.returns-in_err-put_snapshot-clause-any_moment
returns-in_err-put_snapshot-clause-any_moment g c found given known written served =
    put_moments g.D.Device.moment g.D.Device.left_since _ _ (λ o. IsLeftUnder found given known o) _ (fresh c.args.due.kept.snapshot) (served_left _ _ _ _ _ _ _ _ _ _ _ served)
    (put_left _ _ _ _ _ _ _ _ _ _ _ served _ c.in-Ok.ensures.ok c.requires.says (fresh c.args.due.kept.snapshot) refl) c.put_snapshot.ensures.any_moment

pub returns-in_err-write_all-clause-any_moment : goal.returns-in_err-write_all-clause-any_moment
returns-in_err-write_all-clause-any_moment g c found given known written served =
    put_moments g.D.Device.moment g.D.Device.left_since _ _ (λ o. IsLeftUnder found given known o) _ (fresh c.args.due.kept.snapshot) (served_left _ _ _ _ _ _ _ _ _ _ _ served)
    (put_left _ _ _ _ _ _ _ _ _ _ _ served _ c.in-Ok.ensures.ok c.requires.says (fresh c.args.due.kept.snapshot) refl) c.put_snapshot.ensures.any_moment

pub returns-in_err-flush-clause-any_moment : goal.returns-in_err-flush-clause-any_moment
returns-in_err-flush-clause-any_moment g c found given known written served =
    put_moments g.D.Device.moment g.D.Device.left_since _ _ (λ o. IsLeftUnder found given known o) _ (fresh c.args.due.kept.snapshot) (served_left _ _ _ _ _ _ _ _ _ _ _ served)
    (put_left _ _ _ _ _ _ _ _ _ _ _ served _ c.in-Ok.ensures.ok c.requires.says (fresh c.args.due.kept.snapshot) refl) c.put_snapshot.ensures.any_moment

pub returns-in_err-end-clause-any_moment : goal.returns-in_err-end-clause-any_moment
returns-in_err-end-clause-any_moment g c found given known written served =
    joined g.D.Device.moment g.D.Device.left_since _ c.put_snapshot.new.journal.device _ (λ d. IsLeftUnder found given known (journal_content d))
    (put_moments g.D.Device.moment g.D.Device.left_since _ _ (λ o. IsLeftUnder found given known o) _ (fresh c.args.due.kept.snapshot) (served_left _ _ _ _ _ _ _ _ _ _ _ served)
    (put_left _ _ _ _ _ _ _ _ _ _ _ served _ c.in-Ok.ensures.ok c.requires.says (fresh c.args.due.kept.snapshot) refl) c.put_snapshot.ensures.any_moment)
    (period_leaves g.D.Device.moment g.D.Device.left_since _ _ found _ given _ (live_view c.in-Ok.core) known _ served.loses_none.least served.loses_none.had
    (put_no_fewer _ _ _ _ _ _ _ _ _ _ _ served _ c.in-Ok.ensures.ok c.requires.says _ c.in_ok-put_snapshot.ensures.acknowledged.1)
    (put_starts _ _ _ _ _ _ _ _ _ _ _ served _ c.in-Ok.ensures.ok c.requires.says _ c.in_ok-put_snapshot.ensures.acknowledged.1) c.serve_period.ensures.any_moment)

pub returns-clause-any_moment : goal.returns-clause-any_moment
returns-clause-any_moment g c found given known written served =
    joined g.D.Device.moment g.D.Device.left_since _ c.put_snapshot.new.journal.device _ (λ d. IsLeftUnder found given known (journal_content d))
    (put_moments g.D.Device.moment g.D.Device.left_since _ _ (λ o. IsLeftUnder found given known o) _ (fresh c.args.due.kept.snapshot) (served_left _ _ _ _ _ _ _ _ _ _ _ served)
    (put_left _ _ _ _ _ _ _ _ _ _ _ served _ c.in-Ok.ensures.ok c.requires.says (fresh c.args.due.kept.snapshot) refl) c.put_snapshot.ensures.any_moment)
    (period_leaves g.D.Device.moment g.D.Device.left_since _ _ found _ given _ (live_view c.in-Ok.core) known _ served.loses_none.least served.loses_none.had
    (put_no_fewer _ _ _ _ _ _ _ _ _ _ _ served _ c.in-Ok.ensures.ok c.requires.says _ c.in_ok-put_snapshot.ensures.acknowledged.1)
    (put_starts _ _ _ _ _ _ _ _ _ _ _ served _ c.in-Ok.ensures.ok c.requires.says _ c.in_ok-put_snapshot.ensures.acknowledged.1) c.serve_period.ensures.any_moment)

pub returns-clause-on : goal.returns-clause-on
returns-clause-on g c found given known written served =
    let w1 = g.W.Write.contents c.args.writer.now in
    let w2 = g.W.Write.contents c.flush.new.self in
    let w = g.W.Write.contents c.write_all.new.self in
    let wrote = Appends-kept w1 w w2 c.args.due.answer.items (subst (λ (bytes : List ℕ). Appends w1 w bytes) c.as_slice.ensures.value c.in_ok-write_all.ensures.bytes) c.flush.ensures.bytes in
    let restarted = c.in-Ok.ensures.ok in
    let later = c.serve_period.new.service in
    let is = c.in_ok-put_snapshot.ensures.acknowledged.1 in
    let least = served.loses_none.least in
    let has = put_no_fewer _ _ _ _ _ _ _ _ _ _ _ served _ restarted c.requires.says _ is in
    let left = c.in_ok-end.ensures.left (origin_of found given (live_view c.in-Ok.core) 0 least None) (record { no_fewer = has; holds = tt }) in
    record {
      live = live_view later.core;
      same_file = c.serve_period.ensures.same_file ∙ served.same_file;
      due = c.in_ok-end.ensures.says;
      leads = c.in_ok-end.ensures.leads (c.args.due.kept.start.plant, c.in_ok-put_snapshot.ensures.leads _ _ c.requires.says restarted.reached);
      serves = more_served found _ _ _ given _ _ (Due c.args.due) c.in_ok-end.end served.live (live_view later.core) c.args.count later.count least known _ _ written w1 _
          (λ start count was so_far. c.in_ok-end.ensures.on given start count known was served.same_file (saved_where given start count _ known _ was c.args.due _ _ w1 w2 restarted wrote so_far))
          c.in_ok-end.ensures.left has (put_holds _ _ _ _ _ _ _ _ _ _ _ served _ restarted c.requires.says _ is) served.serves;
      loses_none = record { least = least; had = served.loses_none.had; has = left.no_fewer };
      enough = omega (arith, served.enough, c.in_ok-end.ensures.count);
    }
