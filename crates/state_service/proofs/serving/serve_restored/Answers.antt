use Rattle.std.proofs.Common.{rules, IfErr, subst, le_trans, le_refl}
use Rattle.state_service.proofs.Common.{journal_content, PeriodEnd, IsServedUpTo, IsLeftUnder, IsServingFault}
use Rattle.state_service.proofs.BeginLemmas.{all_served, ended_leads}
use Rattle.state_service.proofs.KeepLemmas.{joined}
use Rattle.state_service.proofs.ServiceFaultLemmas.{if_err, later_fault, serving_start}
use Rattle.state_service.proofs.serving.serve_restored.Goals as goal

pub returns-in-Ended-clause-served : goal.returns-in-Ended-clause-served
returns-in-Ended-clause-served g c =
    let served = c.loop.served in
    let on = c.loop.invariant.on in
    let new = journal_content (g.D.Device.seen c.loop.journal.device) in
    all_served (journal_content (g.D.Device.seen c.args.journal.now.device)) new c.args.given.file.items c.loop.part.items served.end on.live served.count
    (g.B.Read.remaining c.args.reader.now) (g.B.Read.remaining c.loop.reader) (g.W.Write.contents c.args.writer.now) (g.W.Write.contents c.loop.writer) c.in-Ended.is
    (ended_leads served.end new on.live served.count c.in-Ended.is on.leads) on.serves

pub returns-in_err-served-2-clause-any_moment : goal.returns-in_err-served-2-clause-any_moment
returns-in_err-served-2-clause-any_moment g c =
    let old = c.args.journal.now.device in
    let mid = c.loop.journal.device in
    let new = c.serve_kept.new.journal.device in
    let served = c.loop.served in
    let found = journal_content (g.D.Device.seen old) in
    let given = c.args.given.file.items in
    let known = g.B.Read.remaining c.args.reader.now in
    let w0 = g.W.Write.contents c.args.writer.now in
    let on =
    subst (λ (e : PeriodEnd). IsServedUpTo found (journal_content (g.D.Device.seen mid)) given served.file served.count e c.loop.part.items known (g.B.Read.remaining c.loop.reader) w0 (g.W.Write.contents c.loop.writer))
    c.in-Due.is c.loop.invariant.on in
    joined g.D.Device.moment g.D.Device.left_since old mid new (λ d. IsLeftUnder found given known (journal_content d)) c.loop.invariant.any_moment (c.serve_kept.ensures.any_moment found given known w0 on)

pub loop-preserved : goal.loop-preserved
loop-preserved g c =
    let old = c.args.journal.now.device in
    let mid = c.loop.journal.device in
    let new = c.serve_kept.new.journal.device in
    let served = c.loop.served in
    let found = journal_content (g.D.Device.seen old) in
    let given = c.args.given.file.items in
    let known = g.B.Read.remaining c.args.reader.now in
    let w0 = g.W.Write.contents c.args.writer.now in
    let on =
    subst (λ (e : PeriodEnd). IsServedUpTo found (journal_content (g.D.Device.seen mid)) given served.file served.count e c.loop.part.items known (g.B.Read.remaining c.loop.reader) w0 (g.W.Write.contents c.loop.writer))
    c.in-Due.is c.loop.invariant.on in
    record {
      settled = c.in_ok-served-2.ensures.settled;
      on = c.in_ok-served-2.ensures.on found given known w0 on;
      any_moment = joined g.D.Device.moment g.D.Device.left_since old mid new (λ d. IsLeftUnder found given known (journal_content d)) c.loop.invariant.any_moment (c.serve_kept.ensures.any_moment found given known w0 on);
      counted = le_trans c.loop.invariant.counted c.serve_kept.ensures.counted;
    }

pub returns-in_err-served-2-clause-counted : goal.returns-in_err-served-2-clause-counted
returns-in_err-served-2-clause-counted g c = le_trans c.loop.invariant.counted c.serve_kept.ensures.counted

pub returns-in_err-served-2-clause-fault : goal.returns-in_err-served-2-clause-fault
returns-in_err-served-2-clause-fault g c =
    let old = g.D.Device.faults c.args.journal.now.device in
    let mid = g.D.Device.faults c.loop.journal.device in
    let new = g.D.Device.faults c.serve_kept.new.journal.device in
    let result = c.from_residual-in_err-served-2.result in
    let inner : IfErr result (IsServingFault mid new) = search rules in
    if_err result _ _
    (λ e is. serving_start (journal_content (g.D.Device.seen c.args.journal.now.device)) c.args.given.file.items old new e (later_fault mid new old new e c.loop.invariant.counted (le_refl new) is)) inner
