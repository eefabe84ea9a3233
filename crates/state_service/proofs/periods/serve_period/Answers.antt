use Rattle.std.proofs.Common.{rules, Option, IfErr, refl, subst, ◌∙◌, arith, le_trans, le_refl}
use Rattle.state_service.proofs.Common.{live_view, WhereKnown, journal_content, PeriodEnd, IsInPeriod, LeadsUnlessDue, Open, IsJournalInPeriod, IsLeftFrom, IsServingFault}
use Rattle.state_service.proofs.KeepLemmas.{unchanged, joined}
use Rattle.state_service.proofs.ServeLemmas.{none_if}
use Rattle.state_service.proofs.CrashLemmas.{journal_left}
use Rattle.state_service.proofs.ServiceFaultLemmas.{if_err, later_fault}
use Rattle.state_service.proofs.periods.serve_period.Goals as goal

pub returns-in_err-end-clause-any_moment : goal.returns-in_err-end-clause-any_moment
returns-in_err-end-clause-any_moment g c origin has =
    joined g.D.Device.moment g.D.Device.left_since c.args.journal.now.device c.loop.journal.device c.serve_lines.new.journal.device
    (λ d. IsLeftFrom origin (journal_content d)) (c.loop.invariant.any_moment origin has) (c.serve_lines.ensures.any_moment origin (c.loop.invariant.holds origin has))

pub returns-in-Some-clause-any_moment : goal.returns-in-Some-clause-any_moment
returns-in-Some-clause-any_moment g c origin has =
    joined g.D.Device.moment g.D.Device.left_since c.args.journal.now.device c.loop.journal.device c.serve_lines.new.journal.device
    (λ d. IsLeftFrom origin (journal_content d)) (c.loop.invariant.any_moment origin has) (c.serve_lines.ensures.any_moment origin (c.loop.invariant.holds origin has))

pub returns-in_err-end-2-clause-any_moment : goal.returns-in_err-end-2-clause-any_moment
returns-in_err-end-2-clause-any_moment g c origin has =
    joined g.D.Device.moment g.D.Device.left_since c.args.journal.now.device c.loop.journal.device c.serve_lines.new.journal.device
    (λ d. IsLeftFrom origin (journal_content d)) (c.loop.invariant.any_moment origin has) (c.serve_lines.ensures.any_moment origin (c.loop.invariant.holds origin has))

pub returns-in-Some-2-clause-any_moment : goal.returns-in-Some-2-clause-any_moment
returns-in-Some-2-clause-any_moment g c origin has =
    joined g.D.Device.moment g.D.Device.left_since c.args.journal.now.device c.loop.journal.device c.serve_lines.new.journal.device
    (λ d. IsLeftFrom origin (journal_content d)) (c.loop.invariant.any_moment origin has) (c.serve_lines.ensures.any_moment origin (c.loop.invariant.holds origin has))

pub returns-in-Some-clause-left : goal.returns-in-Some-clause-left
returns-in-Some-clause-left g c origin has =
    subst (λ (o : Option PeriodEnd). IsJournalInPeriod o origin (journal_content (g.D.Device.seen c.serve_lines.new.journal.device)) (g.B.Read.remaining c.serve_lines.new.reader) c.serve_lines.new.part.items) c.in-Some.is
    (c.in_ok-end.ensures.holds origin (c.loop.invariant.holds origin has))

pub returns-in-Some-2-clause-left : goal.returns-in-Some-2-clause-left
returns-in-Some-2-clause-left g c origin has =
    let content = journal_content (g.D.Device.seen c.serve_lines.new.journal.device) in
    let left = g.B.Read.remaining c.serve_lines.new.reader in
    let part = c.serve_lines.new.part.items in
    journal_left origin Open content left part
    (subst (λ (o : Option PeriodEnd). IsJournalInPeriod o origin content left part) (none_if c.in_ok-end.field-0 c.in_default.not-Some) (c.in_ok-end.ensures.holds origin (c.loop.invariant.holds origin has)))

pub returns-in-Some-clause-on : goal.returns-in-Some-clause-on
returns-in-Some-clause-on g c file first count known written same so_far =
    let new = c.serve_lines.new.service in
    subst (λ (o : Option PeriodEnd). WhereKnown known (g.B.Read.remaining c.serve_lines.new.reader)
    (λ input rest. IsInPeriod o file first count input rest c.serve_lines.new.part.items (live_view new.core) new.count written (g.W.Write.contents c.serve_lines.new.writer))) c.in-Some.is
    (c.in_ok-end.ensures.on file first count known written (c.loop.invariant.same_file ∙ same) (c.loop.invariant.on file first count known written same so_far))

pub returns-in-Some-2-clause-on : goal.returns-in-Some-2-clause-on
returns-in-Some-2-clause-on g c file first count known written same so_far =
    let new = c.serve_lines.new.service in
    let part = c.serve_lines.new.part.items in
    let left = g.B.Read.remaining c.serve_lines.new.reader in
    let now = g.W.Write.contents c.serve_lines.new.writer in
    let none = none_if c.in_ok-end.field-0 c.in_default.not-Some in
    subst (λ (o : Option PeriodEnd). WhereKnown known left (λ input rest. IsInPeriod o file first count input rest part (live_view new.core) new.count written now)) c.in-Some-2.is
    (c.in_ok-end-2.ensures.on file first count known left written now part (c.serve_lines.ensures.same_file ∙ (c.loop.invariant.same_file ∙ same))
    (subst (λ (o : Option PeriodEnd). WhereKnown known left (λ input rest. IsInPeriod o file first count input rest part (live_view new.core) new.count written now)) none
    (c.in_ok-end.ensures.on file first count known written (c.loop.invariant.same_file ∙ same) (c.loop.invariant.on file first count known written same so_far))))

pub loop-preserved-then-saturating_sub-period : goal.loop-preserved-then-saturating_sub-period
loop-preserved-then-saturating_sub-period g c =
    let new = c.serve_lines.new.service in
    let content = journal_content (g.D.Device.seen c.serve_lines.new.journal.device) in
    let none = none_if c.in_ok-end.field-0 c.in_default.not-Some in
    record {
      settled = c.in_ok-end.ensures.settled;
      reached = c.in_ok-end.ensures.reached;
      count = omega (arith, c.loop.invariant.count, c.in_ok-end.ensures.count);
      same_file = c.serve_lines.ensures.same_file ∙ c.loop.invariant.same_file;
      leads = λ led. subst (λ (o : Option PeriodEnd). LeadsUnlessDue o content (live_view new.core) new.count) none (c.in_ok-end.ensures.leads (c.loop.invariant.leads led));
      on = λ file first count known written same so_far.
          subst (λ (o : Option PeriodEnd). WhereKnown known (g.B.Read.remaining c.serve_lines.new.reader)
          (λ input rest. IsInPeriod o file first count input rest c.serve_lines.new.part.items (live_view new.core) new.count written (g.W.Write.contents c.serve_lines.new.writer))) none
          (c.in_ok-end.ensures.on file first count known written (c.loop.invariant.same_file ∙ same) (c.loop.invariant.on file first count known written same so_far));
      holds = λ origin has.
          subst (λ (o : Option PeriodEnd). IsJournalInPeriod o origin content (g.B.Read.remaining c.serve_lines.new.reader) c.serve_lines.new.part.items) none
          (c.in_ok-end.ensures.holds origin (c.loop.invariant.holds origin has));
      any_moment = λ origin has.
          joined g.D.Device.moment g.D.Device.left_since c.args.journal.now.device c.loop.journal.device c.serve_lines.new.journal.device
          (λ d. IsLeftFrom origin (journal_content d)) (c.loop.invariant.any_moment origin has) (c.serve_lines.ensures.any_moment origin (c.loop.invariant.holds origin has));
      counted = le_trans c.loop.invariant.counted c.serve_lines.ensures.counted;
    }

pub loop-preserved : goal.loop-preserved
loop-preserved g c =
    let new = c.serve_lines.new.service in
    let content = journal_content (g.D.Device.seen c.serve_lines.new.journal.device) in
    let none = none_if c.in_ok-end.field-0 c.in_default.not-Some in
    record {
      settled = c.in_ok-end.ensures.settled;
      reached = c.in_ok-end.ensures.reached;
      count = omega (arith, c.loop.invariant.count, c.in_ok-end.ensures.count);
      same_file = c.serve_lines.ensures.same_file ∙ c.loop.invariant.same_file;
      leads = λ led. subst (λ (o : Option PeriodEnd). LeadsUnlessDue o content (live_view new.core) new.count) none (c.in_ok-end.ensures.leads (c.loop.invariant.leads led));
      on = λ file first count known written same so_far.
          subst (λ (o : Option PeriodEnd). WhereKnown known (g.B.Read.remaining c.serve_lines.new.reader)
          (λ input rest. IsInPeriod o file first count input rest c.serve_lines.new.part.items (live_view new.core) new.count written (g.W.Write.contents c.serve_lines.new.writer))) none
          (c.in_ok-end.ensures.on file first count known written (c.loop.invariant.same_file ∙ same) (c.loop.invariant.on file first count known written same so_far));
      holds = λ origin has.
          subst (λ (o : Option PeriodEnd). IsJournalInPeriod o origin content (g.B.Read.remaining c.serve_lines.new.reader) c.serve_lines.new.part.items) none
          (c.in_ok-end.ensures.holds origin (c.loop.invariant.holds origin has));
      any_moment = λ origin has.
          joined g.D.Device.moment g.D.Device.left_since c.args.journal.now.device c.loop.journal.device c.serve_lines.new.journal.device
          (λ d. IsLeftFrom origin (journal_content d)) (c.loop.invariant.any_moment origin has) (c.serve_lines.ensures.any_moment origin (c.loop.invariant.holds origin has));
      counted = le_trans c.loop.invariant.counted c.serve_lines.ensures.counted;
    }

pub loop-init : goal.loop-init
loop-init g c = record {
  settled = c.requires.settled;
  reached = c.requires.reached;
  count = omega arith;
  same_file = refl;
  leads = λ led. led;
  on = λ file first count known written same so_far. so_far;
  holds = λ origin has. has;
  any_moment = λ origin has.
      unchanged g.D.Device.moment g.D.Device.left_since c.args.journal.now.device g.D.Device.seen g.D.Device.may_leave (λ o. IsLeftFrom origin o) (g.met.D.Device.only_now c.args.journal.now.device)
      c.requires.settled.durable (journal_left origin Open _ _ _ has);
  counted = le_refl (g.D.Device.faults c.args.journal.now.device);
}

pub returns-in_err-end-clause-counted : goal.returns-in_err-end-clause-counted
returns-in_err-end-clause-counted g c = le_trans c.loop.invariant.counted c.serve_lines.ensures.counted

pub returns-in-Some-clause-counted : goal.returns-in-Some-clause-counted
returns-in-Some-clause-counted g c = le_trans c.loop.invariant.counted c.serve_lines.ensures.counted

pub returns-in_err-end-2-clause-counted : goal.returns-in_err-end-2-clause-counted
returns-in_err-end-2-clause-counted g c = le_trans c.loop.invariant.counted c.serve_lines.ensures.counted

pub returns-in-Some-2-clause-counted : goal.returns-in-Some-2-clause-counted
returns-in-Some-2-clause-counted g c = le_trans c.loop.invariant.counted c.serve_lines.ensures.counted

pub returns-in_err-end-clause-fault : goal.returns-in_err-end-clause-fault
returns-in_err-end-clause-fault g c =
    let mid = g.D.Device.faults c.loop.journal.device in
    let new = g.D.Device.faults c.serve_lines.new.journal.device in
    let inner : IfErr c.from_residual.result (IsServingFault mid new) = search rules in
    if_err c.from_residual.result _ _ (λ e is. later_fault mid new (g.D.Device.faults c.args.journal.now.device) new e c.loop.invariant.counted (le_refl new) is) inner
