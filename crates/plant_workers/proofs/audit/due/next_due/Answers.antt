use Rattle.plant_workers.proofs.AuditLemmas.Common.{frames_in, waiting_in, numbered_frame}
use Rattle.plant_workers.proofs.AuditLemmas.Dues.{none_due, next_is}
use Rattle.plant_workers.proofs.audit.due.next_due.Goals as goal

pub returns-then-given-due : goal.returns-then-given-due
returns-then-given-due c = record {
  next = next_is (frames_in c.args.history.now) (waiting_in c.args.history.now c.args.from) c.args.due c.args.given c.if-given-due.true c.requires.place c.next_frame.result (λ next. numbered_frame next.1) (λ next. waiting_in c.args.history.now next.0)
      c.next_frame.ensures;
  room = λ _. c.if-given-due.true;
}

pub returns-else-given-due-clause-next : goal.returns-else-given-due-clause-next
returns-else-given-due-clause-next c = none_due (frames_in c.args.history.now) (waiting_in c.args.history.now c.args.from) c.args.due c.args.given c.if-given-due.false
