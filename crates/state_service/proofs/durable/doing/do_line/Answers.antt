use Rattle.std.proofs.Common.{◌∙◌, ap, List, ℕ, length, drop, nat_eq, ◌-◌}
use Rattle.state_service.proofs.DurableLemmas.Common.{pointwise, live_view}
use Rattle.state_service.proofs.DurableLemmas.DoneLemmas.{enough_memory, out_of_memory}
use Rattle.state_service.proofs.DurableLemmas.LeadLemmas.{line_reached}
use Rattle.state_service.proofs.durable.doing.do_line.Goals as goal

pub returns-clause-done : goal.returns-clause-done
returns-clause-done c plant start before shown after =
    let is = c.in-Ok.ensures plant start before shown after in
    let found = c.ends_with.ensures.value ∙ ap (λ (l : List ℕ). pointwise nat_eq out_of_memory (drop (length l - length out_of_memory) l)) c.deref.ensures.value in
    record {
      answered = is.answered;
      is = is.is;
      enough = enough_memory plant c.args.number c.args.text.now.items c.answer_line.new.writer.items is.answered c.ends_with.result is.written found c.if-ends_with.false;
      added = is.written;
    }

pub returns-clause-reached : goal.returns-clause-reached
returns-clause-reached c =
    line_reached (live_view c.args.core.now) (live_view c.answer_line.new.core) c.args.number c.args.line.now c.args.text.now.items c.answer_line.new.writer.items c.requires.reached (returns-clause-done c)
