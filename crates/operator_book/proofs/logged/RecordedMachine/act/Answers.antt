use Rattle.std.proofs.Common.{sym, ap, subst, ◌∙◌}
use Rattle.operator_book.proofs.Common.{IsAllowed, BookView, operator_of_book, HeldBook}
use Rattle.operator_book.proofs.Replays.{replay_push, recorded_is}
use Rattle.operator_model.specs.Machine.{own_step}
use Rattle.operator_model.specs.Replay.{book_after_action}
use Rattle.operator_book.proofs.logged.RecordedMachine.act.Goals as goal

pub invariant_of-self-2 : goal.invariant_of-self-2
invariant_of-self-2 g c =
    rw (c.in_ok-outputs.ensures.state, c.push.ensures, c.make_room.ensures.entries, c.in_ok-recorded.ensures)
    record {
      valid = c.self.invariant.valid;
      some = c.self.invariant.some;
      replay = replay_push _ _ _ _ _ _ c.self.invariant.replay
          (subst (λ (b : BookView). IsAllowed (operator_of_book b) c.args.action) (sym (ap (λ (held : HeldBook). held.book) c.self.view_is)) c.requires.allowed)
          c.in_ok-plan.ensures.state
          (c.from_vec.ensures ∙ (c.in_ok-copies.ensures ∙ (c.outputs.ensures ∙ c.in_ok-plan.ensures.outputs)));
    }

pub returns-clause-state : goal.returns-clause-state
returns-clause-state g c =
    rw (c.in_ok-outputs.ensures.state, c.push.ensures, c.make_room.ensures.entries, c.in_ok-recorded.ensures)
    (recorded_is
    record {
      row = c.self.inside.machine.row;
      consts = c.self.inside.machine.consts;
      state = c.self.inside.machine.state;
      history = c.self.inside.history.entries;
    }
    c.args.action _ _ c.in_ok-plan.ensures.state
    (c.from_vec.ensures ∙ (c.in_ok-copies.ensures ∙ (c.outputs.ensures ∙ c.in_ok-plan.ensures.outputs)))
    ∙ ap (λ (held : HeldBook). book_after_action held.book c.args.action) c.self.view_is)

pub returns-clause-outputs : goal.returns-clause-outputs
returns-clause-outputs g c =
    c.in_ok-outputs.ensures.outputs ∙ (c.in_ok-plan.ensures.outputs
    ∙ ap (λ (held : HeldBook). (own_step (operator_of_book held.book) c.args.action).outputs) c.self.view_is)
