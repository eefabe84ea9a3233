use Rattle.std.proofs.Common.{sym, ap, subst, ◌∙◌}
use Rattle.operator_model.specs.declared.action.Action.TheVariants as actions
use Rattle.operator_book.proofs.Common.{IsAllowed, StepResult, BookView, operator_of_book, HeldBook}
use Rattle.operator_book.proofs.Replays.{replay_push, resliced_is, reslice_allowed}
use Rattle.operator_book.proofs.logged.RecordedMachine.reslice.Goals as goal

pub invariant_of-self : goal.invariant_of-self
invariant_of-self c =
    rw (c.reslice.ensures, c.push.ensures)
    record {
      valid = c.self.invariant.valid;
      some = c.self.invariant.some;
      replay = replay_push _ _ _ _ _ _ c.self.invariant.replay
          (subst (λ (b : BookView). IsAllowed (operator_of_book b) (actions.Reslice c.args.from c.args.row)) (sym (ap (λ (held : HeldBook). held.book) c.self.view_is))
          (reslice_allowed (operator_of_book c.args.self.now.book) c.args.from c.args.row c.requires.fit))
          (ap (λ (r : StepResult). r.state) (sym (resliced_is c.self.inside.machine c.args.from c.args.row)))
          (c.new.ensures ∙ ap (λ (r : StepResult). r.outputs) (sym (resliced_is c.self.inside.machine c.args.from c.args.row)));
    }
