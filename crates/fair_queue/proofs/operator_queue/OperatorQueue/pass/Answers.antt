use Rattle.std.proofs.Common.{◌≡◌, ◌∙◌, subst, sym, refl, arith}
use Rattle.fair_queue.specs.Items.{QueueView, MayChoose}
use Rattle.fair_queue.proofs.ItemLemmas.{same_bytes, same_count, passed, count_few}
use Rattle.fair_queue.proofs.operator_queue.OperatorQueue.pass.Goals as goal

pub invariant_of-self : goal.invariant_of-self
invariant_of-self c = (
  c.self.invariant.0 ∙ sym (same_bytes c.args.is_tick c.self.inside.items.items c.remove_mark.new.items.items c.remove_mark.ensures),
  c.self.invariant.1,
  rw c.count_after-self-inside.ensures (count_few c.args.is_tick c.self.inside.chosen c.self.inside.limit c.self.invariant.2),
  c.self.invariant.3 ∙ sym (same_count c.args.is_tick c.self.inside.items.items c.remove_mark.new.items.items c.remove_mark.ensures),
  c.self.invariant.4,
)

pub returns : goal.returns
returns c =
    rw (← c.self.view_is) (passed c.args.is_tick _ _ (subst (λ (q : QueueView). MayChoose q → ⊥) (sym c.self.view_is) c.requires.none) c.remove_mark.ensures (rw c.count_after-self-inside.ensures refl))
