use Rattle.plant_core.proofs.LiveLemmas.Common.{slot_book, slot_waiting, went}
use Rattle.plant_core.proofs.LiveLemmas.GiveLemmas.{HaveTakenSoFar}
use Rattle.operator_model.specs.declared.action.Action.TheVariants as actions
use Rattle.plant_core.proofs.live.giving.give.Given as goal

abbrev pub invariant-loop-op : goal.invariant-loop-op
invariant-loop-op l = HaveTakenSoFar slot_book slot_waiting (λ b row. went b (actions.Reslice l.from row)) l.rows l.initial.desks.items l.desks.items l.op
