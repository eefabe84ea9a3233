-- That work leaves a sound state.
use Rattle.std.proofs.Common.{◌≡◌, Result, Ok, Err, OnOk, OnErr, refl, sym, subst}
use Rattle.operator_book.proofs.Common.{work_result, Operator}
use Rattle.operator_model.specs.declared.action.Action.{Action}
use Rattle.operator_model.specs.declared.action.Action.TheVariants as actions
use Rattle.operator_model.specs.State.{operator}
use Rattle.operator_model.specs.Machine.{own_step, IsAllowed}
use Rattle.operator_model.specs.Sound.{IsSound}

pub worked_sound : {A E : Type 0} (result : Result A E) (op new : Operator) → IsSound op
    → ((o : Operator) (action : Action) → IsSound o → IsAllowed o action → IsSound (operator o.consts o.row (own_step o action).state))
    → OnOk result (new ≡ record op { state = (work_result op op.state.inbox).state }) → OnErr result (new ≡ op) → IsSound new
unfolding own_step
worked_sound (Ok x) op new sound keeps is same = subst IsSound (sym is) (keeps op actions.Work sound (record { mine = refl; not_spent = refl; fit = refl }))
worked_sound (Err e) op new sound keeps is same = subst IsSound (sym same) sound
