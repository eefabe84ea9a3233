use Rattle.std.proofs.Common.{◌∙◌, refl, sym, ap, Option}
use Rattle.operator_model.specs.declared.action.Unfit.{Unfit}
use Rattle.plant_core.specs.live.Reslicing.{is_unfit}
use Rattle.plant_core.proofs.LiveLemmas.OfferLemmas.{taken}
use Rattle.plant_workers.proofs.cell_state.held.Held.refuses.Goals as goal

pub returns-in-Ok : goal.returns-in-Ok
returns-in-Ok g c = taken c.args.unfit _ c.in-Ok.field-0 c.in-Ok.ensures.unfit

pub returns-in-Err : goal.returns-in-Err
returns-in-Err g c = c.is_same.ensures ∙ ap (λ (o : Option Unfit). is_unfit c.args.unfit o) (sym ((c.in-Err.ensures.unfit c.in-Err.found).0 refl))
