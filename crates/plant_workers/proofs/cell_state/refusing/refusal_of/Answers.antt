use Rattle.std.proofs.Common.{Option, refl, sym, ap, ◌∙◌}
use Rattle.std.specs.Prelude.{option_map}
use Rattle.operator_model.specs.declared.action.Action.{Action}
use Rattle.operator_model.specs.declared.action.Unfit as unfits
use Rattle.operator_book.specs.ViewOf.{view_of}
use Rattle.operator_book.specs.declared.book.BookFault.TheVariants.{Unfit}
use Rattle.plant_workers.specs.cell_state.Refusing.{refusal_of}
use Rattle.plant_workers.proofs.cell_state.refusing.refusal_of.Goals as goal

pub returns-in-Err-clause-value : goal.returns-in-Err-clause-value
returns-in-Err-clause-value g c =
    let found = (c.in-Err.ensures.unfit c.in-Err.unfit).0 refl in
    sym (ap (λ (action : Action). refusal_of (view_of c.args.book.now) action) c.in-Reslice.is
    ∙ ap (λ (o : Option unfits.Unfit). option_map (λ unfit. Unfit unfit) o) found)
