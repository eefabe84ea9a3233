use Rattle.std.proofs.Common.{◌≡◌, Option, Some, None, Err, ap, ap₂, ◌∙◌}
use Rattle.plant_script.proofs.Common.{RowFields, operator, stranger_of, unfit_of, operator_of_book, view_of}
use Rattle.plant.specs.declared.consts.ConstsFields.{ConstsFields}
use Rattle.plant_script.proofs.one.put_action.Goals as goal

no_one : {A : Type 0} (o : Option A) (a : A) → o ≡ None → o ≡ Some a → ⊥
no_one None a p q = cc
no_one (Some b) a p q = cc

pub unreachable-requires : goal.unreachable-requires
unreachable-requires g c =
    no_one (stranger_of (view_of c.args.book.now).row c.args.action) c.in-Err-NotMine.field-0-0
    (ap (λ (row : RowFields). stranger_of row c.args.action) c.requires.of_a.row_is ∙ c.requires.allowed.mine)
    ((c.in-Err-NotMine.ensures.not_mine c.in-Err-NotMine.field-0-0).0 (ap Err c.in-Err-NotMine.field-0-is))

pub unreachable-requires-in-Err-Unfit : goal.unreachable-requires-in-Err-Unfit
unreachable-requires-in-Err-Unfit g c =
    let book = view_of c.args.book.now in
    no_one (unfit_of (operator_of_book book) c.args.action) c.in-Err-Unfit.field-0-0
    (ap₂ (λ (consts : ConstsFields) (row : RowFields). unfit_of (operator consts row book.state) c.args.action) c.requires.of_a.consts_is c.requires.of_a.row_is ∙ c.requires.allowed.fit)
    ((c.in-Err-Unfit.ensures.unfit c.in-Err-Unfit.field-0-0).0 (ap Err c.in-Err-Unfit.field-0-is))
