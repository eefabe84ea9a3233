use Rattle.std.proofs.Common.{sym, ap, ◌∙◌}
use Rattle.plant_passes.proofs.Common.{origin_of, pass_view}
use Rattle.plant_passes.proofs.Cells.{first_are_of}
use Rattle.plant_passes.proofs.pass.PassedCell.open.Goals as goal

pub returns-clause-of : goal.returns-clause-of
returns-clause-of g c =
    let made = c.in_ok-table.ensures in
    let id = c.in_ok-table.table.shared.table_id in
    first_are_of record { cell = id; passes = c.args.passes; origin = origin_of c.in_ok-table.table.shared.key.book.value.kept.book } _ _
    (λ p. pass_view p.seat) c.deal_out-given.result.items c.args.passes
    (ap (λ v. v.origin) made.first ∙ ap (λ k. origin_of k.book) (sym made.key.0))
    c.deal_out-given.ensures
