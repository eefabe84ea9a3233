use Rattle.std.proofs.Common.{◌≡◌, List, sym, ap, ◌∙◌, subst, refl, get_or}
use Rattle.plant_workers.proofs.AuditLemmas.Common.{MatchOption, get_or_from_slice_get, RowFields, Entry, actions_of, view_of, own_steps, DifferFirst}
use Rattle.plant_workers.proofs.AuditLemmas.Judging.{book_told}
use Rattle.plant_workers.proofs.audit.following.stray_at.Goals as goal

pub returns : goal.returns
returns g c row here =
    let row_is : c.index-rows-op.result ≡ row =
    c.index-rows-op.is ∙ (ap (λ (rows : List RowFields). get_or rows c.args.op c.index-rows-op.result) c.rows.ensures.value
    ∙ get_or_from_slice_get c.args.plant.now.rows c.args.op row c.index-rows-op.result here) in
    book_told c.args.plant.now c.args.steps.now c.args.op row (view_of c.args.book.now)
    (sym c.row.ensures ∙ (c.if-not-is_same_row.ensures.0 refl ∙ row_is))
    (sym c.consts.ensures ∙ (c.if-not-are_same_consts.ensures.0 refl ∙ c.consts-else-not-is_same_row.ensures.value))
    c.always_replayed.ensures
    c.first_difference.result
    (subst (λ (h : List Entry). MatchOption c.first_difference.result (actions_of h ≡ own_steps row c.args.op c.args.steps.now) (DifferFirst (actions_of h) (own_steps row c.args.op c.args.steps.now)))
    c.history.ensures (c.first_difference.ensures row here))
