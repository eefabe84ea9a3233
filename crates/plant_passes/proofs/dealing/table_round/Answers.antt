use Rattle.std.proofs.Common.{rules, ◌≡◌, ℕ, [], ◌∷◌, ◌++◌, length, Some, sym, ap, ◌∙◌, subst}
use Rattle.plant_passes.proofs.Common.{opening, origin_of, IsOwnRun, opener, opening_of, IsCellTable}
use Rattle.plant_passes.proofs.Moves.{begins}
use Rattle.plant_passes.proofs.dealing.table_round.Goals as goal

pub new-requires : goal.new-requires
new-requires g c =
    let book = c.of.result.value in
    let n : ℕ = length c.history.result.now in
    let kept : book.kept ≡ c.args.book.kept = ap (λ h. h.kept) c.of.ensures ∙ c.into_parts-kept.ensures.0 in
    let slot : c.push_reserved.new.self.items ≡ Some book ∷ [] = c.push_reserved.ensures.items ∙ (λ i. c.requires.slots.0 i ++ Some (sym c.of.ensures i) ∷ []) in
    let run = subst (λ k. IsOwnRun (origin_of k.book) k.book.history) (sym kept) c.always_replayed.ensures.told in
    subst (λ items. IsCellTable (opening_of book c.args.passes) (opening (n ∷ n ∷ []) items (opener book c.args.passes))) (sym slot)
    (begins book c.args.passes n (ap length c.history.ensures ∙ ap (λ k. length k.book.history) (sym kept)) (search rules) c.requires.some run)
