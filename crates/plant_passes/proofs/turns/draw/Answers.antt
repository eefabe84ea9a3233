use Rattle.std.proofs.Common.{rules, arith, ◌<◌, refl, ap, ◌∙◌, sym, subst}
use Rattle.plant_passes.proofs.Moves.{draws}
use Rattle.plant_passes.proofs.turns.draw.Goals as goal

pub compare_exchange-found-requires : goal.compare_exchange-found-requires
compare_exchange-found-requires g c =
    let same = c.loop.invariant.1 in
    let i = c.requires.idle in (
      search rules,
      search rules,
      draws _ _ _ _ _ _ _ refl (omega arith) (ap (λ m. m.0.holds_book) same ∙ i.1) (ap (λ m. m.0.ticket) same ∙ i.0)
          (subst (λ m. 0 < m.0.number) (sym same) i.2) (subst (λ m. 0 < m.0.passes) (sym same) i.3),
    )
