use Rattle.std.proofs.Common.{rules, arith, ℕ, ◌<◌, sym, subst}
use Rattle.plant_passes.proofs.Moves.{gives_pass}
use Rattle.plant_passes.proofs.dealing.deal_out.Goals as goal

pub split_seat-seat-requires : goal.split_seat-seat-requires
split_seat-seat-requires g c =
    let i = c.loop-left.invariant in
    let some_left : 0 < c.loop-left.left = omega arith in (
      search rules,
      search rules,
      gives_pass _ _ _ _ i.opens (subst (λ (n : ℕ). 0 < n) (sym i.passes) some_left),
    )
