use Rattle.std.proofs.Common.{◌≡◌, ◌≢◌, List, [], ◌∷◌, length, None, arith, refl, sym}
use Rattle.slice_table.proofs.Common.{items_view, Value, pair_in}
use Rattle.slice_table.proofs.tree.pair_in.Goals as goal

not_two : (vs : List Value) → length vs ≢ 2 → pair_in (items_view vs) ≡ None
not_two [] h = refl
not_two (a ∷ []) h = refl
not_two (a ∷ b ∷ []) h = absurd (h refl)
not_two (a ∷ b ∷ v ∷ vs) h = refl

pub returns-in_default : goal.returns-in_default
returns-in_default c = sym (not_two c.args.values.now (λ e. omega (arith, c.in_default.len_below, e)))

pub returns-in_default-2 : goal.returns-in_default-2
returns-in_default-2 c = sym (not_two c.args.values.now (λ e. omega (arith, c.in_default.len_at_least, e)))
