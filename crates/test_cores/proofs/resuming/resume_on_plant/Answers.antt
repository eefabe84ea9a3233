use Rattle.std.proofs.Common.{◌≡◌, Some, slice_get, List, [], ◌∷◌, length, map, sym, ap, ap₂, ◌∙◌, arith}
use Rattle.std.proofs.lemmas.Option.{same_Some}
use Rattle.plant_core.specs.live.LiveOperator.{row_of}
use Rattle.test_cores.proofs.resuming.resume_on_plant.Goals as goal

-- two machines have the two rows of a list
rows_of_two : {X Y : Type 0} (row : X → Y) (a b : X) (xs : List X) (rows : List Y) → xs ≡ a ∷ b ∷ [] → length rows ≡ 2 → slice_get rows 0 ≡ Some (row a) → slice_get rows 1 ≡ Some (row b)
    → map row xs ≡ rows
rows_of_two row a b xs [] made two first second = absurd (omega (arith, two))
rows_of_two row a b xs (p ∷ []) made two first second = absurd (omega (arith, two))
rows_of_two row a b xs (p ∷ q ∷ []) made two first second =
    ap (map row) made ∙ ap₂ (λ y z. y ∷ z ∷ []) (sym (same_Some p (row a) first)) (sym (same_Some q (row b) second))
rows_of_two row a b xs (p ∷ q ∷ o ∷ os) made two first second = absurd (omega (arith, two))

pub resume-requires-clause-rows : goal.resume-requires-clause-rows
resume-requires-clause-rows c =
    rows_of_two row_of c.in_ok-first.first c.in_ok-second.second c.in-Ok.machines.items c.args.plant.rows c.in-Ok.ensures.items
    (ap length (sym c.rows.ensures.value) ∙ c.if-rows-ne2.false) c.in_ok-first.ensures.row c.in_ok-second.ensures.row
