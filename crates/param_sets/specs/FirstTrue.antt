-- Tests in their order.
use Rattle.std.specs.Prelude.{ℕ, Bool, List, Option, find}
use Rattle.std.specs.Option.{option_map}

-- the number next to the first test that is true
abbrev pub first_true : List (Bool × ℕ) → Option ℕ
first_true rows = option_map (λ row. row.1) (find (λ row. row.0) rows)
