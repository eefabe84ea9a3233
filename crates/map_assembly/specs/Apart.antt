-- Tests of slices (implementation-specific).
use Rattle.std.specs.Prelude.{not, ◌&&◌, Bool, true, List, [], ◌∷◌}
use Rattle.std.specs.List.{list_all}
use Rattle.slice_scheduler.specs.Minislots.{Minislots, slices_overlap}

-- no two of these slices meet
abbrev pub all_apart : List Minislots → Bool
all_apart [] = true
all_apart (slice ∷ slices) = list_all (λ other. not (slices_overlap slice other)) slices && all_apart slices
