-- The slices of rows that may be given are slices.
use Rattle.std.proofs.Common.{ℕ, ◌≤◌, List, [], ◌∷◌, map, All, arith}
use Rattle.plant_core.proofs.LiveLemmas.Common.{AllByRecursion, recursion_from_All, All-from_recursion, SliceRow, Channel, IsInFrame, Gathering, IsGathering, MayReslice, all-map, slice_of, IsOfASlice}

in_range : (channel : Channel) (rows : List SliceRow) → channel.frame_minislots ≤ 4096 → All (IsInFrame channel) (map slice_of rows) → All IsOfASlice rows
in_range channel rows most h =
    All-from_recursion IsOfASlice rows (each rows (all-map (IsInFrame channel) slice_of rows (recursion_from_All (IsInFrame channel) (map slice_of rows) h)))
  where
    each : (rows : List SliceRow) → AllByRecursion (λ row. IsInFrame channel (slice_of row)) rows → AllByRecursion IsOfASlice rows
    each [] h = tt
    each (row ∷ rows) h = (record { some = h.0.some; in_range = omega (arith, most, h.0.within_frame) }, each rows h.1)

pub are_slices : (gathering : Gathering) (from : ℕ) (rows : List SliceRow) → IsGathering gathering → MayReslice gathering from (map slice_of rows) → All IsOfASlice rows
are_slices gathering from rows is may = in_range gathering.channel rows is.channel_is.frame may.slices_are.each
