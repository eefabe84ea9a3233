-- Operators that can start are refused for want of memory alone.
use Rattle.std.proofs.Common.{◌≡◌, ℕ, ◌+◌, ◌≤◌, List, length, take, Option, IfSome, inl, inr, refl, subst, arith}
use Rattle.plant_restart.proofs.Common.{get_or-take, length-take-le, All-take, recursion_from_All, PlantFields, OperatorState, Operator, at_place, ResumeFault, first_from, GoesAlong, GoTogether, slices_now, slices_next, IsOddFault, IsSliceFault, IsResumeFault, RestartFault, State, Core, NoMemory, operators_by_name, IsRestartFault, CanRestart}
use Rattle.slice_scheduler.specs.Minislots.{Minislots}
use Rattle.plant.specs.declared.consts.Channel.{Channel}
use Rattle.operator_book.specs.Resuming.{IsStateUnder}
use Rattle.map_assembly.specs.Plan.{AreSlices, IsInFrame, IsFirstInvalid}
use Rattle.plant_core.specs.declared.live.resume_fault.ResumeFault.TheVariants as resume

-- slices that are valid are so up to each of them
front_valid : (channel : Channel) (count n : ℕ) (slices : List Minislots) → n ≤ length slices → AreSlices channel count slices → AreSlices channel n (take n slices)
front_valid channel count n slices le valid = record {
  one_each = length-take-le n slices le;
  each = All-take (IsInFrame channel) n slices valid.each;
  apart = λ i j d lt within.
      let long = length-take-le n slices le in
      let there = get_or-take n slices j d (omega (arith, within, long)) in
      let here = get_or-take n slices i d (omega (arith, lt, within, long)) in
      rw here (rw there (valid.apart i j d lt (omega (arith, within, long, le))));
}

none_invalid : (channel : Channel) (count op : ℕ) (slices : List Minislots) → AreSlices channel count slices → IsFirstInvalid channel slices op → ⊥
none_invalid channel count op slices valid first = first.not_with (front_valid channel count (op + 1) slices (omega (arith, first.within)) valid)

none_odd : (frame : ℕ) (ops : List Operator) (why : ResumeFault) → GoTogether frame ops → IsOddFault frame (first_from ops) ops why → ⊥
none_odd frame ops (resume.NotAtFrame op) go odd =
    odd.why (at_place (GoesAlong frame (first_from ops)) ops op odd.odd (recursion_from_All (GoesAlong frame (first_from ops)) ops go) odd.odd_is).at_frame
none_odd frame ops (resume.SliceChangesDiffer op) go odd =
    odd.why (at_place (GoesAlong frame (first_from ops)) ops op odd.odd (recursion_from_All (GoesAlong frame (first_from ops)) ops go) odd.odd_is).waits
none_odd frame ops resume.BeforeFirstFrame go odd = odd
none_odd frame ops (resume.InvalidSlice op) go odd = odd
none_odd frame ops (resume.InvalidNextSlice op) go odd = odd
none_odd frame ops resume.NoMemory go odd = odd

slices_alone : (plant : PlantFields) (ops : List Operator) (why : ResumeFault) (n : ℕ) → AreSlices plant.consts.channel n (slices_now ops) → AreSlices plant.consts.channel n (slices_next ops) → IsSliceFault plant ops why → why ≡ resume.NoMemory
slices_alone plant ops (resume.NotAtFrame op) n now next is = absurd is
slices_alone plant ops (resume.SliceChangesDiffer op) n now next is = absurd is
slices_alone plant ops resume.BeforeFirstFrame n now next is = absurd is
slices_alone plant ops (resume.InvalidSlice op) n now next is = absurd (none_invalid plant.consts.channel n op (slices_now ops) now is)
slices_alone plant ops (resume.InvalidNextSlice op) n now next is = absurd (none_invalid plant.consts.channel n op (slices_next ops) next is.1)
slices_alone plant ops resume.NoMemory n now next is = refl

core_alone : (plant : PlantFields) (frame n : ℕ) (ops : List Operator) (why : ResumeFault) → GoTogether frame ops → plant.consts.channel.first_frame ≤ frame → AreSlices plant.consts.channel n (slices_now ops)
    → AreSlices plant.consts.channel n (slices_next ops) → IsResumeFault plant frame ops why → why ≡ resume.NoMemory
core_alone plant frame n ops why go begun now next (inl odd) = absurd (none_odd frame ops why go odd)
core_alone plant frame n ops why go begun now next (inr (along, inl (is, lt))) = absurd (omega (arith, begun, lt))
core_alone plant frame n ops why go begun now next (inr (along, inr (le, is))) = slices_alone plant ops why n now next is

pub memory_alone : (plant : PlantFields) (frame : ℕ) (states : List (List ℕ × OperatorState)) (fault : RestartFault) → CanRestart plant frame states → IsRestartFault plant frame states fault → fault ≡ NoMemory
memory_alone plant frame states (State op why) can is =
    let under = is.wrong in
    absurd (under.wrong.stands_not (subst (λ (o : Option OperatorState). IfSome o (λ state. IsStateUnder plant.consts is.row state)) under.state_is (can.stand op is.row is.row_is)))
memory_alone plant frame states (Core why) can is =
    absurd (is.1 (core_alone plant frame (length plant.rows) (operators_by_name plant frame states) why can.go_together can.has_begun can.slices can.next_slices is.0))
memory_alone plant frame states NoMemory can is = refl
