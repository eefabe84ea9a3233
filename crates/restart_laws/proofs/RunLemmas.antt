-- The operators after a run: their slices, and the slices that wait.
use Rattle.std.proofs.Common.{◌≡◌, ℕ, zero, suc, ◌<◌, ◌≤◌, Bool, true, false, cond, List, [], ◌∷◌, ◌++◌, length, map, Option, Some, None, option_map, refl, sym, ap, subst, ◌∙◌, arith, nat_lt}
use Rattle.restart_laws.proofs.Common.{All, slice_get, replicate, AllByRecursion, count_by, length-map, length-replicate, recursion_from_All, none-some, same_Some, slice_get-map, slice_get_within, Minislots, IsChannel, RowFields, PlantFields, Share, NextShare, Action, OperatorState, operator, SliceFrom, slice_in_frame, waiting_slice, IsSound, run_puts, Reslicing, quota_of, AreQuotas, AreSlices, Gathering, frame_slices, slices_at, is_whole, AreQueued, IsGathering, Step, Out, own_steps, collects_of, reslicings_of, Start, own_of, IsStart, CoreView, frames_of, IsStateAfterFrom, some_at, slice_later, have_one, lengths_of, may, own_all, put_so_far}
use Rattle.std.proofs.lemmas.List.FromFn.{length-range_with_len}
use Rattle.slice_scheduler.specs.declared.elements.ElementsFields.{ElementsFields}
use Rattle.plant.specs.declared.consts.Channel.{Channel}
use Rattle.operator_model.specs.Frames.{is_tick}
use Rattle.operator_model.proofs.SliceLemmas.{state-in_force}
use Rattle.map_assembly.proofs.StateLemmas.{slices_valid}
use Rattle.run_model.specs.IsTraceOf.{isolated_run_from}
use Rattle.run_model.proofs.Numbers.{numbers_are}
use Rattle.run_model.proofs.OwnSlices.{HaveOne, own_slice}
use Rattle.restart_laws.proofs.LaterLemmas.{to_come, run_sound, later_waits}

-- ---- slice changes that are to come

abbrev pub coming : ℕ → List Reslicing → List Reslicing
coming frame [] = []
coming frame (r ∷ rs) = cond (nat_lt frame r.from) (r ∷ coming frame rs) (coming frame rs)

come-own : (i frame : ℕ) (rs : List Reslicing) → to_come frame (map (own_of i) rs) ≡ map (own_of i) (coming frame rs)
come-own i frame [] = refl
come-own i frame (r ∷ rs) = by (nat_lt frame r.from) (come-own i frame rs)
  where
    by : (b : Bool) → to_come frame (map (own_of i) rs) ≡ map (own_of i) (coming frame rs)
        → cond b (own_of i r ∷ to_come frame (map (own_of i) rs)) (to_come frame (map (own_of i) rs)) ≡ map (own_of i) (cond b (r ∷ coming frame rs) (coming frame rs))
    by true e = ap (λ (xs : List SliceFrom). own_of i r ∷ xs) e
    by false e = e

coming-all : (P : Reslicing → Type 0) (frame : ℕ) (rs : List Reslicing) → AllByRecursion P rs → AllByRecursion P (coming frame rs)
coming-all P frame [] h = tt
coming-all P frame (r ∷ rs) h = by (nat_lt frame r.from) (coming-all P frame rs h.1)
  where
    by : (b : Bool) → AllByRecursion P (coming frame rs) → AllByRecursion P (cond b (r ∷ coming frame rs) (coming frame rs))
    by true more = (h.0, more)
    by false more = more

-- the frame of the first of them, and its slices
abbrev pub first_of : List Reslicing → Option ℕ
first_of [] = None
first_of (r ∷ rs) = Some r.from

abbrev pub slicing_or : List Minislots → List Reslicing → List Minislots
slicing_or slices [] = slices
slicing_or slices (r ∷ rs) = r.slicing

from_waiting : (i : ℕ) (next : Option NextShare) (rs : List Reslicing) → waiting_slice next ≡ map (own_of i) rs → option_map (λ (n : NextShare). n.from) next ≡ first_of rs
from_waiting i None [] e = refl
from_waiting i None (r ∷ rs) e = absurd (let wrong : ◌≡◌ {A = List SliceFrom} [] (own_of i r ∷ map (own_of i) rs) = e in cc)
from_waiting i (Some next) [] e = absurd (let wrong : ◌≡◌ {A = List SliceFrom} (record { from = next.from; slice = next.share.slice } ∷ []) [] = e in cc)
from_waiting i (Some next) (r ∷ rs) e =
    let same : ◌≡◌ {A = List SliceFrom} (record { from = next.from; slice = next.share.slice } ∷ []) (own_of i r ∷ map (own_of i) rs) = e in
    let head : ◌≡◌ {A = SliceFrom} (record { from = next.from; slice = next.share.slice }) (own_of i r) = cc in
    ap (λ (s : SliceFrom). let o : Option ℕ = Some s.from in o) head

own_there : (i : ℕ) (r : Reslicing) → i < length r.slicing → slice_get r.slicing i ≡ Some (own_of i r).slice
own_there i r within = let slice = some_at r.slicing i within in rw slice.1 refl

next_waiting : (i : ℕ) (slices : List Minislots) (share : Share) (next : Option NextShare) (rs : List Reslicing) → slice_get slices i ≡ Some share.slice → HaveOne i rs → waiting_slice next ≡ map (own_of i) rs
    → slice_get (slicing_or slices rs) i ≡ Some (slice_later share next)
next_waiting i slices share None [] now h e = now
next_waiting i slices share None (r ∷ rs) now h e = absurd (let wrong : ◌≡◌ {A = List SliceFrom} [] (own_of i r ∷ map (own_of i) rs) = e in cc)
next_waiting i slices share (Some next) [] now h e = absurd (let wrong : ◌≡◌ {A = List SliceFrom} (record { from = next.from; slice = next.share.slice } ∷ []) [] = e in cc)
next_waiting i slices share (Some next) (r ∷ rs) now h e =
    let same : ◌≡◌ {A = List SliceFrom} (record { from = next.from; slice = next.share.slice } ∷ []) (own_of i r ∷ map (own_of i) rs) = e in
    let head : ◌≡◌ {A = SliceFrom} (record { from = next.from; slice = next.share.slice }) (own_of i r) = cc in
    own_there i r h.0 ∙ ap (λ (s : SliceFrom). let o : Option Minislots = Some s.slice in o) (sym head)

slicing_valid : (P : List Minislots → Type 0) (slices : List Minislots) (rs : List Reslicing) → P slices → AllByRecursion (λ (r : Reslicing). P r.slicing) rs → P (slicing_or slices rs)
slicing_valid P slices [] p h = p
slicing_valid P slices (r ∷ rs) p h = h.0

-- ---- after a run

module _ (plant : PlantFields) (start : Start) (done : List Step) (outs : List Out) (core : CoreView) (starts : IsStart plant start) (reached : IsStateAfterFrom plant start done outs core) (held : IsGathering core.gathering) where
  abbrev pub now_at : ℕ → RowFields → OperatorState
  now_at i row = (isolated_run_from plant.consts start row i done).state

  -- the slice changes that waited at the start, and those of the run
  abbrev pub changes : List Reslicing
  changes = start.waiting ++ reslicings_of done

  quotas_long : length core.gathering.quotas ≡ length plant.rows
  quotas_long = ap length reached.gathered.quotas_are ∙ length-map plant.rows quota_of

  abbrev pub ArePlantSlices : List Minislots → Type 0
  ArePlantSlices slices = AreSlices plant.consts.channel (length plant.rows) slices

  to_plant : (slices : List Minislots) → AreSlices core.gathering.channel (length core.gathering.quotas) slices → ArePlantSlices slices
  to_plant slices are = subst (λ (n : ℕ). AreSlices plant.consts.channel n slices) quotas_long (subst (λ (c : Channel). AreSlices c (length core.gathering.quotas) slices) reached.gathered.channel_is are)

  plant_all : (rs : List Reslicing) → AllByRecursion (λ (r : Reslicing). AreSlices core.gathering.channel (length core.gathering.quotas) r.slicing) rs → AllByRecursion (λ (r : Reslicing). ArePlantSlices r.slicing) rs
  plant_all [] h = tt
  plant_all (r ∷ rs) h = (to_plant r.slicing h.0, plant_all rs h.1)

  changes_valid : AllByRecursion (λ (r : Reslicing). ArePlantSlices r.slicing) changes
  changes_valid =
      subst (λ (rs : List Reslicing). AllByRecursion (λ (r : Reslicing). ArePlantSlices r.slicing) rs) reached.gathered.reslicings_are
      (plant_all core.gathering.reslicings (recursion_from_All (λ (r : Reslicing). AreSlices core.gathering.channel (length core.gathering.quotas) r.slicing) core.gathering.reslicings held.reslicings_are))

  have_all : (i : ℕ) → i < length plant.rows → (rs : List Reslicing) → AllByRecursion (λ (r : Reslicing). ArePlantSlices r.slicing) rs → HaveOne i rs
  have_all i within rs valid = have_one (length plant.rows) i rs within (lengths_of (length plant.rows) (λ r are. are.one_each) rs valid)

  pub slices_now : (frame : ℕ) → ArePlantSlices (frame_slices core.gathering frame)
  slices_now frame = to_plant (frame_slices core.gathering frame) (slices_valid core.gathering.channel (length core.gathering.quotas) core.gathering.slices core.gathering.reslicings frame held.slices_are held.reslicings_are)

  pub slices_later : (frame : ℕ) → ArePlantSlices (slicing_or (frame_slices core.gathering frame) (coming frame changes))
  slices_later frame = slicing_valid ArePlantSlices (frame_slices core.gathering frame) (coming frame changes) (slices_now frame) (coming-all (λ (r : Reslicing). ArePlantSlices r.slicing) frame changes changes_valid)

  module _ (i : ℕ) (row : RowFields) (here : slice_get plant.rows i ≡ Some row) where
    abbrev first : OperatorState
    first = start.state row

    abbrev own : List Action
    own = own_steps row i done

    within : i < length plant.rows
    within = slice_get_within plant.rows i row here

    sound_first : IsSound (operator plant.consts row first)
    sound_first = starts.sound i row here

    pub sound_now : IsSound (operator plant.consts row (now_at i row))
    sound_now = run_sound plant.consts row first own sound_first (may plant start done outs core starts reached held i row here)

    pub waits_now : waiting_slice (now_at i row).next ≡ map (own_of i) (coming (now_at i row).frame changes)
    waits_now =
        later_waits plant.consts row first own sound_first (may plant start done outs core starts reached held i row here)
        ∙ (ap (to_come (now_at i row).frame) (sym (own_all plant start done outs core starts reached held i row here)) ∙ come-own i (now_at i row).frame changes)

    pub slice_now : slice_get (frame_slices core.gathering (now_at i row).frame) i ≡ Some (now_at i row).share.slice
    slice_now =
        ap (λ (ms : List Minislots). slice_get (slices_at ms core.gathering.reslicings (now_at i row).frame) i) reached.gathered.slices_are
        ∙ (ap (λ (rs : List Reslicing). slice_get (slices_at (map (λ (r : RowFields). (start.state r).share.slice) plant.rows) rs (now_at i row).frame) i) reached.gathered.reslicings_are
        ∙ (own_slice i (now_at i row).frame (map (λ (r : RowFields). (start.state r).share.slice) plant.rows) first.share.slice
        (slice_get-map (λ (r : RowFields). (start.state r).share.slice) plant.rows i ∙ ap (option_map (λ (r : RowFields). (start.state r).share.slice)) here) changes (have_all i within changes changes_valid)
        ∙ (ap (λ (rs : List SliceFrom). let o : Option Minislots = Some (slice_in_frame first.share.slice rs (now_at i row).frame) in o) (own_all plant start done outs core starts reached held i row here)
        ∙ ap (λ (m : Minislots). let o : Option Minislots = Some m in o) (sym (state-in_force (operator plant.consts row first) own sound_first (may plant start done outs core starts reached held i row here))))))

    pub from_now : option_map (λ (n : NextShare). n.from) (now_at i row).next ≡ first_of (coming (now_at i row).frame changes)
    from_now = from_waiting i (now_at i row).next (coming (now_at i row).frame changes) waits_now

    pub next_now : slice_get (slicing_or (frame_slices core.gathering (now_at i row).frame) (coming (now_at i row).frame changes)) i ≡ Some (slice_later (now_at i row).share (now_at i row).next)
    next_now =
        next_waiting i (frame_slices core.gathering (now_at i row).frame) (now_at i row).share (now_at i row).next (coming (now_at i row).frame changes) slice_now
        (have_all i within (coming (now_at i row).frame changes) (coming-all (λ (r : Reslicing). ArePlantSlices r.slicing) (now_at i row).frame changes changes_valid)) waits_now

    -- an operator of which all frames are collected is not before the first frame
    pub frame_past : collects_of i done ≡ length (frames_of (isolated_run_from plant.consts start row i done).outputs) → plant.consts.channel.first_frame ≤ (now_at i row).frame
    frame_past collected =
        let puts = run_puts plant.consts row first own in
        let frames = frames_of (isolated_run_from plant.consts start row i done).outputs in
        let a : length (map (λ frame. frame.0) frames) ≡ length frames = length-map frames (λ frame. frame.0) in
        let b = ap length (numbers_are (isolated_run_from plant.consts start row i done).outputs ∙ puts.numbers) in
        let c = length-range_with_len first.frame (count_by is_tick own) in
        let put = put_so_far plant start done outs core starts reached held i row here in
        let channel = ap (λ (x : Channel). x.first_frame) reached.gathered.channel_is in
        omega (arith, a, b, c, put, held.started, channel, starts.at_one_frame i row here, puts.next, collected)

-- ---- nothing is put

none_there : (n k : ℕ) (queue : List ElementsFields) → slice_get (replicate n []) k ≡ Some queue → queue ≡ []
none_there zero k queue e = let f : ◌≡◌ {A = Option (List ElementsFields)} None (Some queue) = e in absurd (none-some queue f)
none_there (suc n) zero queue e = sym (same_Some [] queue e)
none_there (suc n) (suc k) queue e = none_there n k queue e

not_whole : (n : ℕ) → 1 ≤ n → is_whole (replicate n []) ≡ false
not_whole zero le = absurd (omega arith)
not_whole (suc n) le = refl

pub fresh_gathering : (g : Gathering) (n : ℕ) → g.queues ≡ replicate n [] → IsChannel g.channel → AreQuotas g.quotas → n ≡ length g.quotas → AreSlices g.channel (length g.quotas) g.slices
    → All (λ r. AreSlices g.channel (length g.quotas) r.slicing) g.reslicings → g.channel.first_frame ≤ g.next → IsGathering g
fresh_gathering g n queues channel quotas many slices reslicings started = record {
  channel_is = channel;
  quotas_are = quotas;
  slices_are = slices;
  reslicings_are = reslicings;
  one_each = ap length queues ∙ (length-replicate n [] ∙ many);
  waiting = ap is_whole queues ∙ not_whole n (let some = quotas.some in omega (arith, many, some));
  started = started;
  queued = λ k quota queue at there.
      let none = none_there n k queue (ap (λ (qs : List (List ElementsFields)). slice_get qs k) (sym queues) ∙ there) in
      subst (λ (q : List ElementsFields). AreQueued (λ m. slice_get (slices_at g.slices g.reslicings m) k) quota g.next q) (sym none) tt;
}
