-- The frame that an operator's next collection takes is fit to be put.
use Rattle.std.proofs.Common.{◌≡◌, ℕ, zero, suc, ◌+◌, ◌-◌, ◌<◌, ◌≤◌, true, false, List, [], ◌∷◌, ◌++◌, length, map, drop, Option, Some, None, option_map, refl, sym, ap, ◌∙◌, subst, arith, nat_lt}
use Rattle.run_model.proofs.Common.{slice_get, AllByRecursion, and_from, lt-leb, le-leb, eq-eqb, false_from_ne_true, ltb-true, length-map, map-append, recursion_from_All, none-some, same_Some, slice_get-map, slice_get_within, Minislots, ElementsFields, RowFields, PlantFields, IsRowOf, IsPlant, Action, OperatorState, operator, SliceFrom, reslicings_in, slice_in_frame, waiting_slice, slice_of_run, MayRun, IsSound, Quota, Reslicing, quota_of, is_fitting, is_slice, IsInFrame, AreSlices, Gathering, frame_slices, slices_at, queue_of, next_of, is_part, put_fault, IsGathering, Step, Out, own_steps, maps_in, collects_of, reslicings_of, isolated_run_from, CoreView, frames_of, IsStateAfterFrom, AreNumbered, Start, first_start, own_of, IsStart, IsStateAfter}
use Rattle.operator_model.proofs.OpenedLemmas.{opened_sound}
use Rattle.operator_model.proofs.SliceLemmas.{state-frames}
use Rattle.run_model.proofs.Entries.{some_at}
use Rattle.run_model.proofs.Numbers.{Numbered, numbered_from}
use Rattle.run_model.proofs.Collected.{put_length}
use Rattle.run_model.proofs.OwnFrames.{at_place, IsOwn, run_own, told_may, of_slices}
use Rattle.run_model.proofs.OwnSlices.{HaveOne, own_reslicings, own_slice}

-- ---- what stands where

pub number_at : (n m : ℕ) (frames : List Numbered) (frame : Numbered) → AreNumbered n frames → slice_get frames m ≡ Some frame → frame.0 ≡ n + m
number_at n m [] frame h e = let f : ◌≡◌ {A = Option Numbered} None (Some frame) = e in absurd (none-some frame f)
number_at n zero (x ∷ frames) frame h e = let is : x ≡ frame = same_Some x frame e in omega (arith, h.0, ap (λ (f : Numbered). f.0) is)
number_at n (suc m) (x ∷ frames) frame h e = omega (arith, number_at (n + 1) m frames frame h.1 e)

first_behind : {X : Type 0} (xs rest : List X) (n : ℕ) (x : X) → drop n xs ≡ x ∷ rest → slice_get xs n ≡ Some x
first_behind [] rest zero x e = ap (λ ys. slice_get ys 0) e
first_behind [] rest (suc n) x e = ap (λ ys. slice_get ys 0) e
first_behind (y ∷ ys) rest zero x e = ap (λ zs. slice_get zs 0) e
first_behind (y ∷ ys) rest (suc n) x e = first_behind ys rest n x e

pub queue_there : (queues : List (List ElementsFields)) (i : ℕ) (queue : List ElementsFields) → slice_get queues i ≡ Some queue → queue_of queues i ≡ queue
queue_there [] i queue e = let f : ◌≡◌ {A = Option (List ElementsFields)} None (Some queue) = e in absurd (none-some queue f)
queue_there (q ∷ queues) zero queue e = same_Some q queue e
queue_there (q ∷ queues) (suc i) queue e = queue_there queues i queue e

not_lt : (a b : ℕ) → b ≤ a → nat_lt a b ≡ false
not_lt a b le = false_from_ne_true (nat_lt a b) (λ h. omega (arith, le, ltb-true a b h))

-- ---- fit

fitting : (row : RowFields) (slice : Minislots) (part : ElementsFields) → part.slice ≡ slice → IsOwn row part → is_fitting (quota_of row) slice part ≡ true
fitting row slice part same own =
    and_from _ _
    (and_from _ _
    (and_from (is_slice part.slice slice) _
    (subst (λ (m : Minislots). is_slice part.slice m ≡ true) same (and_from _ _ (eq-eqb part.slice.start part.slice.start refl) (eq-eqb part.slice.length part.slice.length refl)))
    own.spans)
    own.pending)
    (le-leb (length part.spans + length part.pending) (row.elements + 1) own.few)

-- each slice list has one slice for each operator
pub have_one : (n i : ℕ) (rs : List Reslicing) → i < n → AllByRecursion (λ (r : Reslicing). length r.slicing ≡ n) rs → HaveOne i rs
have_one n i [] within h = tt
have_one n i (r ∷ rs) within h = (omega (arith, within, h.0), have_one n i rs within h.1)

later_one : (i : ℕ) (rs later : List Reslicing) → HaveOne i (rs ++ later) → HaveOne i later
later_one i [] later h = h
later_one i (r ∷ rs) later h = later_one i rs later h.1

pub lengths_of : {P : Reslicing → Type 0} (n : ℕ) → ((r : Reslicing) → P r → length r.slicing ≡ n) → (rs : List Reslicing) → AllByRecursion P rs → AllByRecursion (λ (r : Reslicing). length r.slicing ≡ n) rs
lengths_of n f [] h = tt
lengths_of n f (r ∷ rs) h = (f r h.0, lengths_of n f rs h.1)

-- ---- an operator after a run

module _ (plant : PlantFields) (start : Start) (done : List Step) (outs : List Out) (core : CoreView) (starts : IsStart plant start) (reached : IsStateAfterFrom plant start done outs core) (is : IsGathering core.gathering)
    (i : ℕ) (row : RowFields) (here : slice_get plant.rows i ≡ Some row) where
  abbrev own : List Action
  own = own_steps row i done

  abbrev frames : List Numbered
  frames = frames_of (isolated_run_from plant.consts start row i done).outputs

  within : i < length plant.rows
  within = slice_get_within plant.rows i row here

  quotas_long : length core.gathering.quotas ≡ length plant.rows
  quotas_long = ap length reached.gathered.quotas_are ∙ length-map plant.rows quota_of

  abbrev first : OperatorState
  first = start.state row

  pub may : MayRun (operator plant.consts row first) own
  may =
      let book = some_at core.books i (omega (arith, within, reached.one_book)) in
      let after = reached.books i row book.0 here book.1 in
      subst (MayRun (operator plant.consts row first)) after.actions_are (told_may plant.consts row first book.0.history after.replay.told)

  pub sound : IsSound (operator plant.consts row first)
  sound = starts.sound i row here

  -- each re-slicing, those that waited at the start among them, has a slice of the operator
  all_one : HaveOne i (start.waiting ++ reslicings_of done)
  all_one =
      have_one (length core.gathering.quotas) i (start.waiting ++ reslicings_of done) (omega (arith, within, quotas_long))
      (subst (λ (rs : List Reslicing). AllByRecursion (λ (r : Reslicing). length r.slicing ≡ length core.gathering.quotas) rs) reached.gathered.reslicings_are
      (lengths_of (length core.gathering.quotas) (λ r valid. valid.one_each) core.gathering.reslicings
      (recursion_from_All (λ (r : Reslicing). AreSlices core.gathering.channel (length core.gathering.quotas) r.slicing) core.gathering.reslicings is.reslicings_are)))

  pub one_each : HaveOne i (reslicings_of done)
  one_each = later_one i start.waiting (reslicings_of done) all_one

  -- they are, slice by slice, what waited of the operator and its own
  pub own_all : map (own_of i) (start.waiting ++ reslicings_of done) ≡ waiting_slice first.next ++ reslicings_in own
  own_all =
      map-append (own_of i) start.waiting (reslicings_of done)
      ∙ (λ k. starts.waits i row here k ++ sym (own_reslicings row i done one_each) k)

  -- the operator's slice of a frame, where the assembly looks it up
  slice_there : (frame : ℕ) → slice_get (frame_slices core.gathering frame) i ≡ Some (slice_of_run first own frame)
  slice_there frame =
      ap (λ (ms : List Minislots). slice_get (slices_at ms core.gathering.reslicings frame) i) reached.gathered.slices_are
      ∙ (ap (λ (rs : List Reslicing). slice_get (slices_at (map (λ (r : RowFields). (start.state r).share.slice) plant.rows) rs frame) i) reached.gathered.reslicings_are
      ∙ (own_slice i frame (map (λ (r : RowFields). (start.state r).share.slice) plant.rows) first.share.slice
      (slice_get-map (λ (r : RowFields). (start.state r).share.slice) plant.rows i ∙ ap (option_map (λ (r : RowFields). (start.state r).share.slice)) here) (start.waiting ++ reslicings_of done) all_one
      ∙ ap (λ (rs : List SliceFrom). let o : Option Minislots = Some (slice_in_frame first.share.slice rs frame) in o) own_all))

  pub part_fits : (n : ℕ) (frame : Numbered) → slice_get frames n ≡ Some frame → is_part core.gathering i frame.0 frame.1 ≡ true
  part_fits n frame e =
      let quota : slice_get core.gathering.quotas i ≡ Some (quota_of row) =
      ap (λ (ss : List Quota). slice_get ss i) reached.gathered.quotas_are ∙ (slice_get-map quota_of plant.rows i ∙ ap (option_map quota_of) here) in
      let slice : ℕ → Minislots = slice_of_run first own in
      let same = at_place (λ (f : Numbered). f.1.slice ≡ slice f.0) frames n frame
      (of_slices slice (isolated_run_from plant.consts start row i done).outputs (state-frames (operator plant.consts row first) own sound may)) e in
      let mine = at_place (λ (f : Numbered). IsOwn row f.1) frames n frame (run_own plant.consts row first own sound may) e in
      rw (quota, slice_there frame.0) (fitting row (slice frame.0) frame.1 same mine)

  -- how far an operator's parts are put
  pub put_so_far : next_of core.gathering i ≡ start.frame + collects_of i done
  put_so_far =
      let queue = some_at core.queues i (omega (arith, within, reached.one_queue)) in
      let put = some_at core.gathering.queues i (omega (arith, within, reached.gathered.one_each)) in
      let after = reached.frames i row queue.0 put.0 here queue.1 put.1 in
      let long : length (queue_of core.gathering.queues i) ≡ collects_of i done - length (maps_in outs) =
      ap (λ (q : List ElementsFields). length q) (queue_there core.gathering.queues i put.0 put.1 ∙ after.put_are)
      ∙ put_length (length (maps_in outs)) (collects_of i done) frames (reached.gathered.collected i row here) in
      let least = reached.shown.maps.count.at_most i within in
      omega (arith, reached.gathered.next_is, long, least)

  pub front_fits : (frame : ℕ) (part : ElementsFields) (waiting : List Numbered) → slice_get core.queues i ≡ Some ((frame, part) ∷ waiting) → put_fault core.gathering i frame part ≡ None
  front_fits frame part waiting e =
      let put = some_at core.gathering.queues i (omega (arith, within, reached.gathered.one_each)) in
      let after = reached.frames i row ((frame, part) ∷ waiting) put.0 here e put.1 in
      let there : slice_get frames (collects_of i done) ≡ Some (frame, part) = first_behind frames waiting (collects_of i done) (frame, part) (sym after.waiting_are) in
      let number = number_at start.frame (collects_of i done) frames (frame, part) (numbered_from plant.consts start row i done (starts.at_one_frame i row here)) there in
      let least = reached.shown.maps.count.at_most i within in
      rw (
        lt-leb (length core.gathering.quotas) i (omega (arith, within, quotas_long)),
        not_lt frame core.gathering.next (omega (arith, number, least, reached.gathered.next_is)),
        not_lt frame (next_of core.gathering i) (omega (arith, number, put_so_far)),
        not_lt (next_of core.gathering i) frame (omega (arith, number, put_so_far)),
        part_fits (collects_of i done) (frame, part) there,
      ) refl

pub fits_from : (plant : PlantFields) (start : Start) (done : List Step) (outs : List Out) (core : CoreView) (i frame : ℕ) (part : ElementsFields) (waiting : List Numbered) → IsStart plant start → IsStateAfterFrom plant start done outs core
    → IsGathering core.gathering → slice_get core.queues i ≡ Some ((frame, part) ∷ waiting) → put_fault core.gathering i frame part ≡ None
fits_from plant start done outs core i frame part waiting starts reached is e =
    let within = slice_get_within core.queues i ((frame, part) ∷ waiting) e in
    let row = some_at plant.rows i (omega (arith, within, reached.one_queue)) in
    front_fits plant start done outs core starts reached is i row.0 row.1 frame part waiting e

-- ---- from the opened plant

-- where the assembly has the plant's slices, each row has a slice: so the opened plant is a start
pub opened_starts : (plant : PlantFields) (g : Gathering) → IsPlant plant → g.slices ≡ map (λ row. row.slice) plant.rows → IsGathering g → IsStart plant (first_start plant)
opened_starts plant g valid slices is = record {
  sound = λ i row here.
      let there : slice_get g.slices i ≡ Some row.slice =
      ap (λ (ms : List Minislots). slice_get ms i) slices ∙ (slice_get-map (λ (r : RowFields). r.slice) plant.rows i ∙ ap (option_map (λ (r : RowFields). r.slice)) here) in
      opened_sound plant.consts row (at_place (IsRowOf plant.consts) plant.rows i row (recursion_from_All (IsRowOf plant.consts) plant.rows valid.rows) here)
      (at_place (IsInFrame g.channel) g.slices i row.slice (recursion_from_All (IsInFrame g.channel) g.slices is.slices_are.each) there).some;
  at_one_frame = λ i row here. refl;
  waits = λ i row here. refl;
}

pub waiting_fits : (plant : PlantFields) (done : List Step) (outs : List Out) (core : CoreView) (i frame : ℕ) (part : ElementsFields) (waiting : List Numbered) → IsPlant plant → IsStateAfter plant done outs core → IsGathering core.gathering
    → slice_get core.queues i ≡ Some ((frame, part) ∷ waiting) → put_fault core.gathering i frame part ≡ None
waiting_fits plant done outs core i frame part waiting valid reached is e =
    fits_from plant (first_start plant) done outs core i frame part waiting (opened_starts plant core.gathering valid reached.gathered.slices_are is) reached is e
