-- The MAPs that placings give are those of the run, where each operator put what was due.
use Rattle.std.proofs.Common.{◌≡◌, ℕ, zero, suc, ◌<◌, ◌≤◌, List, [], ◌∷◌, ◌++◌, length, map, take, drop, Option, Some, None, refl, sym, ap, ◌∙◌, arith}
use Rattle.plant_workers.proofs.AuditLemmas.Common.{slice_get, replicate, AllByRecursion, length-map, length-replicate, length-drop, length-take-le, All-from_recursion, none-some, same_Some, slice_get_within, ElementsFields, RowFields, PlantFields, MapBytes, Gathering, gathering_of, queue_of, IsGathering, Step, collects_of, isolated_run, ArePartsAt, IsMapIn, IsLeast, AreMaps, frames_of, some_at, Numbered, are_numbered, elements_are, of_number, found_at, none_put, Placing, HaveMade, AreDue}
use Rattle.plant_workers.proofs.AuditLemmas.Ahead.{parts_of, ahead, IsMapAt, IsGiven, queue_at, given_by}

all_at : {X : Type 0} (P : X → Type 0) (xs : List X) → ((k : ℕ) (x : X) → slice_get xs k ≡ Some x → P x) → AllByRecursion P xs
all_at P [] h = tt
all_at P (x ∷ xs) h = (h 0 x refl, all_at P xs (λ k y e. h (suc k) y e))

pub nothing_queued : (n i : ℕ) → queue_of (replicate n []) i ≡ []
nothing_queued zero i = refl
nothing_queued (suc n) zero = refl
nothing_queued (suc n) (suc i) = nothing_queued n i

-- the frame at a place of those that are due
frame_there : (k count : ℕ) (frames : List Numbered) (part : ElementsFields) → slice_get (map (λ (f : Numbered). f.1) (take count frames)) k ≡ Some part
    → (frame : Numbered) × (slice_get frames k ≡ Some frame) × (frame.1 ≡ part)
frame_there k zero frames part e = let f : ◌≡◌ {A = Option ElementsFields} None (Some part) = e in absurd (none-some part f)
frame_there k (suc count) [] part e = let f : ◌≡◌ {A = Option ElementsFields} None (Some part) = e in absurd (none-some part f)
frame_there zero (suc count) (frame ∷ frames) part e = (frame, refl, same_Some frame.1 part e)
frame_there (suc k) (suc count) (frame ∷ frames) part e = frame_there k count frames part e

module _ (plant : PlantFields) (steps : List Step) (placings : List Placing) (maps : List MapBytes) (after : Gathering) (due : AreDue plant steps placings)
    (have : HaveMade (gathering_of plant) placings maps after) (is : IsGathering after) where
  given : IsGiven (gathering_of plant) placings maps after
  given = given_by (gathering_of plant) placings maps after have

  count_queues : length (gathering_of plant).queues ≡ length plant.rows
  count_queues = let none : List ElementsFields = [] in length-replicate (length plant.rows) none

  ahead_is : (i : ℕ) → ahead (gathering_of plant) i placings ≡ parts_of i placings
  ahead_is i = ap (λ (q : List ElementsFields). q ++ parts_of i placings) (nothing_queued (length plant.rows) i)

  parts_due : (i : ℕ) (row : RowFields) → slice_get plant.rows i ≡ Some row → parts_of i placings ≡ map (λ (f : Numbered). f.1) (take (collects_of i steps) (frames_of (isolated_run plant.consts row i steps).outputs))
  parts_due i row e = ap (λ (puts : List Numbered). map (λ (f : Numbered). f.1) puts) (due.put i row e)

  count_parts : (i : ℕ) (row : RowFields) → slice_get plant.rows i ≡ Some row → length (ahead (gathering_of plant) i placings) ≡ collects_of i steps
  count_parts i row e =
      ap length (ahead_is i ∙ parts_due i row e)
      ∙ (length-map (take (collects_of i steps) (frames_of (isolated_run plant.consts row i steps).outputs)) (λ (f : Numbered). f.1)
      ∙ length-take-le (collects_of i steps) (frames_of (isolated_run plant.consts row i steps).outputs) (due.enough i row e))

  at_most : (i : ℕ) → i < length plant.rows → length maps ≤ collects_of i steps
  at_most i lt =
      let row = some_at plant.rows i lt in
      let count = count_parts i row.0 row.1 in
      let enough = given.enough i (omega (arith, lt, count_queues)) in
      omega (arith, count, enough)

  -- somebody's part of the next frame is missing: of it no more are collected
  least : IsLeast plant steps (length maps)
  least =
      let none = none_put after.queues is.waiting in
      let within : none.0 < length plant.rows = omega (arith, slice_get_within after.queues none.0 [] none.1, given.one_each, count_queues) in
      let row = some_at plant.rows none.0 within in
      let nothing : drop (length maps) (ahead (gathering_of plant) none.0 placings) ≡ [] =
      sym (given.left none.0 (omega (arith, within, count_queues))) ∙ queue_at after.queues none.0 [] none.1 in
      let rest = length-drop (length maps) (ahead (gathering_of plant) none.0 placings) in
      let count = count_parts none.0 row.0 row.1 in
      let zero_left = ap length nothing in
      let enough = at_most none.0 within in
      record { at_most = at_most; one = (none.0, within, omega (arith, rest, count, zero_left, enough)) }

  parts_at : (k : ℕ) (made : MapBytes) → (at : IsMapAt (gathering_of plant) placings k made) → ArePartsAt plant steps made.frame at.parts
  parts_at k made at = record {
    one_each = at.one_each ∙ count_queues;
    own = λ i row part e f.
        let there = frame_there k (collects_of i steps) (frames_of (isolated_run plant.consts row i steps).outputs) part
        (ap (λ (ps : List ElementsFields). slice_get ps k) (sym (ahead_is i ∙ parts_due i row e)) ∙ at.own i part f) in
        elements_are made.frame (isolated_run plant.consts row i steps).outputs
        ∙ (ap (λ (n : ℕ). of_number n (frames_of (isolated_run plant.consts row i steps).outputs)) at.frame_is
        ∙ (found_at plant.consts.channel.first_frame k (frames_of (isolated_run plant.consts row i steps).outputs) there.0 (are_numbered plant.consts row i steps) there.1
        ∙ ap (λ (p : ElementsFields). p ∷ []) there.2));
  }

  map_in : (k : ℕ) (made : MapBytes) → slice_get maps k ≡ Some made → IsMapIn plant steps made
  map_in k made e = let at = given.each k made e in record { parts = at.parts; parts_are = parts_at k made at; map_is = at.map_is }

  pub are_maps : AreMaps plant steps maps
  are_maps = record {
    frames = given.frames;
    count = least;
    each = All-from_recursion (IsMapIn plant steps) maps (all_at (IsMapIn plant steps) maps map_in);
  }
