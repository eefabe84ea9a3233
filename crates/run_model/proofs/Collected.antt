-- The frames that are collected, once one more is.
use Rattle.std.proofs.Common.{◌≡◌, ℕ, zero, suc, ◌+◌, ◌-◌, ◌<◌, ◌≤◌, cond, List, [], ◌∷◌, ◌++◌, length, map, take, drop, get_or, Option, Some, None, ◌⊎◌, inl, inr, refl, sym, ap, ◌∙◌, subst, arith}
use Rattle.run_model.proofs.Common.{◌==◌, slice_get, slice_set, cases_eq, eq-eqb, ne_eqb, length-map, length-drop, length-take-le, map-append, drop-append-le, drop-drop, drop-map, drop_more, take_more, none-some, same_Some, slice_get_within, slice_get-get_or, ElementsFields, RowFields, PlantFields, queue_of, with_part, Step, Out, maps_in, collects_of, isolated_run_from, CoreView, frames_of, AreFramesFrom, IsStateAfterFrom, Collects, Start}
use Rattle.operator_model.specs.Handle.{StepResult}
use Rattle.run_model.specs.declared.step.Step.TheVariants as steps
use Rattle.run_model.proofs.Entries.{get_same, get_other, same_at}
use Rattle.run_model.proofs.OwnRuns.{alone_same}
use Rattle.run_model.proofs.Numbers.{Numbered}
use Rattle.run_model.proofs.Kept.{collects_more}

abbrev pub parts_in : List Numbered → List ElementsFields
parts_in frames = map (λ frame. frame.1) frames

-- ---- one frame more is taken from those that are put out

module _ (frames rest : List Numbered) (frame : Numbered) (count : ℕ) (front : drop count frames ≡ frame ∷ rest) where
  pub count_within : count < length frames
  count_within = let long = length-drop count frames in let some = ap length front in omega (arith, long, some)

  both : ◌≡◌ {A = List Numbered} (get_or frames count frame ∷ drop (count + 1) frames) (frame ∷ rest)
  both = sym (drop_more frames count frame count_within) ∙ front

  pub rest_is : drop (count + 1) frames ≡ rest
  rest_is = ap (λ (xs : List Numbered). drop 1 xs) both

  pub put_is : (made : ℕ) → made ≤ count → parts_in (drop made (take (count + 1) frames)) ≡ parts_in (drop made (take count frames)) ++ frame.1 ∷ []
  put_is made le =
      let first : get_or frames count frame ≡ frame = same_Some (get_or frames count frame) frame (ap (λ (xs : List Numbered). slice_get xs 0) both) in
      let long = length-take-le count frames (omega (arith, count_within)) in
      ap (λ (xs : List Numbered). parts_in (drop made xs)) (take_more frames count frame count_within)
      ∙ (ap parts_in (drop-append-le made (take count frames) (get_or frames count frame ∷ []) (omega (arith, long)))
      ∙ (map-append (λ (x : Numbered). x.1) (drop made (take count frames)) (get_or frames count frame ∷ [])
      ∙ ap (λ (x : Numbered). parts_in (drop made (take count frames)) ++ x.1 ∷ []) first))

pub put_length : (made count : ℕ) (frames : List Numbered) → count ≤ length frames → length (parts_in (drop made (take count frames))) ≡ count - made
put_length made count frames le =
    let a = length-map (drop made (take count frames)) (λ (x : Numbered). x.1) in
    let b = length-drop made (take count frames) in
    let c = length-take-le count frames le in
    omega (arith, a, b, c)

-- the first part that is put and in no MAP
pub first_put : (made count : ℕ) (frames : List Numbered) (part : ElementsFields) → slice_get (parts_in (drop made (take count frames))) 0 ≡ Some part → (frame : Numbered) × (slice_get frames made ≡ Some frame) × (frame.1 ≡ part)
first_put zero zero frames part e = let f : ◌≡◌ {A = Option ElementsFields} None (Some part) = e in absurd (none-some part f)
first_put zero (suc count) [] part e = let f : ◌≡◌ {A = Option ElementsFields} None (Some part) = e in absurd (none-some part f)
first_put zero (suc count) (frame ∷ frames) part e = (frame, refl, same_Some frame.1 part e)
first_put (suc made) zero frames part e = let f : ◌≡◌ {A = Option ElementsFields} None (Some part) = e in absurd (none-some part f)
first_put (suc made) (suc count) [] part e = let f : ◌≡◌ {A = Option ElementsFields} None (Some part) = e in absurd (none-some part f)
first_put (suc made) (suc count) (frame ∷ frames) part e = first_put made count frames part e

-- ---- once the frame of an operator is collected

module _ (plant : PlantFields) (start : Start) (before : List Step) (k : ℕ) where
  abbrev pub then_collected : List Step
  then_collected = before ++ steps.Collect k ∷ []

  -- a collection is no operator's own step
  pub alone_collected : (i : ℕ) (row : RowFields) → isolated_run_from plant.consts start row i then_collected ≡ isolated_run_from plant.consts start row i before
  alone_collected i row = alone_same plant.consts start row i before (steps.Collect k) refl

  pub count_here : (i : ℕ) → i ≡ k → collects_of i then_collected ≡ collects_of i before + 1
  count_here i same =
      let more = collects_more i before (steps.Collect k) in
      let one : ◌≡◌ {A = ℕ} (cond (k == i) 1 0) 1 = rw (eq-eqb k i (sym same)) refl in
      omega (arith, more, one)

  pub count_else : (i : ℕ) → (i ≡ k → ⊥) → collects_of i then_collected ≡ collects_of i before
  count_else i other =
      let more = collects_more i before (steps.Collect k) in
      let none : ◌≡◌ {A = ℕ} (cond (k == i) 1 0) 0 = rw (ne_eqb k i (λ e. other (sym e))) refl in
      omega (arith, more, none)

  pub count_grows : (i : ℕ) → collects_of i before ≤ collects_of i then_collected
  count_grows i = let more = collects_more i before (steps.Collect k) in omega (arith, more)

  -- a frame is put
  frames_here : (made i : ℕ) (row : RowFields) (waiting : List Numbered) (frame : Numbered) (put : List ElementsFields) → i ≡ k → made ≤ collects_of i before → AreFramesFrom plant start before made i row (frame ∷ waiting) put
      → AreFramesFrom plant start then_collected made i row waiting (put ++ frame.1 ∷ [])
  frames_here made i row waiting frame put same le are =
      let all : List Numbered = frames_of (isolated_run_from plant.consts start row i before).outputs in
      let front : drop (collects_of i before) all ≡ frame ∷ waiting = sym are.waiting_are in
      let outputs : frames_of (isolated_run_from plant.consts start row i then_collected).outputs ≡ all = ap (λ (r : StepResult). frames_of r.outputs) (alone_collected i row) in
      record {
        waiting_are = sym ((λ n. drop (count_here i same n) (outputs n)) ∙ rest_is all waiting frame (collects_of i before) front);
        put_are =
            ap (λ (ps : List ElementsFields). ps ++ frame.1 ∷ []) are.put_are
            ∙ (sym (put_is all waiting frame (collects_of i before) front made le) ∙ sym (λ n. parts_in (drop made (take (count_here i same n) (outputs n)))));
      }

  frames_else : (made i : ℕ) (row : RowFields) (waiting : List Numbered) (put : List ElementsFields) → (i ≡ k → ⊥) → AreFramesFrom plant start before made i row waiting put → AreFramesFrom plant start then_collected made i row waiting put
  frames_else made i row waiting put other are =
      let outputs : frames_of (isolated_run_from plant.consts start row i then_collected).outputs ≡ frames_of (isolated_run_from plant.consts start row i before).outputs = ap (λ (r : StepResult). frames_of r.outputs) (alone_collected i row) in
      record {
        waiting_are = are.waiting_are ∙ sym (λ n. drop (count_else i other n) (outputs n));
        put_are = are.put_are ∙ sym (λ n. parts_in (drop made (take (count_else i other n) (outputs n))));
      }

  -- the first of the parts goes into a MAP
  pub frames_made : (made i : ℕ) (row : RowFields) (waiting : List Numbered) (put : List ElementsFields) → AreFramesFrom plant start then_collected made i row waiting put → AreFramesFrom plant start then_collected (made + 1) i row waiting (drop 1 put)
  frames_made made i row waiting put are =
      let all : List Numbered = take (collects_of i then_collected) (frames_of (isolated_run_from plant.consts start row i then_collected).outputs) in
      record {
        waiting_are = are.waiting_are;
        put_are = ap (λ (ps : List ElementsFields). drop 1 ps) are.put_are ∙ (drop-map (λ (x : Numbered). x.1) 1 (drop made all) ∙ ap parts_in (drop-drop 1 made all));
      }

module _ (plant : PlantFields) (start : Start) (before : List Step) (outs : List Out) (k : ℕ) (now : List Out) (old new : CoreView) (reached : IsStateAfterFrom plant start before outs old) (collects : Collects k old new now) where
  abbrev pub with_it : List (List ElementsFields)
  with_it = with_part old.gathering.queues k collects.part

  pub k_within : k < length old.gathering.queues
  k_within = let within = slice_get_within old.queues k ((collects.frame, collects.part) ∷ collects.waiting) collects.waiting_is in omega (arith, within, reached.one_queue, reached.gathered.one_each)

  pub here_before : (i : ℕ) (row : RowFields) → slice_get plant.rows i ≡ Some row → i ≡ k → AreFramesFrom plant start before (length (maps_in outs)) i row ((collects.frame, collects.part) ∷ collects.waiting) (queue_of old.gathering.queues k)
  here_before i row e same =
      reached.frames i row ((collects.frame, collects.part) ∷ collects.waiting) (queue_of old.gathering.queues k) e
      (ap (slice_get old.queues) same ∙ collects.waiting_is) (ap (slice_get old.gathering.queues) same ∙ slice_get-get_or old.gathering.queues k [] k_within)

  -- the frames of each operator, before the MAP that this one may give
  pub frames_put : (i : ℕ) (row : RowFields) (waiting : List Numbered) (put : List ElementsFields) → slice_get plant.rows i ≡ Some row → slice_get new.queues i ≡ Some waiting → slice_get with_it i ≡ Some put
      → AreFramesFrom plant start (then_collected plant start before k) (length (maps_in outs)) i row waiting put
  frames_put i row waiting put e f g = by (cases_eq i k)
    where
      by : (i ≡ k) ⊎ (i ≡ k → ⊥) → AreFramesFrom plant start (then_collected plant start before k) (length (maps_in outs)) i row waiting put
      by (inl same) =
          let queues : slice_get new.queues i ≡ Some collects.waiting =
          ap (λ (c : CoreView). slice_get c.queues i) collects.new_is
          ∙ (ap (slice_get (slice_set old.queues k collects.waiting)) same ∙ get_same old.queues k collects.waiting (slice_get_within old.queues k ((collects.frame, collects.part) ∷ collects.waiting) collects.waiting_is)) in
          let puts : slice_get with_it i ≡ Some (queue_of old.gathering.queues k ++ collects.part ∷ []) =
          ap (slice_get with_it) same ∙ get_same old.gathering.queues k (queue_of old.gathering.queues k ++ collects.part ∷ []) k_within in
          subst (λ (w : List Numbered). AreFramesFrom plant start (then_collected plant start before k) (length (maps_in outs)) i row w put) (same_at new.queues i collects.waiting waiting queues f)
          (subst (λ (p : List ElementsFields). AreFramesFrom plant start (then_collected plant start before k) (length (maps_in outs)) i row collects.waiting p) (same_at with_it i (queue_of old.gathering.queues k ++ collects.part ∷ []) put puts g)
          (frames_here plant start before k (length (maps_in outs)) i row collects.waiting (collects.frame, collects.part) (queue_of old.gathering.queues k) same
          (reached.shown.maps.count.at_most i (slice_get_within plant.rows i row e)) (here_before i row e same)))
      by (inr other) =
          let queues : slice_get old.queues i ≡ Some waiting = sym (ap (λ (c : CoreView). slice_get c.queues i) collects.new_is ∙ get_other old.queues k i collects.waiting other) ∙ f in
          let puts : slice_get old.gathering.queues i ≡ Some put = sym (get_other old.gathering.queues k i (queue_of old.gathering.queues k ++ collects.part ∷ []) other) ∙ g in
          frames_else plant start before k (length (maps_in outs)) i row waiting put other (reached.frames i row waiting put e queues puts)

  -- no more are collected than were put out
  pub still_within : (i : ℕ) (row : RowFields) → slice_get plant.rows i ≡ Some row → collects_of i (then_collected plant start before k) ≤ length (frames_of (isolated_run_from plant.consts start row i (then_collected plant start before k)).outputs)
  still_within i row e = by (cases_eq i k)
    where
      long : length (frames_of (isolated_run_from plant.consts start row i (then_collected plant start before k)).outputs) ≡ length (frames_of (isolated_run_from plant.consts start row i before).outputs)
      long = ap (λ (r : StepResult). length (frames_of r.outputs)) (alone_collected plant start before k i row)

      by : (i ≡ k) ⊎ (i ≡ k → ⊥) → collects_of i (then_collected plant start before k) ≤ length (frames_of (isolated_run_from plant.consts start row i (then_collected plant start before k)).outputs)
      by (inl same) =
          let more = count_here plant start before k i same in
          let lt = count_within (frames_of (isolated_run_from plant.consts start row i before).outputs) collects.waiting (collects.frame, collects.part) (collects_of i before) (sym (here_before i row e same).waiting_are) in
          omega (arith, more, lt, long)
      by (inr other) =
          let none = count_else plant start before k i other in
          let le = reached.gathered.collected i row e in
          omega (arith, none, le, long)
