-- A live core that rests, and its operators in the states that are saved of them.
use Rattle.std.proofs.Common.{◌≡◌, ◌≢◌, ℕ, suc, ◌≤◌, List, [], ◌∷◌, length, map, Option, Some, None, option_map, refl, sym, ap, subst, ◌∙◌, arith}
use Rattle.restart_laws.proofs.Common.{slice_get, AllByRecursion, length-map, map-id, All-from_recursion, slice_get-map, slice_get_within, Minislots, RowFields, PlantFields, KeepsConsts, IsPlant, NextShare, OperatorState, Operator, operator, opened_state, BookView, IsSound, Reslicing, quota_of, AreQuotas, AreSlices, frame_slices, IsGathering, PairsByRecursion, pairs_from_AllPairs, pairs-map, Step, Out, own_steps, Start, CoreView, IsPlantChange, gathering_from, started_core, some_at, may, IsAfterFrom, later_of, waiting_if, waiting_among, waits_from, first_from, MayResume, GoesAlong, GoTogether, slices_now, slices_next, HaveOwnNames, own_state, map_is, over_map, resumed_starts, book_at_place, stands_now, rests_at, HasCore, behind, started_after, state_under, state_or_opened, operator_by_name, operators_by_name, start_by_name, state_of_book, states_by_name, IsRestarted, IsOfItsModems, StartsOfItsModems}
use Rattle.plant.proofs.Kept.{keeps_itself}
use Rattle.plant_core.specs.live.Resting.{Rests}
use Rattle.plant_restart.specs.Changing.{IsChangeOf}
use Rattle.plant_restart.proofs.NameLemmas.{state_there}
use Rattle.plant_restart.proofs.ChangeLemmas.{change_of}
use Rattle.restart_laws.proofs.ModemLemmas.{run_of_its_modems}
use Rattle.restart_laws.proofs.RunLemmas as runs

-- ---- lists

pub each_place : {X : Type 0} (P : X → Type 0) (xs : List X) → ((i : ℕ) (x : X) → slice_get xs i ≡ Some x → P x) → AllByRecursion P xs
each_place P [] h = tt
each_place P (x ∷ xs) h = (h 0 x refl, each_place P xs (λ i y e. h (suc i) y e))

each_mapped : {X Y : Type 0} (P : Y → Type 0) (f : X → Y) (xs : List X) → ((i : ℕ) (x : X) → slice_get xs i ≡ Some x → P (f x)) → AllByRecursion P (map f xs)
each_mapped P f [] h = tt
each_mapped P f (x ∷ xs) h = (h 0 x refl, each_mapped P f xs (λ i y e. h (suc i) y e))

first_alike : (from : Option ℕ) (ops : List Operator) → 1 ≤ length ops → AllByRecursion (λ (o : Operator). waits_from o ≡ from) ops → first_from ops ≡ from
first_alike from [] some alike = absurd (omega (arith, some))
first_alike from (o ∷ ops) some alike = alike.0

waiting_each : (P : List Minislots → Type 0) (next : Option NextShare) (ops : List Operator) → P (map later_of ops) → AllByRecursion (λ (r : Reslicing). P r.slicing) (waiting_if next ops)
waiting_each P None ops p = tt
waiting_each P (Some next) ops p = (p, tt)

waiting_valid : (P : List Minislots → Type 0) (ops : List Operator) → P (map later_of ops) → AllByRecursion (λ (r : Reslicing). P r.slicing) (waiting_among ops)
waiting_valid P [] p = tt
waiting_valid P (o ∷ ops) p = waiting_each P o.state.next (o ∷ ops) p

-- ---- where operators start by their names

module _ (plant : PlantFields) (frame : ℕ) (states : List (List ℕ × OperatorState)) (valid : IsPlant plant) where
  by_rows : map (λ (o : Operator). o.row) (operators_by_name plant frame states) ≡ plant.rows
  by_rows = over_map (λ (o : Operator). o.row) (operator_by_name plant.consts frame states) plant.rows ∙ map-id plant.rows

  by_names : HaveOwnNames (operators_by_name plant frame states)
  by_names =
      subst (λ (rows : List RowFields). PairsByRecursion (λ (a b : RowFields). a.name ≢ b.name) rows) (sym by_rows)
      (pairs_from_AllPairs (λ (a b : RowFields). a.name ≢ b.name) plant.rows valid.names)

  pub start_of : (i : ℕ) (row : RowFields) → slice_get plant.rows i ≡ Some row → (start_by_name plant frame states).state row ≡ state_or_opened frame plant.consts row (state_under states row.name)
  start_of i row here =
      own_state (operators_by_name plant frame states) (opened_state plant.consts row) i (operator_by_name plant.consts frame states row) by_names
      (slice_get-map (operator_by_name plant.consts frame states) plant.rows i ∙ ap (option_map (operator_by_name plant.consts frame states)) here)

-- ---- the core

module _ (plant : PlantFields) (start : Start) (steps : List Step) (outs : List Out) (live : CoreView) (frame : ℕ) (after : IsAfterFrom plant start steps outs live) (valid : IsPlant plant) (rests : Rests live frame) where
  -- the core with histories behind it
  abbrev had : HasCore plant start steps outs live
  had = behind plant start steps outs live after

  abbrev pub now_at : ℕ → RowFields → OperatorState
  now_at i row = runs.now_at plant start steps outs had.core had.starts had.reached had.is_of.held i row

  pub same_plant : live.plant ≡ plant
  same_plant = after.plant_is

  pub as_many : length live.books ≡ length plant.rows
  as_many = after.one_book

  -- the row of a book, and its state
  pub record IsAtRow (i : ℕ) (book : BookView) : Type 0 where
    pub row_there : slice_get plant.rows i ≡ Some book.row
    pub state_is : book.state ≡ now_at i book.row

  pub at_row : (i : ℕ) (book : BookView) → slice_get live.books i ≡ Some book → IsAtRow i book
  at_row i book here =
      let row = some_at plant.rows i (omega (arith, slice_get_within live.books i book here, as_many)) in
      let stands = stands_now plant start steps outs live after i row.0 book row.1 here in
      record {
        row_there = row.1 ∙ ap (λ (r : RowFields). let o : Option RowFields = Some r in o) (sym stands.0);
        state_is = stands.1 ∙ ap (now_at i) (sym stands.0);
      }

  pub rows_are : map (λ (book : BookView). book.row) live.books ≡ plant.rows
  rows_are = map_is (λ (book : BookView). book.row) live.books plant.rows as_many (λ i book here. (at_row i book here).row_there)

  own_books : PairsByRecursion (λ (a b : BookView). (state_of_book a).0 ≢ (state_of_book b).0) live.books
  own_books =
      pairs-map (λ (a b : RowFields). a.name ≢ b.name) (λ (book : BookView). book.row) live.books
      (subst (λ (rows : List RowFields). PairsByRecursion (λ (a b : RowFields). a.name ≢ b.name) rows) (sym rows_are)
      (pairs_from_AllPairs (λ (a b : RowFields). a.name ≢ b.name) plant.rows valid.names))

  abbrev pub states : List (List ℕ × OperatorState)
  states = states_by_name live

  abbrev pub ops : List Operator
  ops = operators_by_name plant frame states

  module _ (i : ℕ) (row : RowFields) (here : slice_get plant.rows i ≡ Some row) where
    -- the state under the name of a row
    pub found : state_under states row.name ≡ Some (now_at i row)
    found =
        let book = book_at_place plant start steps outs live after i row here in
        state_there state_of_book live.books i book.book row.name own_books book.held (ap (λ (r : RowFields). r.name) book.row_is)
        ∙ ap (λ (s : OperatorState). let o : Option OperatorState = Some s in o) book.state_is

    pub op_is : operator_by_name plant.consts frame states row ≡ operator plant.consts row (now_at i row)
    op_is = ap (λ (o : Option OperatorState). operator plant.consts row (state_or_opened frame plant.consts row o)) found

    pub at_frame : (now_at i row).frame ≡ frame
    at_frame = (rests_at plant start steps outs live after frame rests).before i row here

    pub sound_at : IsSound (operator plant.consts row (now_at i row))
    sound_at = runs.sound_now plant start steps outs had.core had.starts had.reached had.is_of.held i row here

    past : plant.consts.channel.first_frame ≤ frame
    past =
        let le = runs.frame_past plant start steps outs had.core had.starts had.reached had.is_of.held i row here ((rests_at plant start steps outs live after frame rests).collected i row here) in
        omega (arith, le, at_frame)

  -- whose all of it is
  pub of_its_modems : StartsOfItsModems (record { plant = plant; start = start; steps = steps; outs = outs }) → (i : ℕ) (row : RowFields) → slice_get plant.rows i ≡ Some row → IsOfItsModems row (now_at i row)
  of_its_modems starts i row here =
      run_of_its_modems row plant.consts (start.state row) (own_steps row i steps) (starts i row here) (may plant start steps outs had.core had.starts had.reached had.is_of.held i row here)

  -- what is so of each operator as it is now
  pub each_op : (P : Operator → Type 0) → ((i : ℕ) (row : RowFields) → slice_get plant.rows i ≡ Some row → P (operator plant.consts row (now_at i row))) → AllByRecursion P ops
  each_op P h = each_mapped P (operator_by_name plant.consts frame states) plant.rows (λ i row here. subst P (sym (op_is i row here)) (h i row here))

  pub has_begun : plant.consts.channel.first_frame ≤ frame
  has_begun = let row = some_at plant.rows 0 (let some = valid.some in omega (arith, some)) in past 0 row.0 row.1

  pub waits : Option ℕ
  waits = runs.first_of (runs.coming frame (runs.changes plant start steps outs had.core had.starts had.reached had.is_of.held))

  pub alike : AllByRecursion (λ (o : Operator). waits_from o ≡ waits) ops
  unfolding waits
  alike = each_op (λ (o : Operator). waits_from o ≡ waits) (λ i row here.
      subst (λ (n : ℕ). option_map (λ (next : NextShare). next.from) (now_at i row).next ≡ runs.first_of (runs.coming n (runs.changes plant start steps outs had.core had.starts had.reached had.is_of.held)))
      (at_frame i row here) (runs.from_now plant start steps outs had.core had.starts had.reached had.is_of.held i row here))

  pub frames_alike : AllByRecursion (λ (o : Operator). o.state.frame ≡ frame) ops
  frames_alike = each_op (λ (o : Operator). o.state.frame ≡ frame) at_frame

  consts_each : (rows : List RowFields) → AllByRecursion (λ (o : Operator). o.consts ≡ plant.consts) (map (operator_by_name plant.consts frame states) rows)
  consts_each [] = tt
  consts_each (row ∷ rows) = (refl, consts_each rows)

  ops_long : length ops ≡ length plant.rows
  ops_long = length-map plant.rows (operator_by_name plant.consts frame states)

  pub may_resume : MayResume plant frame ops
  may_resume = record {
    rows_are = by_rows plant frame states valid;
    consts_are = All-from_recursion (λ (o : Operator). o.consts ≡ plant.consts) ops (consts_each plant.rows);
    sound = All-from_recursion IsSound ops (each_op IsSound sound_at);
    at_one_frame = All-from_recursion (λ (o : Operator). o.state.frame ≡ frame) ops frames_alike;
    from = waits;
    wait_alike = All-from_recursion (λ (o : Operator). waits_from o ≡ waits) ops alike;
  }

  pub go_together : GoTogether frame ops
  go_together =
      let first : first_from ops ≡ waits = first_alike waits ops (let some = valid.some in omega (arith, ops_long, some)) alike in
      All-from_recursion (GoesAlong frame (first_from ops)) ops
      (both ops first frames_alike alike)
    where
      both : (os : List Operator) → first_from ops ≡ waits → AllByRecursion (λ (o : Operator). o.state.frame ≡ frame) os → AllByRecursion (λ (o : Operator). waits_from o ≡ waits) os → AllByRecursion (GoesAlong frame (first_from ops)) os
      both [] first at along = tt
      both (o ∷ os) first at along = (record { at_frame = at.0; waits = along.0 ∙ sym first }, both os first at.1 along.1)

  -- ---- their slices

  abbrev in_force : List Minislots
  in_force = frame_slices had.core.gathering frame

  abbrev then_force : List Minislots
  then_force = runs.slicing_or in_force (runs.coming frame (runs.changes plant start steps outs had.core had.starts had.reached had.is_of.held))

  force_valid : AreSlices plant.consts.channel (length plant.rows) in_force
  force_valid = runs.slices_now plant start steps outs had.core had.starts had.reached had.is_of.held frame

  then_valid : AreSlices plant.consts.channel (length plant.rows) then_force
  then_valid = runs.slices_later plant start steps outs had.core had.starts had.reached had.is_of.held frame

  force_there : (i : ℕ) (row : RowFields) → slice_get plant.rows i ≡ Some row → slice_get in_force i ≡ Some (now_at i row).share.slice
  force_there i row here =
      subst (λ (n : ℕ). slice_get (frame_slices had.core.gathering n) i ≡ Some (now_at i row).share.slice) (at_frame i row here)
      (runs.slice_now plant start steps outs had.core had.starts had.reached had.is_of.held i row here)

  then_there : (i : ℕ) (row : RowFields) → slice_get plant.rows i ≡ Some row → slice_get then_force i ≡ Some (later_of (operator plant.consts row (now_at i row)))
  then_there i row here =
      subst (λ (n : ℕ). slice_get (runs.slicing_or (frame_slices had.core.gathering n) (runs.coming n (runs.changes plant start steps outs had.core had.starts had.reached had.is_of.held))) i
      ≡ Some (later_of (operator plant.consts row (now_at i row)))) (at_frame i row here)
      (runs.next_now plant start steps outs had.core had.starts had.reached had.is_of.held i row here)

  over_ops : (f : Operator → Minislots) (slices : List Minislots) → length slices ≡ length plant.rows
      → ((i : ℕ) (row : RowFields) → slice_get plant.rows i ≡ Some row → slice_get slices i ≡ Some (f (operator plant.consts row (now_at i row)))) → map f ops ≡ slices
  over_ops f slices long h =
      over_map f (operator_by_name plant.consts frame states) plant.rows
      ∙ map_is (λ (row : RowFields). f (operator_by_name plant.consts frame states row)) plant.rows slices (sym long)
      (λ i row here. h i row here ∙ ap (λ (o : Operator). let m : Option Minislots = Some (f o) in m) (sym (op_is i row here)))

  pub now_valid : AreSlices plant.consts.channel (length plant.rows) (slices_now ops)
  now_valid = subst (AreSlices plant.consts.channel (length plant.rows)) (sym (over_ops (λ (o : Operator). o.state.share.slice) in_force force_valid.one_each force_there)) force_valid

  pub next_valid : AreSlices plant.consts.channel (length plant.rows) (slices_next ops)
  next_valid = subst (AreSlices plant.consts.channel (length plant.rows)) (sym (over_ops later_of then_force then_valid.one_each then_there)) then_valid

  -- ---- where they start

  pub start_state : (i : ℕ) (row : RowFields) → slice_get plant.rows i ≡ Some row → (start_by_name plant frame states).state row ≡ now_at i row
  start_state i row here = start_of plant frame states valid i row here ∙ ap (λ (o : Operator). o.state) (op_is i row here)

  start_slices : map (λ (row : RowFields). ((start_by_name plant frame states).state row).share.slice) plant.rows ≡ in_force
  start_slices =
      map_is (λ (row : RowFields). ((start_by_name plant frame states).state row).share.slice) plant.rows in_force (sym force_valid.one_each)
      (λ i row here. force_there i row here ∙ ap (λ (s : OperatorState). let m : Option Minislots = Some s.share.slice in m) (sym (start_state i row here)))

  quotas_long : length (map quota_of plant.rows) ≡ length plant.rows
  quotas_long = length-map plant.rows quota_of

  pub gathers : IsGathering (gathering_from plant (start_by_name plant frame states))
  gathers =
      runs.fresh_gathering (gathering_from plant (start_by_name plant frame states)) (length plant.rows) refl valid.consts.channel
      (subst AreQuotas had.reached.gathered.quotas_are had.is_of.held.quotas_are) (sym quotas_long)
      (subst (λ (n : ℕ). AreSlices plant.consts.channel n (map (λ (row : RowFields). ((start_by_name plant frame states).state row).share.slice) plant.rows)) (sym quotas_long)
      (subst (AreSlices plant.consts.channel (length plant.rows)) (sym start_slices) force_valid))
      (All-from_recursion (λ (r : Reslicing). AreSlices plant.consts.channel (length (map quota_of plant.rows)) r.slicing) (waiting_among ops)
      (waiting_valid (AreSlices plant.consts.channel (length (map quota_of plant.rows))) ops
      (subst (λ (n : ℕ). AreSlices plant.consts.channel n (slices_next ops)) (sym quotas_long) next_valid)))
      has_begun

  -- ---- the change of plant, to the same plant

  pub is_restarted : IsRestarted plant frame states (started_core plant (start_by_name plant frame states))
  is_restarted = record { is_started = refl; reached = started_after plant (start_by_name plant frame states) valid (resumed_starts plant frame ops valid may_resume) gathers }

  changed : IsChangeOf live plant (started_core plant (start_by_name plant frame states))
  changed =
      change_of live (started_core plant (start_by_name plant frame states)) plant frame (subst IsPlant (sym same_plant) valid) valid
      (subst (λ (p : PlantFields). KeepsConsts p.consts plant.consts) (sym same_plant) (keeps_itself plant.consts)) rests is_restarted gathers

  -- it rests before one frame alone
  same_frame : changed.frame ≡ frame
  same_frame =
      let book = some_at live.books 0 (let some = valid.some in omega (arith, as_many, some)) in
      sym (changed.rests.before 0 book.0 book.1) ∙ rests.before 0 book.0 book.1

  pub is_change : IsPlantChange (record { plant = plant; start = start; steps = steps; outs = outs }) (record { plant = plant; start = start_by_name plant frame states; steps = []; outs = [] })
  is_change =
      subst (λ (n : ℕ). IsPlantChange (record { plant = plant; start = start; steps = steps; outs = outs }) (record { plant = plant; start = start_by_name plant n states; steps = []; outs = [] })) same_frame
      (changed.changes plant start steps outs after)
