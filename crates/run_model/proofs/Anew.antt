-- Slices that each operator's book takes, and of which no two meet, are taken by the assembly.
use Rattle.std.proofs.Common.{◌≡◌, ℕ, zero, suc, ◌+◌, ◌<◌, ◌≤◌, ◌==◌, ◌||◌, Bool, true, false, cond, List, [], ◌∷◌, ◌++◌, length, map, All, AllPairs, get_or, is_some, Option, Some, None, option_map, refl, sym, ap, ◌∙◌, subst, arith, nat_le, nat_lt}
use Rattle.run_model.proofs.Common.{slice_get, count_by, if◌then◌else◌, AllByRecursion, range_with_len, or_parts, leb-false, ltb-false, eqb-false, eqb-true, length-map, All-from_recursion, slice_get-get_or, slice_get_within, slice_get-map, get_or_from_slice_get, Minislots, slices_overlap, ElementsFields, recursion-append, ConstsFields, RowFields, PlantFields, IsPlant, SliceRow, Action, Arrive, Work, Tick, Reslice, OperatorState, Operator, operator, next_at, is_tick, BookView, operator_of_book, SliceFrom, reslicings_in, MayRun, waiting_slice, arrived_none, worked_none, run_puts, Channel, Reslicing, quota_of, IsInFrame, AreSlices, Gathering, next_of, IsGathering, HasPutNoneFrom, MayReslice, Step, Out, own_steps, slice_of, reslicings_of, isolated_run_from, CoreView, IsStateAfterFrom, frames_of, Start, first_start, own_of, IsStart, IsStateAfter}
use Rattle.flow_table.specs.Table.{committed_minislots}
use Rattle.operator_model.specs.declared.action.Unfit.TheVariants.{NotPast, Unfinished, OffFrame, BudgetOverSlice, OverBudget}
use Rattle.operator_model.specs.declared.share.NextShare.{NextShare}
use Rattle.operator_model.specs.Machine.{arrival_result, work_result, own_step, own_run, is_off_frame, unfit_from, IsAllowed}
use Rattle.operator_model.proofs.KeptLemmas.{pairs-map}
use Rattle.run_model.proofs.Entries.{some_at}
use Rattle.run_model.proofs.Numbers.{Numbered, numbers_are}
use Rattle.run_model.proofs.Fits.{may, own_all, put_so_far, queue_there, opened_starts}

-- ---- what a book that takes a row tells

record Takes (consts : ConstsFields) (state : OperatorState) (from : ℕ) (row : SliceRow) : Type 0 where
  pub past : state.frame < from
  pub free : is_some state.next ≡ false
  pub on : is_off_frame consts row ≡ false

takes : (op : Operator) (from : ℕ) (row : SliceRow) → unfit_from op from row ≡ None → Takes op.consts op.state from row
takes op from row h = by (nat_le from op.state.frame) (is_some op.state.next) (is_off_frame op.consts row) refl refl refl h
  where
    by : (a b c : Bool) → nat_le from op.state.frame ≡ a → is_some op.state.next ≡ b → is_off_frame op.consts row ≡ c
        → (if a then Some NotPast else if b then Some Unfinished else if c then Some OffFrame else
        if nat_lt row.length row.budget then Some BudgetOverSlice else
        if nat_lt row.budget (committed_minislots op.consts.units op.state.flows) then Some OverBudget else
        None) ≡ None → Takes op.consts op.state from row
    by true b c p q r h = cc
    by false true c p q r h = cc
    by false false true p q r h = cc
    by false false false p q r h = record { past = leb-false from op.state.frame p; free = q; on = r }

in_frame : (consts : ConstsFields) (row : SliceRow) → is_off_frame consts row ≡ false → IsInFrame consts.channel (slice_of row)
in_frame consts row h =
    let a = or_parts ((row.length == 0) || nat_lt row.start consts.channel.head) (nat_lt consts.channel.frame_minislots (row.start + row.length)) h in
    let b = or_parts (row.length == 0) (nat_lt row.start consts.channel.head) a.0 in
    let some = eqb-false row.length 0 b.0 in
    record {
      some = omega (arith, some);
      behind_head = ltb-false row.start consts.channel.head b.1;
      within_frame = ltb-false consts.channel.frame_minislots (row.start + row.length) a.1;
    }

-- ---- how far the slices are given out

-- the first frame of what waits, else the next frame
abbrev reach_of : ℕ → Option NextShare → ℕ
reach_of frame None = frame
reach_of frame (Some next) = next.from

abbrev reach : OperatorState → ℕ
reach state = reach_of state.frame state.next

none_waits : (frame : ℕ) (next : Option NextShare) → is_some next ≡ false → reach_of frame next ≡ frame
none_waits frame None h = refl
none_waits frame (Some next) h = cc

turned : (frame : ℕ) (next : Option NextShare) → reach_of frame next ≤ reach_of (frame + 1) (next_at (frame + 1) next)
turned frame None = omega arith
turned frame (Some next) = by (next.from == frame + 1) refl
  where
    by : (b : Bool) → (next.from == frame + 1) ≡ b → next.from ≤ reach_of (frame + 1) (cond b None (Some next))
    by true e = omega (arith, eqb-true next.from (frame + 1) e)
    by false e = omega arith

stays : (old new : OperatorState) → new.frame ≡ old.frame → new.next ≡ old.next → reach old ≤ reach new
stays old new frame next = let same : reach new ≡ reach old = λ n. reach_of (frame n) (next n) in omega (arith, same)

module _ (consts : ConstsFields) (row : RowFields) where
  step_reach : (state : OperatorState) (action : Action) → IsAllowed (operator consts row state) action → reach state ≤ reach (own_step (operator consts row state) action).state
  unfolding own_step
  step_reach state (Arrive modem heard) allowed = let same = arrived_none (operator consts row state) modem heard in stays state (arrival_result (operator consts row state) modem heard).state same.frame same.waits
  step_reach state Work allowed = let same = worked_none (operator consts row state) state.inbox in stays state (work_result (operator consts row state) state.inbox).state same.frame same.waits
  step_reach state Tick allowed = turned state.frame state.next
  step_reach state (Reslice from offered) allowed =
      let fit = takes (operator consts row state) from offered allowed.fit in
      omega (arith, none_waits state.frame state.next fit.free, fit.past)

  offered_reach : (state : OperatorState) (from : ℕ) (offered : SliceRow) → reach (own_step (operator consts row state) (Reslice from offered)).state ≡ from
  unfolding own_step
  offered_reach state from offered = refl

  run_reach : (state : OperatorState) (actions : List Action) → MayRun (operator consts row state) actions → reach state ≤ reach (own_run (operator consts row state) actions).state
  run_reach state [] may = omega arith
  run_reach state (action ∷ actions) may =
      omega (arith, step_reach state action may.0, run_reach (own_step (operator consts row state) action).state actions may.1)

  -- no re-slicing of a run is from a later frame on
  within_reach : (state : OperatorState) (actions : List Action) → MayRun (operator consts row state) actions
      → AllByRecursion (λ (r : SliceFrom). r.from ≤ reach (own_run (operator consts row state) actions).state) (reslicings_in actions)
  within_reach state [] may = tt
  within_reach state (Arrive modem heard ∷ actions) may = within_reach (own_step (operator consts row state) (Arrive modem heard)).state actions may.1
  within_reach state (Work ∷ actions) may = within_reach (own_step (operator consts row state) Work).state actions may.1
  within_reach state (Tick ∷ actions) may = within_reach (own_step (operator consts row state) Tick).state actions may.1
  within_reach state (Reslice from offered ∷ actions) may =
      let later = own_step (operator consts row state) (Reslice from offered) in
      (omega (arith, run_reach later.state actions may.1, offered_reach state from offered), within_reach later.state actions may.1)

-- what waited at first lies within it
waited_reach : (frame : ℕ) (next : Option NextShare) (bound : ℕ) → reach_of frame next ≤ bound → AllByRecursion (λ (r : SliceFrom). r.from ≤ bound) (waiting_slice next)
waited_reach frame None bound h = tt
waited_reach frame (Some next) bound h = (h, tt)

before : (i bound from : ℕ) (rs : List Reslicing) → bound < from → AllByRecursion (λ (r : SliceFrom). r.from ≤ bound) (map (own_of i) rs) → AllByRecursion (λ (r : Reslicing). r.from < from) rs
before i bound from [] lt h = tt
before i bound from (r ∷ rs) lt h = (omega (arith, lt, h.0), before i bound from rs lt h.1)

length_range : (a n : ℕ) → length (range_with_len a n) ≡ n
length_range a zero = refl
length_range a (suc n) = omega (arith, length_range (a + 1) n)

-- ---- a re-slicing that each book takes

module _ (plant : PlantFields) (start : Start) (done : List Step) (outs : List Out) (core : CoreView) (from : ℕ) (rows : List SliceRow) (valid : IsPlant plant) (starts : IsStart plant start) (reached : IsStateAfterFrom plant start done outs core) (is : IsGathering core.gathering)
    (one : length rows ≡ length core.books) (apart : AllPairs (λ a b. slices_overlap (slice_of a) (slice_of b) ≡ false) rows)
    (fit : (i : ℕ) (row : SliceRow) (book : BookView) → slice_get rows i ≡ Some row → slice_get core.books i ≡ Some book → unfit_from (operator_of_book book) from row ≡ None) where
  abbrev g : Gathering
  g = core.gathering

  quotas_long : length g.quotas ≡ length plant.rows
  quotas_long = ap length reached.gathered.quotas_are ∙ length-map plant.rows quota_of

  -- the operator's own machine takes its row
  own_takes : (i : ℕ) (row : RowFields) → slice_get plant.rows i ≡ Some row → (offered : SliceRow) × (slice_get rows i ≡ Some offered) × Takes plant.consts (isolated_run_from plant.consts start row i done).state from offered
  own_takes i row here =
      let within = slice_get_within plant.rows i row here in
      let book = some_at core.books i (omega (arith, within, reached.one_book)) in
      let offered = some_at rows i (omega (arith, within, reached.one_book, one)) in
      let after = reached.books i row book.0 here book.1 in (
        offered.0,
        offered.1,
        takes (operator plant.consts row (isolated_run_from plant.consts start row i done).state) from offered.0
            ((λ n. unfit_from (operator (sym after.consts_are n) row (sym after.state_is n)) from offered.0) ∙ fit i offered.0 book.0 offered.1 book.1),
      )

  each_in_frame : All (IsInFrame g.channel) (map slice_of rows)
  each_in_frame k d lt =
      let long = length-map rows slice_of in
      let row = some_at plant.rows k (omega (arith, lt, long, one, reached.one_book)) in
      let offered = own_takes k row.0 row.1 in
      let slice : slice_of offered.0 ≡ get_or (map slice_of rows) k d =
      sym (get_or_from_slice_get (map slice_of rows) k (slice_of offered.0) d (slice_get-map slice_of rows k ∙ ap (option_map slice_of) offered.1)) in
      subst (λ (m : Minislots). IsInFrame g.channel m) slice
      (subst (λ (l : Channel). IsInFrame l (slice_of offered.0)) (sym reached.gathered.channel_is) (in_frame plant.consts offered.0 offered.2.on))

  given : AreSlices g.channel (length g.quotas) (map slice_of rows)
  given = record {
    one_each = let long = length-map rows slice_of in omega (arith, long, one, reached.one_book, quotas_long);
    each = each_in_frame;
    apart = pairs-map (λ (a b : SliceRow). slices_overlap (slice_of a) (slice_of b) ≡ false) (λ (a b : Minislots). slices_overlap a b ≡ false) slice_of (λ a b h. h) rows apart;
  }

  later : All (λ (r : Reslicing). r.from < from) g.reslicings
  later =
      let first = some_at plant.rows 0 (omega (arith, valid.some)) in
      let own = first.0 in
      let offered = own_takes 0 own first.1 in
      let at = start.state own in
      let state = (isolated_run_from plant.consts start own 0 done).state in
      let run = may plant start done outs core starts reached is 0 own first.1 in
      subst (λ (rs : List Reslicing). All (λ (r : Reslicing). r.from < from) rs) (sym reached.gathered.reslicings_are)
      (All-from_recursion (λ (r : Reslicing). r.from < from) (start.waiting ++ reslicings_of done)
      (before 0 (reach state) from (start.waiting ++ reslicings_of done) (omega (arith, none_waits state.frame state.next offered.2.free, offered.2.past))
      (subst (λ (rs : List SliceFrom). AllByRecursion (λ (r : SliceFrom). r.from ≤ reach state) rs)
      (sym (own_all plant start done outs core starts reached is 0 own first.1))
      (recursion-append (λ (r : SliceFrom). r.from ≤ reach state) (waiting_slice at.next) (reslicings_in (own_steps own 0 done))
      (waited_reach at.frame at.next (reach state) (run_reach plant.consts own at (own_steps own 0 done) run))
      (within_reach plant.consts own at (own_steps own 0 done) run)))))

  -- no more frames are put than ticked
  behind : (i : ℕ) (row : RowFields) → slice_get plant.rows i ≡ Some row → next_of g i ≤ (isolated_run_from plant.consts start row i done).state.frame
  behind i row here =
      let puts = run_puts plant.consts row (start.state row) (own_steps row i done) in
      let count = count_by is_tick (own_steps row i done) in
      let frames = frames_of (isolated_run_from plant.consts start row i done).outputs in
      let long : length frames ≡ count =
      sym (length-map frames (λ (frame : Numbered). frame.0)) ∙ (ap (λ (ns : List ℕ). length ns) (numbers_are (isolated_run_from plant.consts start row i done).outputs ∙ puts.numbers) ∙ length_range (start.state row).frame count) in
      omega (arith, put_so_far plant start done outs core starts reached is i row here, reached.gathered.collected i row here, long, puts.next, starts.at_one_frame i row here)

  past : All (HasPutNoneFrom g from) g.queues
  past k d lt started =
      let row = some_at plant.rows k (omega (arith, lt, reached.gathered.one_each)) in
      let offered = own_takes k row.0 row.1 in
      let there = queue_there g.queues k (get_or g.queues k d) (slice_get-get_or g.queues k d lt) in
      let same = ap (λ (q : List ElementsFields). length q) there in
      omega (arith, behind k row.0 row.1, same, offered.2.past)

  pub anew_from : MayReslice g from (map slice_of rows)
  anew_from = record { slices_are = given; later = later; past = past }

-- ---- from the opened plant

module _ (plant : PlantFields) (done : List Step) (outs : List Out) (core : CoreView) (from : ℕ) (rows : List SliceRow) (valid : IsPlant plant) (reached : IsStateAfter plant done outs core) (is : IsGathering core.gathering)
    (one : length rows ≡ length core.books) (apart : AllPairs (λ a b. slices_overlap (slice_of a) (slice_of b) ≡ false) rows)
    (fit : (i : ℕ) (row : SliceRow) (book : BookView) → slice_get rows i ≡ Some row → slice_get core.books i ≡ Some book → unfit_from (operator_of_book book) from row ≡ None) where
  pub slices_anew : MayReslice core.gathering from (map slice_of rows)
  slices_anew = anew_from plant (first_start plant) done outs core from rows valid (opened_starts plant core.gathering valid reached.gathered.slices_are is) reached is one apart fit
