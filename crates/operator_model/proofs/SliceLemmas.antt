-- The slice of each frame of a run.
use Rattle.std.proofs.Common.{◌≡◌, ℕ, ◌+◌, ◌==◌, ◌<◌, ◌≤◌, Bool, true, false, cond, List, [], ◌∷◌, ◌++◌, Option, Some, None, is_some, IfSome, All, find, map, reverse, refl, sym, ap, ◌∙◌, subst, arith, nat_le}
use Rattle.operator_model.proofs.Common.{AllByRecursion, cons_option, le-leb, lt-leb, leb-false, eqb-true, eqb-false, reverse-append, All-from_recursion, resent_in, ConstsFields, RowFields, Action, Arrive, Work, Tick, Reslice, SliceRow, Entry, NotPast, Unfinished, Share, NextShare, committed_minislots, operator, OperatorState, opened_state, Operator, StepResult, share_at, next_at, resent, frame_elements, frame_numbers, actions_of, AreTold, IsReplay, IsNextShare, IsSound}
use Rattle.std.specs.Option.{option_or}
use Rattle.std.proofs.lemmas.List.Folds.{find-append}
use Rattle.slice_scheduler.specs.Minislots.{Minislots}
use Rattle.slice_scheduler.proofs.SumLemmas.{recursion-weaker, recursion-append}
use Rattle.operator_model.specs.declared.output.Output.{Output}
use Rattle.operator_model.specs.declared.output.Output.TheVariants as outputs
use Rattle.operator_model.specs.Machine.{arrival_result, work_result, reslice_result, unfit_from, own_step, own_run, IsAllowed}
use Rattle.operator_model.specs.Slices.{SliceFrom, slice_from, reslicings_in, slice_or, slice_in_frame, waiting_slice, slice_of_run, IsOfItsSlice, MayRun, FramesFollowTheirState, NextSliceFollowsItsState}
use Rattle.operator_model.proofs.FrameLemmas.{StaysAt, worked_none, arrived_none, resent_none}
use Rattle.operator_model.proofs.StepLemmas.{passed}

-- ---- re-slicings, one after the other

-- the slice of a frame once there is one more
abbrev and_then : Minislots → SliceFrom → ℕ → Minislots
and_then slice r n = cond (nat_le r.from n) r.slice slice

abbrev then_all : Minislots → List SliceFrom → ℕ → Minislots
then_all slice [] n = slice
then_all slice (r ∷ rs) n = then_all (and_then slice r n) rs n

newest : (first : Minislots) (r : SliceFrom) (n : ℕ) (o : Option SliceFrom) → slice_or first (option_or o (cond (nat_le r.from n) (Some r) None)) ≡ slice_or (and_then first r n) o
newest first r n (Some other) = refl
newest first r n None = elim (nat_le r.from n) as (λ b. slice_or first (cond b (Some r) None) ≡ cond b r.slice first) [ true ↦ refl | false ↦ refl ]

slice_at-is : (first : Minislots) (rs : List SliceFrom) (n : ℕ) → slice_in_frame first rs n ≡ then_all first rs n
slice_at-is first [] n = refl
slice_at-is first (r ∷ rs) n =
    ap (λ (xs : List SliceFrom). slice_or first (find (λ x. nat_le x.from n) xs)) (reverse-append (r ∷ []) rs)
    ∙ (ap (slice_or first) (find-append (λ (x : SliceFrom). nat_le x.from n) (reverse rs) (r ∷ []))
    ∙ (newest first r n (find (λ (x : SliceFrom). nat_le x.from n) (reverse rs)) ∙ slice_at-is (and_then first r n) rs n))

-- those from later frames on change nothing
then-later : (slice : Minislots) (rs : List SliceFrom) (n : ℕ) → AllByRecursion (λ (r : SliceFrom). n < r.from) rs → then_all slice rs n ≡ slice
then-later slice [] n later = refl
then-later slice (r ∷ rs) n later = ap (λ (b : Bool). then_all (cond b r.slice slice) rs n) (lt-leb r.from n later.0) ∙ then-later slice rs n later.1

-- ---- the slice of a state

-- that of a frame, if no other is offered
abbrev slice_then : Share → Option NextShare → ℕ → Minislots
slice_then share None n = share.slice
slice_then share (Some next) n = cond (nat_le next.from n) next.share.slice share.slice

abbrev of_state : OperatorState → ℕ → Minislots
of_state state n = slice_then state.share state.next n

-- what waits is to come
abbrev IsToCome : ℕ → Option NextShare → Type 0
IsToCome frame next = IfSome next (λ (later : NextShare). frame < later.from)

now : (frame : ℕ) (share : Share) (next : Option NextShare) → IsToCome frame next → slice_then share next frame ≡ share.slice
now frame share None to_come = refl
now frame share (Some next) to_come = ap (λ (b : Bool). cond b next.share.slice share.slice) (lt-leb next.from frame to_come)

-- a tick changes the slice of no later frame
turned : (frame n : ℕ) (share : Share) (next : Option NextShare) → frame + 1 ≤ n → slice_then (share_at (frame + 1) share next) (next_at (frame + 1) next) n ≡ slice_then share next n
turned frame n share None le = refl
turned frame n share (Some next) le = by (next.from == frame + 1) refl
  where
    by : (b : Bool) → (next.from == frame + 1) ≡ b → slice_then (cond b next.share share) (cond b None (Some next)) n ≡ slice_then share (Some next) n
    by true is = sym (ap (λ (b : Bool). cond b next.share.slice share.slice) (le-leb next.from n (omega (arith, eqb-true next.from (frame + 1) is))))
    by false is = refl

turned-to_come : (frame : ℕ) (next : Option NextShare) → IsToCome frame next → IsToCome (frame + 1) (next_at (frame + 1) next)
turned-to_come frame None to_come = tt
turned-to_come frame (Some next) to_come = by (next.from == frame + 1) refl
  where
    by : (b : Bool) → (next.from == frame + 1) ≡ b → IsToCome (frame + 1) (cond b None (Some next))
    by true is = tt
    by false is = omega (arith, to_come, eqb-false next.from (frame + 1) is)

-- ---- one step

-- the slices after a step are those before it, and the one that is offered
record Slices (state : OperatorState) (more : List SliceFrom) (after : OperatorState) : Type 0 where
  on : state.frame ≤ after.frame
  to_come : IsToCome after.frame after.next
  same : (n : ℕ) → after.frame ≤ n → of_state after n ≡ then_all (of_state state n) more n

none_waits : {X : Type 0} (o : Option X) → is_some o ≡ false → o ≡ None
none_waits None none = refl
none_waits (Some x) none = cc

module _ (op : Operator) (to_come : IsToCome op.state.frame op.state.next) where
  stays : (ran : StepResult) → StaysAt op.state ran → Slices op.state [] ran.state
  stays ran still = record {
    on = omega (arith, still.frame);
    to_come = subst (λ (m : ℕ). IsToCome m ran.state.next) (sym still.frame) (subst (IsToCome op.state.frame) (sym still.waits) to_come);
    same = λ n le. ap (λ (s : Share). slice_then s ran.state.next n) still.share ∙ ap (λ (o : Option NextShare). slice_then op.state.share o n) still.waits;
  }

  offered : (from : ℕ) (slice_row : SliceRow) → unfit_from op from slice_row ≡ None → Slices op.state (record { from = from; slice = record { start = slice_row.start; length = slice_row.length } } ∷ []) (reslice_result op.state from slice_row).state
  offered from slice_row fit =
      let past = passed (nat_le from op.state.frame) NotPast _ fit in
      let free = passed (is_some op.state.next) Unfinished _ past.1 in
      let none = none_waits op.state.next free.0 in
      record {
        on = omega arith;
        to_come = leb-false from op.state.frame past.0;
        same = λ n le. ap (λ (o : Option NextShare). cond (nat_le from n) (record { start = slice_row.start; length = slice_row.length }) (slice_then op.state.share o n)) (sym none);
      }

  step_slices : (action : Action) → IsAllowed op action → Slices op.state (cons_option (slice_from action) []) (own_step op action).state
  unfolding own_step
  step_slices (Arrive modem heard) allowed = stays (arrival_result op modem heard) (arrived_none op modem heard)
  step_slices Work allowed = stays (work_result op op.state.inbox) (worked_none op op.state.inbox)
  step_slices Tick allowed = record {
    on = omega arith;
    to_come = turned-to_come op.state.frame op.state.next to_come;
    same = λ n le. turned op.state.frame n op.state.share op.state.next le;
  }
  step_slices (Reslice from slice_row) allowed = offered from slice_row allowed.fit

one_more : (o : Option SliceFrom) (rs : List SliceFrom) (slice : Minislots) (n : ℕ) → then_all (then_all slice (cons_option o []) n) rs n ≡ then_all slice (cons_option o rs) n
one_more None rs slice n = refl
one_more (Some r) rs slice n = refl

-- ---- frames

-- a frame that is put out is not before this one, and is of the slice of its number
abbrev IsFrom : ℕ → (ℕ → Minislots) → Output → Type 0
IsFrom frame slice (outputs.Reply modem bytes) = Unit {0}
IsFrom frame slice (outputs.Silent modem cause) = Unit {0}
IsFrom frame slice (outputs.Frame number elements) = (frame ≤ number) × (elements.slice ≡ slice number)

no_frame : (frame : ℕ) (slice : ℕ → Minislots) (puts : List Output) → frame_numbers puts ≡ [] → AllByRecursion (IsFrom frame slice) puts
no_frame frame slice [] none = tt
no_frame frame slice (outputs.Reply modem bytes ∷ puts) none = (tt, no_frame frame slice puts none)
no_frame frame slice (outputs.Silent modem cause ∷ puts) none = (tt, no_frame frame slice puts none)
no_frame frame slice (outputs.Frame number elements ∷ puts) none = absurd cc

from_before : (a b : ℕ) (f g : ℕ → Minislots) → a ≤ b → ((n : ℕ) → b ≤ n → g n ≡ f n) → (o : Output) → IsFrom b g o → IsFrom a f o
from_before a b f g le same (outputs.Reply modem bytes) is = tt
from_before a b f g le same (outputs.Silent modem cause) is = tt
from_before a b f g le same (outputs.Frame number elements) is = (omega (arith, is.0), is.1 ∙ same number is.0)

of_its_slice : (frame : ℕ) (f g : ℕ → Minislots) → ((n : ℕ) → g n ≡ f n) → (o : Output) → IsFrom frame g o → IsOfItsSlice f o
of_its_slice frame f g same (outputs.Reply modem bytes) is = tt
of_its_slice frame f g same (outputs.Silent modem cause) is = tt
of_its_slice frame f g same (outputs.Frame number elements) is = is.1 ∙ same number

-- ---- a run

module _ (consts : ConstsFields) (row : RowFields) where
  abbrev after : OperatorState → Action → OperatorState
  after state action = (own_step (operator consts row state) action).state

  run_slices : (state : OperatorState) (actions : List Action) → IsToCome state.frame state.next → MayRun (operator consts row state) actions → Slices state (reslicings_in actions) (own_run (operator consts row state) actions).state
  run_slices state [] to_come may = record { on = omega arith; to_come = to_come; same = λ n le. refl }
  run_slices state (action ∷ actions) to_come may =
      let step = step_slices (operator consts row state) to_come action may.0 in
      let rest = run_slices (after state action) actions step.to_come may.1 in
      record {
        on = omega (arith, step.on, rest.on);
        to_come = rest.to_come;
        same = λ n le.
            rest.same n le
            ∙ (ap (λ (s : Minislots). then_all s (reslicings_in actions) n) (step.same n (omega (arith, rest.on)))
            ∙ one_more (slice_from action) (reslicings_in actions) (of_state state n) n);
      }

  -- what is offered is to come
  run_later : (state : OperatorState) (actions : List Action) → IsToCome state.frame state.next → MayRun (operator consts row state) actions → AllByRecursion (λ (r : SliceFrom). state.frame < r.from) (reslicings_in actions)
  run_later state [] to_come may = tt
  run_later state (action ∷ actions) to_come may =
      let step = step_slices (operator consts row state) to_come action may.0 in
      let rest = run_later (after state action) actions step.to_come may.1 in
      by action may.0 (recursion-weaker (λ (r : SliceFrom). (after state action).frame < r.from) (λ (r : SliceFrom). state.frame < r.from) (λ r lt. omega (arith, step.on)) (reslicings_in actions) rest)
    where
      by : (action : Action) → IsAllowed (operator consts row state) action → AllByRecursion (λ (r : SliceFrom). state.frame < r.from) (reslicings_in actions) → AllByRecursion (λ (r : SliceFrom). state.frame < r.from) (cons_option (slice_from action) (reslicings_in actions))
      by (Arrive modem heard) allowed rest = rest
      by Work allowed rest = rest
      by Tick allowed rest = rest
      by (Reslice from slice_row) allowed rest = (leb-false from state.frame (passed (nat_le from state.frame) NotPast _ allowed.fit).0, rest)

  -- what one step puts out
  step_frames : (state : OperatorState) (action : Action) (rs : List SliceFrom) → IsToCome state.frame state.next → AllByRecursion (λ (r : SliceFrom). state.frame < r.from) rs
      → AllByRecursion (IsFrom state.frame (λ n. then_all (of_state state n) rs n)) (own_step (operator consts row state) action).outputs
  unfolding own_step
  step_frames state (Arrive modem heard) rs to_come later = no_frame state.frame _ _ (arrived_none (operator consts row state) modem heard).numbers
  step_frames state Work rs to_come later = no_frame state.frame _ _ (worked_none (operator consts row state) state.inbox).numbers
  step_frames state Tick rs to_come later =
      recursion-append (IsFrom state.frame (λ n. then_all (of_state state n) rs n)) (map resent (resent_in state.kept)) (outputs.Frame state.frame (frame_elements (operator consts row state)) ∷ [])
      (no_frame state.frame (λ n. then_all (of_state state n) rs n) (map resent (resent_in state.kept)) (resent_none (operator consts row state) (resent_in state.kept)))
      ((omega arith, sym (then-later (of_state state state.frame) rs state.frame later ∙ now state.frame state.share state.next to_come)), tt)
  step_frames state (Reslice from slice_row) rs to_come later = tt

  run_frames : (state : OperatorState) (actions : List Action) → IsToCome state.frame state.next → MayRun (operator consts row state) actions
      → AllByRecursion (IsFrom state.frame (λ n. then_all (of_state state n) (reslicings_in actions) n)) (own_run (operator consts row state) actions).outputs
  run_frames state [] to_come may = tt
  run_frames state (action ∷ actions) to_come may =
      let step = step_slices (operator consts row state) to_come action may.0 in
      let rs = reslicings_in (action ∷ actions) in
      let of_all : ℕ → Minislots = λ n. then_all (of_state state n) rs n in
      let of_rest : ℕ → Minislots = λ n. then_all (of_state (after state action) n) (reslicings_in actions) n in
      recursion-append (IsFrom state.frame of_all) (own_step (operator consts row state) action).outputs (own_run (operator consts row (after state action)) actions).outputs
      (step_frames state action rs to_come (run_later state (action ∷ actions) to_come may))
      (recursion-weaker (IsFrom (after state action).frame of_rest) (IsFrom state.frame of_all)
      (from_before state.frame (after state action).frame of_all of_rest step.on (λ n le. ap (λ (s : Minislots). then_all s (reslicings_in actions) n) (step.same n le) ∙ one_more (slice_from action) (reslicings_in actions) (of_state state n) n))
      (own_run (operator consts row (after state action)) actions).outputs
      (run_frames (after state action) actions step.to_come may.1))

  -- the slice that waits is the first of the re-slicings
  waited : (share : Share) (next : Option NextShare) (rs : List SliceFrom) (n : ℕ) → then_all (slice_then share next n) rs n ≡ slice_in_frame share.slice (waiting_slice next ++ rs) n
  waited share None rs n = sym (slice_at-is share.slice rs n)
  waited share (Some next) rs n = sym (slice_at-is share.slice (waiting_slice (Some next) ++ rs) n)

  frames-from : (state : OperatorState) (actions : List Action) → IsToCome state.frame state.next → MayRun (operator consts row state) actions
      → All (IsOfItsSlice (slice_of_run state actions)) (own_run (operator consts row state) actions).outputs
  frames-from state actions to_come may =
      let puts = (own_run (operator consts row state) actions).outputs in
      let made : ℕ → Minislots = λ n. then_all (of_state state n) (reslicings_in actions) n in
      All-from_recursion (IsOfItsSlice (slice_of_run state actions)) puts
      (recursion-weaker (IsFrom state.frame made) (IsOfItsSlice (slice_of_run state actions))
      (of_its_slice state.frame (slice_of_run state actions) made (waited state.share state.next (reslicings_in actions)))
      puts (run_frames state actions to_come may))

  in_force-from : (state : OperatorState) (actions : List Action) → IsToCome state.frame state.next → MayRun (operator consts row state) actions
      → (own_run (operator consts row state) actions).state.share.slice ≡ slice_of_run state actions (own_run (operator consts row state) actions).state.frame
  in_force-from state actions to_come may =
      let end = (own_run (operator consts row state) actions).state in
      let all = run_slices state actions to_come may in
      sym (now end.frame end.share end.next all.to_come) ∙ (all.same end.frame (omega arith) ∙ waited state.share state.next (reslicings_in actions) end.frame)

  pub run-frames : (actions : List Action) → MayRun (operator consts row (opened_state consts row)) actions → All (IsOfItsSlice (slice_in_frame row.slice (reslicings_in actions))) (own_run (operator consts row (opened_state consts row)) actions).outputs
  run-frames actions may = frames-from (opened_state consts row) actions tt may

  pub run-in_force : (actions : List Action) → MayRun (operator consts row (opened_state consts row)) actions
      → (own_run (operator consts row (opened_state consts row)) actions).state.share.slice ≡ slice_in_frame row.slice (reslicings_in actions) (own_run (operator consts row (opened_state consts row)) actions).state.frame
  run-in_force actions may = in_force-from (opened_state consts row) actions tt may

  -- ---- a replay

  told-may : (state : OperatorState) (history : List Entry) → AreTold (operator consts row state) history → MayRun (operator consts row state) (actions_of history)
  told-may state [] told = tt
  told-may state (entry ∷ history) told = (told.0, told-may (after state entry.action) history told.2)

  pub replay-in_force : (history : List Entry) (state : OperatorState) → IsReplay consts row history state → state.share.slice ≡ slice_in_frame row.slice (reslicings_in (actions_of history)) state.frame
  replay-in_force history state replay = subst (λ (s : OperatorState). s.share.slice ≡ slice_in_frame row.slice (reslicings_in (actions_of history)) s.frame) (sym replay.state_is)
      (run-in_force (actions_of history) (told-may (opened_state consts row) history replay.told))

-- ---- from a sound state

-- what waits of a sound state is to come
waits_to_come : (op : Operator) → IsSound op → IsToCome op.state.frame op.state.next
waits_to_come op sound = by op.state.next sound.next
  where
    by : (next : Option NextShare) → IfSome next (IsNextShare op.consts op.state.frame (committed_minislots op.consts.units op.state.flows)) → IsToCome op.state.frame next
    by None h = tt
    by (Some next) h = h.to_come

pub state-frames : FramesFollowTheirState
state-frames op actions sound may = frames-from op.consts op.row op.state actions (waits_to_come op sound) may

pub state-in_force : NextSliceFollowsItsState
state-in_force op actions sound may = in_force-from op.consts op.row op.state actions (waits_to_come op sound) may
