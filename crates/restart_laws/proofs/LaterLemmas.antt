-- What waits of an operator's slices after a run of its machine: those of its slice changes that are to come.
use Rattle.std.proofs.Common.{◌≡◌, ℕ, ◌+◌, ◌==◌, ◌<◌, ◌≤◌, Bool, true, false, cond, List, [], ◌∷◌, ◌++◌, Option, Some, None, is_some, IfSome, refl, sym, ap, ◌∙◌, arith, nat_le, nat_lt, append_assoc, append-nil}
use Rattle.restart_laws.proofs.Common.{cons_option, lt-ltb, le-ltb, leb-false, ltb-false, eqb-true, eqb-false, ConstsFields, RowFields, Action, Arrive, Work, Tick, Reslice, NextShare, committed_minislots, operator, OperatorState, Operator, StepResult, next_at, IsNextShare, IsSound, SliceFrom, slice_from, reslicings_in, waiting_slice, MayRun, StaysAt, worked_none, arrived_none}
use Rattle.operator_model.specs.declared.action.SliceRow.{SliceRow}
use Rattle.operator_model.specs.declared.action.Unfit.TheVariants.{NotPast, Unfinished}
use Rattle.operator_model.specs.Machine.{arrival_result, work_result, reslice_result, unfit_from, own_step, own_run, IsAllowed}
use Rattle.operator_model.proofs.StepLemmas.{passed, step_sound}

-- ---- slice changes that are to come

-- those from a later frame than this one
abbrev pub to_come : ℕ → List SliceFrom → List SliceFrom
to_come frame [] = []
to_come frame (r ∷ rs) = cond (nat_lt frame r.from) (r ∷ to_come frame rs) (to_come frame rs)

come-append : (frame : ℕ) (rs more : List SliceFrom) → to_come frame (rs ++ more) ≡ to_come frame rs ++ to_come frame more
come-append frame [] more = refl
come-append frame (r ∷ rs) more = by (nat_lt frame r.from) (come-append frame rs more)
  where
    by : (b : Bool) → to_come frame (rs ++ more) ≡ to_come frame rs ++ to_come frame more
        → cond b (r ∷ to_come frame (rs ++ more)) (to_come frame (rs ++ more)) ≡ cond b (r ∷ to_come frame rs) (to_come frame rs) ++ to_come frame more
    by true e = ap (λ (xs : List SliceFrom). r ∷ xs) e
    by false e = e

-- what was past stays so
come-later : (a b : ℕ) (rs : List SliceFrom) → a ≤ b → to_come b (to_come a rs) ≡ to_come b rs
come-later a b [] le = refl
come-later a b (r ∷ rs) le = by (nat_lt a r.from) refl (come-later a b rs le)
  where
    by : (t : Bool) → nat_lt a r.from ≡ t → to_come b (to_come a rs) ≡ to_come b rs → to_come b (cond t (r ∷ to_come a rs) (to_come a rs)) ≡ to_come b (r ∷ rs)
    by true is e = ap (λ (xs : List SliceFrom). cond (nat_lt b r.from) (r ∷ xs) xs) e
    by false is e =
        let past : nat_lt b r.from ≡ false = le-ltb b r.from (not_lt (nat_lt a r.from) refl is) in
        e ∙ sym (ap (λ (t : Bool). cond t (r ∷ to_come b rs) (to_come b rs)) past)
      where
        not_lt : (t : Bool) → nat_lt a r.from ≡ t → t ≡ false → r.from ≤ b
        not_lt true p q = absurd (let wrong : true ≡ false = q in cc)
        not_lt false p q = omega (arith, le, ltb-false a r.from p)

-- ---- what waits

abbrev pub IsToCome : ℕ → Option NextShare → Type 0
IsToCome frame next = IfSome next (λ (later : NextShare). frame < later.from)

waits_all : (frame : ℕ) (next : Option NextShare) → IsToCome frame next → to_come frame (waiting_slice next) ≡ waiting_slice next
waits_all frame None h = refl
waits_all frame (Some next) h = ap (λ (t : Bool). cond t (waiting_slice (Some next)) []) (lt-ltb frame next.from h)

-- what waits of a sound state is to come
pub sound_to_come : (op : Operator) → IsSound op → IsToCome op.state.frame op.state.next
sound_to_come op sound = by op.state.next sound.next
  where
    by : (next : Option NextShare) → IfSome next (IsNextShare op.consts op.state.frame (committed_minislots op.consts.units op.state.flows)) → IsToCome op.state.frame next
    by None h = tt
    by (Some next) h = h.to_come

-- ---- one step

record Waits (state : OperatorState) (more : List SliceFrom) (after : OperatorState) : Type 0 where
  on : state.frame ≤ after.frame
  waits : waiting_slice after.next ≡ to_come after.frame (waiting_slice state.next ++ more)

none_waits : {X : Type 0} (o : Option X) → is_some o ≡ false → o ≡ None
none_waits None none = refl
none_waits (Some x) none = cc

ticked : (frame : ℕ) (next : Option NextShare) → IsToCome frame next → waiting_slice (next_at (frame + 1) next) ≡ to_come (frame + 1) (waiting_slice next ++ [])
ticked frame None h = refl
ticked frame (Some next) h = by (next.from == frame + 1) refl
  where
    by : (t : Bool) → (next.from == frame + 1) ≡ t → waiting_slice (cond t None (Some next)) ≡ cond (nat_lt (frame + 1) next.from) (waiting_slice (Some next)) []
    by true is = sym (ap (λ (t : Bool). cond t (waiting_slice (Some next)) []) (le-ltb (frame + 1) next.from (omega (arith, eqb-true next.from (frame + 1) is))))
    by false is = sym (ap (λ (t : Bool). cond t (waiting_slice (Some next)) []) (lt-ltb (frame + 1) next.from (omega (arith, h, eqb-false next.from (frame + 1) is))))

module _ (op : Operator) (h : IsToCome op.state.frame op.state.next) where
  stays : (ran : StepResult) → StaysAt op.state ran → Waits op.state [] ran.state
  stays ran still = record {
    on = omega (arith, still.frame);
    waits =
        ap waiting_slice still.waits
        ∙ (sym (waits_all op.state.frame op.state.next h)
        ∙ (λ k. to_come (sym still.frame k) (sym (append-nil (waiting_slice op.state.next)) k)));
  }

  offered : (from : ℕ) (slice_row : SliceRow) → unfit_from op from slice_row ≡ None
      → Waits op.state (record { from = from; slice = record { start = slice_row.start; length = slice_row.length } } ∷ []) (reslice_result op.state from slice_row).state
  offered from slice_row fit =
      let r : SliceFrom = record { from = from; slice = record { start = slice_row.start; length = slice_row.length } } in
      let past = passed (nat_le from op.state.frame) NotPast _ fit in
      let free = passed (is_some op.state.next) Unfinished _ past.1 in
      record {
        on = omega arith;
        waits =
            sym (ap (λ (t : Bool). cond t (r ∷ []) []) (lt-ltb op.state.frame from (leb-false from op.state.frame past.0)))
            ∙ ap (λ (o : Option NextShare). to_come op.state.frame (waiting_slice o ++ r ∷ [])) (sym (none_waits op.state.next free.0));
      }

  step_waits : (action : Action) → IsAllowed op action → Waits op.state (cons_option (slice_from action) []) (own_step op action).state
  unfolding own_step
  step_waits (Arrive modem heard) allowed = stays (arrival_result op modem heard) (arrived_none op modem heard)
  step_waits Work allowed = stays (work_result op op.state.inbox) (worked_none op op.state.inbox)
  step_waits Tick allowed = record { on = omega arith; waits = ticked op.state.frame op.state.next h }
  step_waits (Reslice from slice_row) allowed = offered from slice_row allowed.fit

-- ---- a run

one_more : (o : Option SliceFrom) (rs : List SliceFrom) → cons_option o [] ++ rs ≡ cons_option o rs
one_more None rs = refl
one_more (Some r) rs = refl

module _ (consts : ConstsFields) (row : RowFields) where
  abbrev after : OperatorState → Action → OperatorState
  after state action = (own_step (operator consts row state) action).state

  pub run_sound : (state : OperatorState) (actions : List Action) → IsSound (operator consts row state) → MayRun (operator consts row state) actions → IsSound (operator consts row (own_run (operator consts row state) actions).state)
  run_sound state [] sound may = sound
  run_sound state (action ∷ actions) sound may = run_sound (after state action) actions (step_sound (operator consts row state) sound action may.0) may.1

  run_waits : (state : OperatorState) (actions : List Action) → IsSound (operator consts row state) → MayRun (operator consts row state) actions → Waits state (reslicings_in actions) (own_run (operator consts row state) actions).state
  run_waits state [] sound may = record {
    on = omega arith;
    waits = sym (ap (to_come state.frame) (append-nil (waiting_slice state.next)) ∙ waits_all state.frame state.next (sound_to_come (operator consts row state) sound));
  }
  run_waits state (action ∷ actions) sound may =
      let step = step_waits (operator consts row state) (sound_to_come (operator consts row state) sound) action may.0 in
      let rest = run_waits (after state action) actions (step_sound (operator consts row state) sound action may.0) may.1 in
      let mid : ℕ = (after state action).frame in
      let end : ℕ = (own_run (operator consts row (after state action)) actions).state.frame in
      let now : List SliceFrom = waiting_slice state.next in
      let one : List SliceFrom = cons_option (slice_from action) [] in
      let more : List SliceFrom = reslicings_in actions in
      record {
        on = omega (arith, step.on, rest.on);
        waits =
            rest.waits
            ∙ (come-append end (waiting_slice (after state action).next) more
            ∙ (ap (λ (xs : List SliceFrom). to_come end xs ++ to_come end more) step.waits
            ∙ (ap (λ (xs : List SliceFrom). xs ++ to_come end more) (come-later mid end (now ++ one) rest.on)
            ∙ (sym (come-append end (now ++ one) more)
            ∙ ap (to_come end) (append_assoc now one more ∙ ap (λ (xs : List SliceFrom). now ++ xs) (one_more (slice_from action) more))))));
      }

  -- what waits after a run: of what waited and of the slice changes of the run, those that are to come
  pub later_waits : (state : OperatorState) (actions : List Action) → IsSound (operator consts row state) → MayRun (operator consts row state) actions
      → waiting_slice (own_run (operator consts row state) actions).state.next ≡ to_come (own_run (operator consts row state) actions).state.frame (waiting_slice state.next ++ reslicings_in actions)
  later_waits state actions sound may = (run_waits state actions sound may).waits
