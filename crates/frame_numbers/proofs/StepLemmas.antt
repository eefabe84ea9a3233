-- One action, and a run, of operators whose frames are numbered otherwise.
use Rattle.std.proofs.Common.{◌≡◌, ℕ, ◌+◌, ◌-◌, ◌<◌, ◌≤◌, Bool, true, false, cond, List, [], ◌∷◌, ◌++◌, map, count_by, is_some, Option, Some, None, refl, sym, ap, ◌∙◌, arith, nat_le, nat_lt}
use Rattle.frame_numbers.proofs.Common.{leb-true, leb-false, le-leb, lt-leb, ne_eqb, map-append, sum_by-cons, Modem, UnitSizes, ConstsFields, RowFields, committed_minislots, Heard, Output, NextShare, OperatorState, Operator, operator, StepResult, IsSound, next_seen, IsRenumbered, number_moved, action_moved, output_moved, IsSameRun}
use Rattle.operator_model.specs.declared.action.Action.{Action}
use Rattle.operator_model.specs.declared.action.Action.TheVariants.{Arrive, Work, Tick, Reslice}
use Rattle.operator_model.specs.declared.action.SliceRow.{SliceRow}
use Rattle.operator_model.specs.declared.action.Unfit.{Unfit}
use Rattle.operator_model.specs.declared.action.Unfit.TheVariants.{NotPast, Unfinished, OffFrame, BudgetOverSlice, OverBudget}
use Rattle.operator_model.specs.declared.output.Output.TheVariants as outputs
use Rattle.operator_model.specs.Machine.{arrival_result, work_result, reslice_result, own_step, own_run, stranger_of, is_spent, is_off_frame, unfit_of, IsAllowed}
use Rattle.operator_model.specs.Frames.{frame_numbers, is_tick}
use Rattle.operator_model.specs.Slices.{MayRun}
use Rattle.operator_model.proofs.FrameLemmas.{worked_none, arrived_none, step_puts}
use Rattle.operator_model.proofs.StepLemmas.{passed, step_sound}
use Rattle.frame_numbers.proofs.TableLemmas.{minislots-seen}
use Rattle.frame_numbers.proofs.VerdictLemmas.{operator_seen}
use Rattle.frame_numbers.proofs.HandleLemmas.{result_seen, worked-seen, arrived-seen}
use Rattle.frame_numbers.proofs.TickLemmas.{ticked_same}

-- ---- what puts out no frame

module _ (from to : ℕ) where
  no_frame-moved : (puts : List Output) → frame_numbers puts ≡ [] → map (output_moved from to) puts ≡ puts
  no_frame-moved [] none = refl
  no_frame-moved (outputs.Reply modem bytes ∷ puts) none = ap (λ (rest : List Output). outputs.Reply modem bytes ∷ rest) (no_frame-moved puts none)
  no_frame-moved (outputs.Silent modem cause ∷ puts) none = ap (λ (rest : List Output). outputs.Silent modem cause ∷ rest) (no_frame-moved puts none)
  no_frame-moved (outputs.Frame number elements ∷ puts) none = cc

  quiet-same : (units : UnitSizes) (a b : StepResult) → frame_numbers a.outputs ≡ [] → result_seen units a ≡ result_seen units b → IsSameRun units from to a b
  quiet-same units a b none same = record {
    outputs = sym (ap (λ (ran : StepResult). ran.outputs) same) ∙ sym (no_frame-moved a.outputs none);
    states = ap (λ (ran : StepResult). ran.state) same;
  }

-- ---- what is refused

-- the number of a later frame is that of a later frame in the other numbering
not_past-moved : (from to a b first : ℕ) → a + to ≡ b + from → nat_le (number_moved from to first) b ≡ nat_le first a
not_past-moved from to a b first distance = by (nat_le first a) refl
  where
    by : (past : Bool) → nat_le first a ≡ past → nat_le (number_moved from to first) b ≡ past
    by true is = let le = leb-true first a is in le-leb (number_moved from to first) b (omega arith)
    by false is = let later = leb-false first a is in lt-leb (number_moved from to first) b (omega arith)

is_some-seen : (frame : ℕ) (next : Option NextShare) → is_some (next_seen frame next) ≡ is_some next
is_some-seen frame None = refl
is_some-seen frame (Some next) = refl

module _ (consts : ConstsFields) (row : RowFields) (from to : ℕ) where
  abbrev at : OperatorState → Operator
  at state = operator consts row state

  abbrev unless_unfit : SliceRow → Bool → Bool → ℕ → Option Unfit
  unless_unfit offered past waits committed =
      cond past (Some NotPast) (cond waits (Some Unfinished) (cond (is_off_frame consts offered) (Some OffFrame)
      (cond (nat_lt offered.length offered.budget) (Some BudgetOverSlice) (cond (nat_lt offered.budget committed) (Some OverBudget) None))))

  module _ (a b : OperatorState) (same : IsRenumbered consts.units a b) (distance : a.frame + to ≡ b.frame + from) where
    waits-same : is_some b.next ≡ is_some a.next
    waits-same = sym (is_some-seen b.frame b.next) ∙ (sym (ap (λ (s : OperatorState). is_some s.next) same) ∙ is_some-seen a.frame a.next)

    committed-same : committed_minislots consts.units b.flows ≡ committed_minislots consts.units a.flows
    committed-same =
        sym (minislots-seen consts.units b.frame consts.units b.flows)
        ∙ (sym (ap (λ (s : OperatorState). committed_minislots consts.units s.flows) same) ∙ minislots-seen consts.units a.frame consts.units a.flows)

    pub stranger-same : (action : Action) → stranger_of row (action_moved from to action) ≡ stranger_of row action
    stranger-same (Arrive modem heard) = refl
    stranger-same Work = refl
    stranger-same Tick = refl
    stranger-same (Reslice first offered) = refl

    pub unfit-same : (action : Action) → unfit_of (at b) (action_moved from to action) ≡ unfit_of (at a) action
    unfit-same (Arrive modem heard) = refl
    unfit-same Work = refl
    unfit-same Tick = refl
    unfit-same (Reslice first offered) = λ i. unless_unfit offered (not_past-moved from to a.frame b.frame first distance i) (waits-same i) (committed-same i)

    -- as long as there is a number for its frame
    allowed-same : (action : Action) → IsAllowed (at a) action → b.frame + cond {A = ℕ} (is_tick action) 1 0 ≤ 4294967295 → IsAllowed (at b) (action_moved from to action)
    allowed-same action allowed numbers = record {
      mine = stranger-same action ∙ allowed.mine;
      not_spent = by action numbers;
      fit = unfit-same action ∙ allowed.fit;
    }
      where
        by : (action : Action) → b.frame + cond {A = ℕ} (is_tick action) 1 0 ≤ 4294967295 → is_spent b (action_moved from to action) ≡ false
        by (Arrive modem heard) numbers = refl
        by Work numbers = refl
        by Tick numbers = ne_eqb b.frame 4294967295 (omega arith)
        by (Reslice first offered) numbers = refl

    -- ---- what is done

    seen-same : operator_seen (at a) ≡ operator_seen (at b)
    seen-same = ap (operator consts row) same

    arrived-same : (modem : Modem) (heard : Heard) → IsSameRun consts.units from to (arrival_result (at a) modem heard) (arrival_result (at b) modem heard)
    arrived-same modem heard = quiet-same from to consts.units (arrival_result (at a) modem heard) (arrival_result (at b) modem heard) (arrived_none (at a) modem heard).numbers
        (sym (arrived-seen (at a) modem heard) ∙ (ap (λ (op : Operator). arrival_result op modem heard) seen-same ∙ arrived-seen (at b) modem heard))

    worked-same : IsSameRun consts.units from to (work_result (at a) a.inbox) (work_result (at b) b.inbox)
    worked-same = quiet-same from to consts.units (work_result (at a) a.inbox) (work_result (at b) b.inbox) (worked_none (at a) a.inbox).numbers
        (sym (worked-seen (at a) a.inbox) ∙ (ap (λ (op : Operator). work_result op op.state.inbox) seen-same ∙ worked-seen (at b) b.inbox))

    resliced-same : (first : ℕ) (offered : SliceRow) → a.frame < first → IsSameRun consts.units from to (reslice_result a first offered) (reslice_result b (number_moved from to first) offered)
    resliced-same first offered later = record {
      outputs = refl;
      states = λ i. record (same i) { next = Some (record { from = frames i; share = record { slice = record { start = offered.start; length = offered.length }; budget = offered.budget } }) };
    }
      where
        frames : first - a.frame ≡ number_moved from to first - b.frame
        frames = omega arith

    step-same : IsSound (at a) → IsSound (at b) → (action : Action) → IsAllowed (at a) action → IsSameRun consts.units from to (own_step (at a) action) (own_step (at b) (action_moved from to action))
    unfolding own_step
    step-same sound_a sound_b (Arrive modem heard) allowed = arrived-same modem heard
    step-same sound_a sound_b Work allowed = worked-same
    step-same sound_a sound_b Tick allowed = ticked_same consts row a b same sound_a sound_b from to (omega arith)
    step-same sound_a sound_b (Reslice first offered) allowed =
        resliced-same first offered (leb-false first a.frame (passed (nat_le first a.frame) NotPast _ allowed.fit).0)

  tick-moved : (action : Action) → is_tick (action_moved from to action) ≡ is_tick action
  tick-moved (Arrive modem heard) = refl
  tick-moved Work = refl
  tick-moved Tick = refl
  tick-moved (Reslice first offered) = refl

  -- ---- a run

  pub run-same : (a b : OperatorState) (actions : List Action) → IsSound (at a) → IsSound (at b) → IsRenumbered consts.units a b → a.frame + to ≡ b.frame + from
      → MayRun (at a) actions → b.frame + count_by is_tick actions ≤ 4294967295
      → MayRun (at b) (map (action_moved from to) actions) × IsSameRun consts.units from to (own_run (at a) actions) (own_run (at b) (map (action_moved from to) actions))
  run-same a b [] sound_a sound_b same distance may numbers = (tt, record { outputs = refl; states = same })
  run-same a b (action ∷ actions) sound_a sound_b same distance may numbers =
      let count : count_by is_tick (action ∷ actions) ≡ cond {A = ℕ} (is_tick action) 1 0 + count_by is_tick actions = sum_by-cons (λ (x : Action). cond {A = ℕ} (is_tick x) 1 0) action actions in
      let other = action_moved from to action in
      let allowed = allowed-same a b same distance action may.0 (omega (arith, count)) in
      let step = step-same a b same distance sound_a sound_b action may.0 in
      let next_a : (own_step (at a) action).state.frame ≡ a.frame + cond {A = ℕ} (is_tick action) 1 0 = (step_puts (at a) action).next in
      let next_b : (own_step (at b) other).state.frame ≡ b.frame + cond {A = ℕ} (is_tick action) 1 0 = (step_puts (at b) other).next ∙ ap (λ (t : Bool). b.frame + cond {A = ℕ} t 1 0) (tick-moved action) in
      let rest = run-same (own_step (at a) action).state (own_step (at b) other).state actions (step_sound (at a) sound_a action may.0) (step_sound (at b) sound_b other allowed) step.states
      (omega (arith, next_a, next_b, distance)) may.1 (omega (arith, next_b, count, numbers)) in (
        (allowed, rest.0),
        record {
          outputs =
              ap (λ (puts : List Output). puts ++ (own_run (at (own_step (at b) other).state) (map (action_moved from to) actions)).outputs) step.outputs
              ∙ (ap (λ (puts : List Output). map (output_moved from to) (own_step (at a) action).outputs ++ puts) rest.1.outputs
              ∙ sym (map-append (output_moved from to) (own_step (at a) action).outputs (own_run (at (own_step (at a) action).state) actions).outputs));
          states = rest.1.states;
        },
      )
