-- The periods of processes, of which each goes on from the snapshot of the one before it.
use Rattle.std.proofs.Common.{◌≡◌, ℕ, zero, suc, ◌+◌, List, [], ◌∷◌, ◌++◌, drop, Bool, true, false, cond, Result, Ok, inl, inr, refl, sym, ap, ◌∙◌, subst}
use Rattle.restart_laws.proofs.Common.{parse_document, IsPlant, PlantFields, PlantFault, RunSoFar, IsPlantChange, AreChanges, KeepsProvisioning, periods, started_core, started_after, InService, ItemAnswer, IsItemAnswer, AreItemAnswers, first_period, later_periods, IsReadyToSave, after_answers, IsProcess, EndsAtRest, next_service, AreProcesses, first_of_all, later_of_all, all_periods, IsBegun, ProcessesAreChanges, KeptRowsGoThroughAll, RestartsAreNotNoticed}
use Rattle.run_model.specs.Periods.{ArePeriodsOf}
use Rattle.run_model.proofs.Changes.{goes_through}
use Rattle.run_model.proofs.PeriodLemmas.{alike}
use Rattle.line_service.specs.script.Lines.{lines_of}
use Rattle.state_service.proofs.ResumedLemmas.PeriodLemmas.{service_changes}
use Rattle.restart_laws.proofs.PlantLemmas.{valid_plant}
use Rattle.restart_laws.proofs.FileLemmas.{at_the_end}
use Rattle.restart_laws.proofs.ReadyLemmas.{is_change}

-- ---- the last period

last_of : RunSoFar → List RunSoFar → RunSoFar
last_of first [] = first
last_of first (next ∷ more) = last_of next more

last_is : (old : InService) (answers : List ItemAnswer) → last_of (first_period old.run answers) (later_periods old.run answers) ≡ (after_answers old answers).run
unfolding last_of
last_is old [] = refl
last_is old (answer ∷ more) = by answer.changes (last_is answer.next more)
  where
    by : (b : Bool) → last_of (first_period answer.next.run more) (later_periods answer.next.run more) ≡ (after_answers answer.next more).run
        → last_of (cond b old.run (first_period answer.next.run more)) (cond b (first_period answer.next.run more ∷ later_periods answer.next.run more) (later_periods answer.next.run more)) ≡ (after_answers answer.next more).run
    by true e = e
    by false e = e

-- ---- the first period begins where the service does

abbrev begun : RunSoFar → RunSoFar
begun run = record { plant = run.plant; start = run.start; steps = []; outs = [] }

one_item : (old : InService) (number : ℕ) (line : List ℕ) (lines : List (List ℕ)) (answer : ItemAnswer) → IsItemAnswer old number line lines answer → answer.changes ≡ false → begun answer.next.run ≡ begun old.run
one_item old number line lines answer (inl is) none = ap (λ (s : InService). begun s.run) is.next_is
one_item old number line lines answer (inr (inl is)) none = absurd (let wrong : true ≡ false = sym is.new ∙ none in cc)
one_item old number line lines answer (inr (inr (inl is))) none = absurd (let wrong : true ≡ false = sym is.new ∙ none in cc)
one_item old number line lines answer (inr (inr (inr is))) none = ap (λ (s : InService). begun s.run) is.next_is

begins_alike : (old : InService) (number : ℕ) (lines : List (List ℕ)) (answers : List ItemAnswer) → AreItemAnswers old number lines answers → begun (first_period old.run answers) ≡ begun old.run
begins_alike old number [] [] are = refl
begins_alike old number [] (answer ∷ more) are = absurd are
begins_alike old number (line ∷ lines) [] are = absurd are
begins_alike old number (line ∷ lines) (answer ∷ more) are =
    by answer.changes refl (begins_alike answer.next (number + answer.lines) (drop answer.lines (line ∷ lines)) more are.1)
  where
    by : (b : Bool) → answer.changes ≡ b → begun (first_period answer.next.run more) ≡ begun answer.next.run → begun (first_period old.run (answer ∷ more)) ≡ begun old.run
    by true e rest = rw e refl
    by false e rest = rw e (rest ∙ one_item old number line lines answer are.0 e)

-- ---- periods one after the other

join : (first : RunSoFar) (more : List RunSoFar) (next : RunSoFar) (later : List RunSoFar) → AreChanges first more → IsPlantChange (last_of first more) (begun next) → AreChanges next later → AreChanges first (more ++ next ∷ later)
unfolding last_of
join first [] next later is change then = (is, change, then)
join first (mid ∷ more) next later is change then = (is.0, is.1, join mid more next later is.2 change then)

-- ---- one process

module _ (first : InService) (begun_is : IsBegun first) (process : IsProcess first) where
  abbrev answers : List ItemAnswer
  answers = process.served.answers

  abbrev ended : InService
  ended = after_answers first answers

  own_changes : AreChanges (first_period first.run answers) (later_periods first.run answers)
  own_changes = service_changes first begun_is.live process.input process.before process.after begun_is.leads process.served process.keeps

  begins_here : begun (first_period first.run answers) ≡ begun first.run
  begins_here = begins_alike first 1 (lines_of process.input) answers process.served.answer

  module _ (end : EndsAtRest first process) where
    ready : IsReadyToSave ended end.live end.frame
    ready = record { leads = end.led_to; in_force = at_the_end first process.input answers begun_is.in_force process.served.answer; rests = end.rests }

    restart : IsPlantChange ended.run (next_service first process end).run
    restart = is_change ended end.live end.frame ready

    next_begun : IsBegun (next_service first process end)
    next_begun =
        let same : end.live.plant ≡ ended.run.plant = end.led_to.plant_is in
        record {
          live = started_core end.live.plant (next_service first process end).run.start;
          leads =
              started_after end.live.plant (next_service first process end).run.start
              (subst IsPlant (sym same) (valid_plant (parse_document ended.file) ended.run.plant ready.in_force.says)) restart.starts restart.slices;
          in_force = record {
            is_text = ready.in_force.is_text;
            says = ready.in_force.says ∙ ap (λ (p : PlantFields). let r : Result PlantFields PlantFault = Ok p in r) (sym same);
            whole = ready.in_force.whole;
          };
        }

-- ---- all of them

begins_all : (restarts : ℕ) (first : InService) → IsBegun first → (all : AreProcesses restarts first) → begun (first_of_all restarts first all) ≡ begun first.run
begins_all zero first is process = begins_here first is process
begins_all (suc restarts) first is all = begins_here first is all.0

changes_from : (restarts : ℕ) (first : InService) → IsBegun first → (all : AreProcesses restarts first) → AreChanges (first_of_all restarts first all) (later_of_all restarts first all)
changes_from zero first is process = own_changes first is process
changes_from (suc restarts) first is all =
    let next : InService = next_service first all.0 all.1 in
    let next_is = next_begun first is all.0 all.1 in
    join (first_period first.run all.0.served.answers) (later_periods first.run all.0.served.answers) (first_of_all restarts next all.2) (later_of_all restarts next all.2) (own_changes first is all.0)
    (subst (λ (run : RunSoFar). IsPlantChange run (begun (first_of_all restarts next all.2))) (sym (last_is first all.0.served.answers))
    (subst (IsPlantChange (after_answers first all.0.served.answers).run) (sym (begins_all restarts next next_is all.2)) (restart first is all.0 all.1)))
    (changes_from restarts next next_is all.2)

pub are_changes : ProcessesAreChanges
are_changes restarts first all is = changes_from restarts first is all

pub rows_go_through : KeptRowsGoThroughAll
rows_go_through restarts first all row places is keeps =
    subst (λ (run : RunSoFar). ArePeriodsOf run.plant.consts row (run.start.state row) (periods (all_periods restarts first all) places)) (begins_all restarts first is all)
    (goes_through row (first_of_all restarts first all) (later_of_all restarts first all) places (changes_from restarts first is all)
    (subst (λ (run : RunSoFar). KeepsProvisioning run.plant.consts row (all_periods restarts first all) places) (sym (begins_all restarts first is all)) keeps))

pub not_noticed : RestartsAreNotNoticed
not_noticed restarts first all row places others is keeps are same =
    alike first.run.plant.consts row (first.run.start.state row) (periods (all_periods restarts first all) places) others (rows_go_through restarts first all row places is keeps) are same
