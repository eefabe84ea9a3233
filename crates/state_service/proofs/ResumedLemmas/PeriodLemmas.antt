-- The periods of a service in which the plant is changed, or its frames get other numbers.
use Rattle.std.proofs.Common.{◌≡◌, ℕ, ◌+◌, List, [], ◌∷◌, drop, Bool, true, false, ◌⊎◌, inl, inr, refl, sym, ap, ◌∙◌, subst}
use Rattle.state_service.proofs.ResumedLemmas.Common.{CoreView, RunSoFar, IsPlantChange, AreChanges, IsRunRenumbered, AreRuns, InService, ItemAnswer, IsRunSoFarOf, IsItemAnswer, AreItemAnswers, first_period, later_periods, KeepNumbers, ServiceIsOfChanges, ServiceIsOfRuns}
use Rattle.run_model.specs.IsTraceOf.{IsTraceFrom}
use Rattle.plant_core.proofs.LiveLemmas.LawLemmas.{live_shown}

-- with nothing done yet
abbrev begun : RunSoFar → RunSoFar
begun run = record { plant = run.plant; start = run.start; steps = []; outs = [] }

-- an item that does not change the plant leaves where the run began
one_item : (old : InService) (number : ℕ) (line : List ℕ) (lines : List (List ℕ)) (answer : ItemAnswer) → IsItemAnswer old number line lines answer → answer.changes ≡ false → begun answer.next.run ≡ begun old.run
one_item old number line lines answer (inl is) none = ap (λ (s : InService). begun s.run) is.next_is
one_item old number line lines answer (inr (inl is)) none = absurd (let wrong : true ≡ false = sym is.new ∙ none in cc)
one_item old number line lines answer (inr (inr (inl is))) none = absurd (let wrong : true ≡ false = sym is.new ∙ none in cc)
one_item old number line lines answer (inr (inr (inr is))) none = ap (λ (s : InService). begun s.run) is.next_is

begins_alike : (old : InService) (number : ℕ) (lines : List (List ℕ)) (answers : List ItemAnswer) → AreItemAnswers old number lines answers → begun (first_period old.run answers) ≡ begun old.run
begins_alike old number [] [] are = refl
begins_alike old number [] (answer ∷ more) are = absurd are
begins_alike old number (line ∷ lines) [] are = absurd are
begins_alike old number (line ∷ lines) (answer ∷ more) are =
    by answer.changes refl (begins_alike answer.next (number + answer.lines) (drop answer.lines (line ∷ lines)) more are.1)
  where
    by : (b : Bool) → answer.changes ≡ b → begun (first_period answer.next.run more) ≡ begun answer.next.run → begun (first_period old.run (answer ∷ more)) ≡ begun old.run
    by true e rest = rw e refl
    by false e rest = rw e (rest ∙ one_item old number line lines answer are.0 e)

-- the core after an item
core_after : (old : InService) (number : ℕ) (line : List ℕ) (lines : List (List ℕ)) (answer : ItemAnswer) (live : CoreView) → IsRunSoFarOf old.run live → IsItemAnswer old number line lines answer
    → (now : CoreView) × IsRunSoFarOf answer.next.run now
core_after old number line lines answer live leads (inl is) = (is.live, subst (λ (s : InService). IsRunSoFarOf s.run is.live) (sym is.next_is) is.is.after)
core_after old number line lines answer live leads (inr (inl is)) = (is.live, is.leads)
core_after old number line lines answer live leads (inr (inr (inl is))) = (is.after, is.leads_on)
core_after old number line lines answer live leads (inr (inr (inr is))) = (live, subst (λ (s : InService). IsRunSoFarOf s.run live) (sym is.next_is) leads)

is_another : (old : InService) (number : ℕ) (line : List ℕ) (lines : List (List ℕ)) (answer : ItemAnswer) → IsItemAnswer old number line lines answer → answer.changes ≡ true
    → IsPlantChange old.run answer.next.run ⊎ IsRunRenumbered old.run answer.next.run
is_another old number line lines answer (inl is) so = absurd (let wrong : true ≡ false = sym so ∙ is.on in cc)
is_another old number line lines answer (inr (inl is)) so = inl is.changed
is_another old number line lines answer (inr (inr (inl is))) so = inr is.changed
is_another old number line lines answer (inr (inr (inr is))) so = absurd (let wrong : true ≡ false = sym so ∙ is.on in cc)

is_changed : (old : InService) (number : ℕ) (line : List ℕ) (lines : List (List ℕ)) (answer : ItemAnswer) → IsItemAnswer old number line lines answer → answer.renumbers ≡ false → answer.changes ≡ true
    → IsPlantChange old.run answer.next.run
is_changed old number line lines answer (inl is) same so = absurd (let wrong : true ≡ false = sym so ∙ is.on in cc)
is_changed old number line lines answer (inr (inl is)) same so = is.changed
is_changed old number line lines answer (inr (inr (inl is))) same so = absurd (let wrong : true ≡ false = sym is.other_numbers ∙ same in cc)
is_changed old number line lines answer (inr (inr (inr is))) same so = absurd (let wrong : true ≡ false = sym so ∙ is.on in cc)

begun_is : (run : RunSoFar) → (run.steps ≡ []) × (run.outs ≡ []) → begun run ≡ run
begun_is run none = λ k. record { plant = run.plant; start = run.start; steps = sym none.0 k; outs = sym none.1 k }

none_done : (old new : RunSoFar) → IsPlantChange old new ⊎ IsRunRenumbered old new → (new.steps ≡ []) × (new.outs ≡ [])
none_done old new (inl is) = is.nothing_done
none_done old new (inr is) = is.nothing_done

shown : (run : RunSoFar) (live : CoreView) → IsRunSoFarOf run live → IsTraceFrom run.plant run.start run.steps run.outs
shown run live leads = live_shown run.plant run.start run.steps run.outs live leads

-- ---- all runs

of_runs : (old : InService) (number : ℕ) (lines : List (List ℕ)) (answers : List ItemAnswer) (live : CoreView) → IsRunSoFarOf old.run live → AreItemAnswers old number lines answers
    → AreRuns (first_period old.run answers) (later_periods old.run answers)
of_runs old number [] [] live leads are = shown old.run live leads
of_runs old number [] (answer ∷ more) live leads are = absurd are
of_runs old number (line ∷ lines) [] live leads are = absurd are
of_runs old number (line ∷ lines) (answer ∷ more) live leads are =
    let behind = core_after old number line lines answer live leads are.0 in
    by answer.changes refl (of_runs answer.next (number + answer.lines) (drop answer.lines (line ∷ lines)) more behind.0 behind.1 are.1)
  where
    by : (b : Bool) → answer.changes ≡ b → AreRuns (first_period answer.next.run more) (later_periods answer.next.run more)
        → AreRuns (first_period old.run (answer ∷ more)) (later_periods old.run (answer ∷ more))
    by true e rest =
        let is = is_another old number line lines answer are.0 e in
        rw e (
          shown old.run live leads,
          subst (λ (s : RunSoFar). IsPlantChange old.run s ⊎ IsRunRenumbered old.run s)
              (sym (begun_is answer.next.run (none_done old.run answer.next.run is)) ∙ sym (begins_alike answer.next (number + answer.lines) (drop answer.lines (line ∷ lines)) more are.1)) is,
          rest,
        )
    by false e rest = rw e rest

-- ---- those of a service whose frames keep their numbers

of_changes : (old : InService) (number : ℕ) (lines : List (List ℕ)) (answers : List ItemAnswer) (live : CoreView) → IsRunSoFarOf old.run live → AreItemAnswers old number lines answers
    → KeepNumbers answers → AreChanges (first_period old.run answers) (later_periods old.run answers)
of_changes old number [] [] live leads are keep = shown old.run live leads
of_changes old number [] (answer ∷ more) live leads are keep = absurd are
of_changes old number (line ∷ lines) [] live leads are keep = absurd are
of_changes old number (line ∷ lines) (answer ∷ more) live leads are keep =
    let behind = core_after old number line lines answer live leads are.0 in
    by answer.changes refl (of_changes answer.next (number + answer.lines) (drop answer.lines (line ∷ lines)) more behind.0 behind.1 are.1 keep.1)
  where
    by : (b : Bool) → answer.changes ≡ b → AreChanges (first_period answer.next.run more) (later_periods answer.next.run more)
        → AreChanges (first_period old.run (answer ∷ more)) (later_periods old.run (answer ∷ more))
    by true e rest =
        let is = is_changed old number line lines answer are.0 keep.0 e in
        rw e (
          shown old.run live leads,
          subst (λ (s : RunSoFar). IsPlantChange old.run s)
              (sym (begun_is answer.next.run is.nothing_done) ∙ sym (begins_alike answer.next (number + answer.lines) (drop answer.lines (line ∷ lines)) more are.1)) is,
          rest,
        )
    by false e rest = rw e rest

pub service_changes : ServiceIsOfChanges
service_changes first live input old new leads served keep = of_changes first 1 _ served.answers live leads served.answer keep

pub service_runs : ServiceIsOfRuns
service_runs first live input old new leads served = of_runs first 1 _ served.answers live leads served.answer
