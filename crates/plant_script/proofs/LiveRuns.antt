-- A run that is written as its steps are done.
use Rattle.std.proofs.Common.{◌≡◌, ◌≢◌, inl, inr, ℕ, List, [], ◌++◌, Option, Some, None, IsSome, refl, sym, ap, subst, ◌∙◌}
use Rattle.plant_script.proofs.Common.{slice_get, take, Appends, Appends-trans, PlantFields, first_start, CoreView, CoreFault, step_fault, LineStep, steps_without_numbers, outs_text, StepsEnd, IsStepsEndAt, HasDone, memory_line, IsEndStatus, EndsBy, IsScriptRun, status_of, line_of, IsWritten, EndsRun}
use Rattle.plant_core.specs.live.Performing.{IsOf}
use Rattle.plant_core.proofs.LiveLemmas.BehindLemmas.{behind}
use Rattle.plant_core.proofs.LiveLemmas.FaultLemmas.{same_step_fault}
use Rattle.line_service.specs.declared.steps_end.StepsEnd.TheVariants as ends

-- the run of the core with histories ends where the live core's does
ends_by : (live core : CoreView) (next : Option LineStep) (end : StepsEnd) → IsOf live core → IsStepsEndAt live next end → EndsBy core next (status_of end) (line_of end)
ends_by live core None ends.Done is at = inl (refl, refl)
ends_by live core (Some line) ends.Done is at = absurd at
ends_by live core None (ends.Refused number) is at = absurd at
ends_by live core (Some line) (ends.Refused number) is at =
    let refused : IsSome (step_fault core line.step) = subst (λ (f : Option CoreFault). IsSome f) (sym (same_step_fault live core line.step is)) at.1 in
    inl ((refl, refused), ap (λ (n : ℕ). line_of (ends.Refused n)) at.0)
ends_by live core None ends.NoMemory is at = absurd at
ends_by live core (Some line) ends.NoMemory is at = inr (same_step_fault live core line.step is ∙ at, refl, refl)

-- steps that are done from an opened core on are a run's
pub run_ends : (plant : PlantFields) (lines : List LineStep) (live : CoreView) (end : StepsEnd) (status : ℕ) (w0 w1 w2 : Option (List ℕ)) → HasDone plant (first_start plant) [] [] lines live end w0 w1
    → status ≡ status_of end → Appends w1 w2 (line_of end) → EndsRun plant lines status (λ text. Appends w0 w2 text)
run_ends plant lines live end status w0 w1 w2 has is wrote =
    let had = behind plant (first_start plant) (steps_without_numbers (take has.at lines)) has.told live has.after in (
      outs_text plant has.told ++ line_of end,
      record {
        at = has.at;
        outs = has.told;
        core = had.core;
        reached = had.reached;
        last = line_of end;
        ends = subst (λ (n : ℕ). EndsBy had.core (slice_get lines has.at) n (line_of end)) (sym is) (ends_by live had.core (slice_get lines has.at) end had.is_of has.ends);
        text_is = refl;
      },
      Appends-trans w0 w1 w2 (outs_text plant has.told) (line_of end) has.written wrote,
    )

-- a run that ends has not status 5
pub no_five : (core : CoreView) (next : Option LineStep) (status : ℕ) → IsEndStatus core next status → status ≢ 5
no_five core None status is = λ five. absurd (let wrong : ◌≡◌ {A = ℕ} 0 5 = sym is ∙ five in cc)
no_five core (Some line) status is = λ five. absurd (let wrong : ◌≡◌ {A = ℕ} 4 5 = sym is.0 ∙ five in cc)

-- nor 6
pub no_six : (core : CoreView) (next : Option LineStep) (status : ℕ) → IsEndStatus core next status → status ≢ 6
no_six core None status is = λ six. absurd (let wrong : ◌≡◌ {A = ℕ} 0 6 = sym is ∙ six in cc)
no_six core (Some line) status is = λ six. absurd (let wrong : ◌≡◌ {A = ℕ} 4 6 = sym is.0 ∙ six in cc)

-- what a run results in is written
pub run_written : (plant : PlantFields) (lines : List LineStep) (status : ℕ) (w0 w1 : Option (List ℕ)) → EndsRun plant lines status (λ text. Appends w0 w1 text)
    → IsWritten (IsScriptRun plant lines (λ done told. outs_text plant told)) status (λ text. Appends w0 w1 text)
run_written plant lines status w0 w1 ran = by ran.1.ends
  where
    run : IsScriptRun plant lines (λ done told. outs_text plant told) status ran.0
    run = ran.1

    by : (ends : EndsBy run.core (slice_get lines run.at) status run.last) → IsWritten (IsScriptRun plant lines (λ done told. outs_text plant told)) status (λ text. Appends w0 w1 text)
    by (inl well) = inl (ran.0, no_five run.core (slice_get lines run.at) status well.0, no_six run.core (slice_get lines run.at) status well.0, run, ran.2)
    by (inr want) =
        let text_is : ran.0 ≡ outs_text plant run.outs ++ memory_line = run.text_is ∙ ap (λ (l : List ℕ). outs_text plant run.outs ++ l) want.2 in
        inr (
          outs_text plant run.outs,
          want.1,
          subst (λ (t : List ℕ). Appends w0 w1 t) text_is ran.2,
          inr (subst (λ (t : List ℕ). IsScriptRun plant lines (λ done told. outs_text plant told) 5 t) text_is (subst (λ (n : ℕ). IsScriptRun plant lines (λ done told. outs_text plant told) n ran.0) want.1 run)),
        )
