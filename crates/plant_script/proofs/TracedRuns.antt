-- A run that is told in words as its steps are done.
use Rattle.std.proofs.Common.{◌≡◌, ◌⊎◌, inl, inr, ℕ, List, ◌++◌, Option, Some, None, refl, sym, ap, subst, ◌∙◌}
use Rattle.plant_script.proofs.Common.{slice_get, Appends, Appends-trans, PlantFields, CoreView, LineStep, StepsEnd, IsStepsEndAt, Trace, memory_line, EndsBy, status_of, line_of, EndsTraceBy, IsTracedRunOf, EndsTraced, RunsTo, IsWritten}
use Rattle.line_service.specs.declared.steps_end.StepsEnd.TheVariants as ends
use Rattle.trace_report.specs.declared.decision.Decision.{Decision}
use Rattle.trace_report.specs.Trace.{HasNoWords, IsTraceEndAt, HasTraced}
use Rattle.plant_script.proofs.LiveRuns.{no_five, no_six}

-- the run ends where its steps do
ends_by : (core : CoreView) (next : Option LineStep) (end : StepsEnd) → IsStepsEndAt core next end → EndsBy core next (status_of end) (line_of end)
ends_by core None ends.Done at = inl (refl, refl)
ends_by core (Some line) ends.Done at = absurd at
ends_by core None (ends.Refused number) at = absurd at
ends_by core (Some line) (ends.Refused number) at = inl ((refl, at.1), ap (λ (n : ℕ). line_of (ends.Refused n)) at.0)
ends_by core None ends.NoMemory at = absurd at
ends_by core (Some line) ends.NoMemory at = inr (at, refl, refl)

-- so does the trace, or it is out of memory for the words of the last step
trace_ends_by : (core : CoreView) (next : Option LineStep) (decisions : List (Option Decision)) (text : List ℕ) (end : StepsEnd) → IsTraceEndAt core next decisions text end
    → EndsTraceBy core next decisions text (status_of end) (line_of end)
trace_ends_by core next decisions text end (inl at) = inl (ends_by core next end at)
trace_ends_by core next decisions text end (inr words) =
    inr (subst (λ (e : StepsEnd). HasNoWords decisions text e) words.end_is words, ap status_of words.end_is, ap line_of words.end_is)

-- what was told of the steps, and the last line behind it
pub trace_ends : (plant : PlantFields) (script : List ℕ) (lines : List LineStep) (core : CoreView) (end : StepsEnd) (status : ℕ) (w0 w1 w2 : Option (List ℕ)) → HasTraced plant script lines core end w0 w1
    → status ≡ status_of end → Appends w1 w2 (line_of end) → EndsTraced plant script lines status (λ text. Appends w0 w2 text)
trace_ends plant script lines core end status w0 w1 w2 has is wrote = (
  has.text ++ line_of end,
  record {
    at = has.at;
    outs = has.told;
    core = core;
    reached = has.reached;
    decisions = has.decisions;
    decided = has.decided;
    told = has.text;
    is_text = has.is_text;
    next = has.next;
    next_is = next_by has.next_is;
    reported = has.reported;
    last = line_of end;
    ends = subst (λ (n : ℕ). EndsTraceBy core (slice_get lines has.at) has.decisions has.text n (line_of end)) (sym is)
        (trace_ends_by core (slice_get lines has.at) has.decisions has.text end has.ends);
    text_is = refl;
  },
  Appends-trans w0 w1 w2 has.text (line_of end) has.written wrote,
)
  where
    next_by : (has.next ≡ slice_get lines has.at) ⊎ (HasNoWords has.decisions has.text end × (has.next ≡ None))
        → (has.next ≡ slice_get lines has.at) ⊎ (HasNoWords has.decisions has.text ends.NoMemory × (has.next ≡ None))
    next_by (inl is) = inl is
    next_by (inr words) = inr (subst (λ (e : StepsEnd). HasNoWords has.decisions has.text e) words.0.end_is words.0, words.1)

-- what a trace results in is written
pub trace_written : (plant : PlantFields) (script : List ℕ) (lines : List LineStep) (status : ℕ) (w0 w1 : Option (List ℕ)) → EndsTraced plant script lines status (λ text. Appends w0 w1 text)
    → IsWritten (RunsTo plant Trace script lines) status (λ text. Appends w0 w1 text)
trace_written plant script lines status w0 w1 ran = by ran.1.ends
  where
    run : IsTracedRunOf plant script lines status ran.0
    run = ran.1

    -- memory ran out for the next step, or for the words of the last one
    out : status ≡ 5 → run.last ≡ memory_line → IsWritten (RunsTo plant Trace script lines) status (λ text. Appends w0 w1 text)
    out five last_is =
        let text_is : ran.0 ≡ run.told ++ memory_line = run.text_is ∙ ap (λ (l : List ℕ). run.told ++ l) last_is in
        inr (
          run.told,
          five,
          subst (λ (t : List ℕ). Appends w0 w1 t) text_is ran.2,
          inr (subst (λ (t : List ℕ). IsTracedRunOf plant script lines 5 t) text_is (subst (λ (n : ℕ). IsTracedRunOf plant script lines n ran.0) five run)),
        )

    by : (ends : EndsTraceBy run.core (slice_get lines run.at) run.decisions run.told status run.last) → IsWritten (RunsTo plant Trace script lines) status (λ text. Appends w0 w1 text)
    by (inl (inl well)) = inl (ran.0, no_five run.core (slice_get lines run.at) status well.0, no_six run.core (slice_get lines run.at) status well.0, run, ran.2)
    by (inl (inr want)) = out want.1 want.2
    by (inr words) = out words.1 words.2
