-- The steps of a script's lines, captured one after the other.
use Rattle.std.proofs.Common.{◌≡◌, ℕ, ◌+◌, ◌<◌, ◌≤◌, List, [], ◌∷◌, ◌++◌, length, take, get_or, Option, Some, None, IsSome, refl, sym, ap, subst, ◌∙◌}
use Rattle.plant_script.proofs.Common.{slice_get, map-append, take_more, slice_get-get_or, slice_get_past, PlantFields, Step, Out, CoreView, IsStateAfter, CoreFault, step_fault, LineStep, steps_without_numbers, Answer, IsEndStatus, IsCapturedRunOf, IsRefused, AreCaptured, HasCaptured, IsStatusOf, status_code}
use Rattle.run_model.specs.Ordered.{target, IsTold}
use Rattle.pcap_capture.specs.Capture.{CaptureView, opened_capture, CapturesRun, IsCaptureOf}
use Rattle.pcap_capture.proofs.OneCapture.{last_told}
use Rattle.pcap_capture.proofs.RunLemmas.{opened_run}

-- nothing is done, and nothing captured
pub none_captured : (plant : PlantFields) (core : CoreView) (captured : CaptureView) → IsStateAfter plant [] [] core → captured ≡ opened_capture plant.consts
    → AreCaptured plant [] core captured
none_captured plant core captured reached is = record {
  outs = [];
  reached = reached;
  of_run = subst (λ (c : CaptureView). CapturesRun plant [] [] c) (sym is) (opened_run plant);
}

-- one line more
lines_more : (lines : List LineStep) (i : ℕ) (line : LineStep) → i < length lines → line ≡ get_or lines i line
    → steps_without_numbers (take (i + 1) lines) ≡ steps_without_numbers (take i lines) ++ line.step ∷ []
lines_more lines i line lt is =
    ap steps_without_numbers (take_more lines i line lt ∙ ap (λ (l : LineStep). take i lines ++ l ∷ []) (sym is))
    ∙ map-append (λ (l : LineStep). l.step) (take i lines) (line ∷ [])

-- the line's step is done, by a copy of it, and captured with what it put out
pub captured_more : (plant : PlantFields) (lines : List LineStep) (i : ℕ) (line : LineStep) (step : Step) (old new : CoreView) (before after : CaptureView) (now said : List Out)
    → i < length lines → line ≡ get_or lines i line → step ≡ line.step → said ≡ now → AreCaptured plant (take i lines) old before
    → ((steps : List Step) (told : List Out) → IsStateAfter old.plant steps told old → IsStateAfter old.plant (steps ++ step ∷ []) (told ++ now) new)
    → ((p : PlantFields) (steps : List Step) (told : List Out) → CapturesRun p steps told before → IsTold p steps line.step (target p line.step) said → CapturesRun p (steps ++ line.step ∷ []) (told ++ said) after)
    → AreCaptured plant (take (i + 1) lines) new after
captured_more plant lines i line step old new before after now said lt is copy same done reached captured =
    let front = steps_without_numbers (take i lines) in
    let more : front ++ line.step ∷ [] ≡ steps_without_numbers (take (i + 1) lines) = sym (lines_more lines i line lt is) in
    let plant_is = done.reached.plant_is in
    let then_new = reached front done.outs (subst (λ (p : PlantFields). IsStateAfter p front done.outs old) (sym plant_is) done.reached) in
    let of_plant = subst (λ (p : PlantFields). IsStateAfter p (front ++ step ∷ []) (done.outs ++ now) new) plant_is then_new in
    let of_line = subst (λ (s : Step). IsStateAfter plant (front ++ s ∷ []) (done.outs ++ now) new) copy of_plant in
    let own = last_told plant front done.outs line.step now done.reached.shown done.reached.ordered of_line.ordered in
    record {
      outs = done.outs ++ now;
      reached = subst (λ (s : List Step). IsStateAfter plant s (done.outs ++ now) new) more of_line;
      of_run = subst (λ (s : List Step). CapturesRun plant s (done.outs ++ now) after) more
          (subst (λ (o : List Out). CapturesRun plant (front ++ line.step ∷ []) (done.outs ++ o) after) same
          (captured plant front done.outs done.of_run (subst (λ (o : List Out). IsTold plant front line.step (target plant line.step) o) (sym same) own)));
    }

-- ---- the end

pub all_captured : (plant : PlantFields) (lines : List LineStep) (i : ℕ) (core : CoreView) (captured : CaptureView) → length lines ≤ i
    → AreCaptured plant (take i lines) core captured → HasCaptured plant lines None core captured
all_captured plant lines i core captured end done = record {
  at = i;
  done = done;
  ends = subst (λ (o : Option LineStep). IsRefused core o None) (sym (slice_get_past lines i end)) refl;
}

pub captured_refused : (plant : PlantFields) (lines : List LineStep) (i : ℕ) (line : LineStep) (step : Step) (old core : CoreView) (captured : CaptureView) (fault : CoreFault)
    → i < length lines → line ≡ get_or lines i line → step ≡ line.step → AreCaptured plant (take i lines) old captured → core ≡ old → step_fault old step ≡ Some fault
    → HasCaptured plant lines (Some line.number) core captured
captured_refused plant lines i line step old core captured fault lt is copy done same refused =
    let of_line : step_fault old line.step ≡ Some fault = ap (step_fault old) (sym copy) ∙ refused in
    let told : IsSome (step_fault old line.step) = rw of_line refl in
    let here : slice_get lines i ≡ Some line = slice_get-get_or lines i line lt ∙ ap (λ (l : LineStep). Some l) (sym is) in
    subst (λ (c : CoreView). HasCaptured plant lines (Some line.number) c captured) (sym same)
    (record { at = i; done = done; ends = subst (λ (o : Option LineStep). IsRefused old o (Some line.number)) (sym here) (refl, told) })

-- ---- the file

-- the status where a run ends
end_status : (core : CoreView) (line : Option LineStep) (refused : Option ℕ) (status : ℕ) → IsRefused core line refused → IsStatusOf refused status → IsEndStatus core line status
end_status core None refused status none is = subst (λ (r : Option ℕ). IsStatusOf r status) none is
end_status core (Some line) refused status told is = (subst (λ (r : Option ℕ). IsStatusOf r status) told.0 is, told.1)

pub filed_run : (plant : PlantFields) (lines these : List LineStep) (refused : Option ℕ) (core : CoreView) (captured : CaptureView) (file : List ℕ) (answer : Answer)
    → these ≡ lines → HasCaptured plant these refused core captured
    → ((p : PlantFields) (steps : List Step) (outs : List Out) → CapturesRun p steps outs captured → IsCaptureOf p steps outs file)
    → answer.text.items ≡ file → IsStatusOf refused (status_code answer.status) → IsCapturedRunOf plant lines (status_code answer.status) answer.text.items
filed_run plant lines these refused core captured file answer same run of_run text status =
    subst (λ (l : List LineStep). IsCapturedRunOf plant l (status_code answer.status) answer.text.items) same (record {
      at = run.at;
      outs = run.done.outs;
      core = core;
      reached = run.done.reached;
      ends = end_status core (slice_get these run.at) refused (status_code answer.status) run.ends status;
      captured = subst (λ (t : List ℕ). IsCaptureOf plant (steps_without_numbers (take run.at these)) run.done.outs t) (sym text)
          (of_run plant (steps_without_numbers (take run.at these)) run.done.outs run.done.of_run);
    })
